use Rattle.report_steps.specs.WaveLaws.{wave-vector}
use Rattle.report_steps.proofs.star.star_of.Goals as goal

pub new-requires : goal.new-requires
new-requires c = wave-vector c.args.irrep.now c.requires
