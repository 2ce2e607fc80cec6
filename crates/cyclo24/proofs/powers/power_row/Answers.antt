use Rattle.cyclo24.specs.Eight.{mul8}
use Rattle.cyclo24.specs.Z24RootsLaws.{row_is}
use Rattle.cyclo24.proofs.powers.power_row.Goals as goal

pub returns : goal.returns
unfolding mul8
returns c = row_is _ 24 c.args.a c.requires
