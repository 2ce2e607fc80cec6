use Rattle.mode_report.specs.declared.parts.Part.TheVariants.{Mode}
use Rattle.mode_report.proofs.PartLemmas.{modes-more}
use Rattle.mode_report.proofs.parts.push_modes.Goals as goal

pub loop-m-preserved : goal.loop-m-preserved
loop-m-preserved c = modes-more (λ m. Mode c.args.i m) c.args.parts.now.items c.loop-m.parts.items c.add.new.items.items c.loop-m.m c.loop-m.invariant c.in_ok-add.ensures
