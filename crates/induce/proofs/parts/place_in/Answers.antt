use Rattle.induce.proofs.ArmLemmas.{not_listed}
use Rattle.induce.proofs.parts.place_in.Goals as goal

pub returns : goal.returns
returns c = not_listed c.args.numbers.now c.args.number c.loop-place.place c.loop-place-test.false c.loop-place.invariant
