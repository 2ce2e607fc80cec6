use Rattle.induce.proofs.PhasedLemmas.{entry_zero}
use Rattle.induce.proofs.places.moved_arm.Goals as goal

pub returns-clause-zero : goal.returns-clause-zero
returns-clause-zero c a b la lb k d = entry_zero c.args.quotient.now c.args.tables.now c.args.q c.args.i c.place_of-place.result c.place_of-place.ensures a b la k d
