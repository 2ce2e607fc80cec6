use Rattle.induce.proofs.WeightLemmas.{AreHeld}
use Rattle.induce.proofs.weights.form_weights.Given as goal

abbrev pub invariant-loop-d : goal.invariant-loop-d
invariant-loop-d l = AreHeld l.characters l.held.weights.items l.held.known.items l.d
