use Rattle.std.proofs.Common.{◌≡◌, ◌<◌, ℕ}
use Rattle.lin_alg.specs.Rows.{vector}
use Rattle.real_form.proofs.places.first_place.Given as goal

abbrev pub invariant-loop-i : goal.invariant-loop-i
invariant-loop-i g l =
    let f = g.F.Field.field in
    let v = g.F.Field.value in
    (k : ℕ) → k < l.i → vector f.laws v l.w k ≡ f.laws.nought
