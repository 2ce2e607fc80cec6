use Rattle.std.proofs.Common.{◌≡◌, ◌≤◌, ℕ}
use Rattle.lin_alg.specs.Rows.{vector}
use Rattle.real_form.proofs.places.last_place.Given as goal

abbrev pub invariant-loop-j : goal.invariant-loop-j
invariant-loop-j g l =
    let f = g.F.Field.field in
    let v = g.F.Field.value in
    (k : ℕ) → l.j ≤ k → vector f.laws v l.w k ≡ f.laws.nought
