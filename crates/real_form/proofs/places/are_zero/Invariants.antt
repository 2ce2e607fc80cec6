use Rattle.std.proofs.Common.{◌≡◌, ◌<◌, ℕ}
use Rattle.lin_alg.specs.Rows.{vector}
use Rattle.real_form.proofs.places.are_zero.Given as goal

abbrev pub invariant-loop-k : goal.invariant-loop-k
invariant-loop-k g l =
    let f = g.F.Field.field in
    let v = g.F.Field.value in
    (i : ℕ) → l.i < i → i < l.k → vector f.laws v l.w i ≡ f.laws.nought
