use Rattle.std.proofs.Common.{◌≡◌, ◌<◌, ◌≤◌, ◌+◌, ◌-◌, ◌⊎◌, ℕ, inl, inr, sym, subst, arith, length}
use Rattle.lin_alg.specs.Rows.{vector}
use Rattle.real_form.proofs.SparseLemmas.{zero-at}
use Rattle.real_form.proofs.places.last_place.Goals as goal

pub loop-j-preserved : goal.loop-j-preserved
loop-j-preserved g c k l =
    let f = g.F.Field.field in
    let v = g.F.Field.value in
    let j = c.loop-j.j - 1 in
    let above = c.loop-j-test.true in
    let few = c.loop-j.auto.j in
    let lj : j < length c.args.w.now = omega (arith, above, few) in
    let z : vector f.laws v c.args.w.now j ≡ f.laws.nought = zero-at f v c.args.w.now j c.index-w-j.result c.is_zero.result lj c.index-w-j.is c.is_zero.ensures c.if-not-is_zero.false in
    elim (next k j l) [
      | inl e ↦ subst (λ (i : ℕ). vector f.laws v c.args.w.now i ≡ f.laws.nought) (sym e) z
      | inr m ↦ c.loop-j.invariant k (omega (arith, m, above))
    ]
  where
    next : (k j : ℕ) → j ≤ k → (k ≡ j) ⊎ (j + 1 ≤ k)
    next k j l = grind arith
