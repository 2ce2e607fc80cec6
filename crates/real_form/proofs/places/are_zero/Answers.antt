use Rattle.std.proofs.Common.{◌≡◌, ◌<◌, ◌+◌, ◌⊎◌, ℕ, inl, inr, sym, subst, arith, length}
use Rattle.lin_alg.specs.Rows.{vector}
use Rattle.real_form.proofs.SparseLemmas.{zero-at}
use Rattle.real_form.proofs.places.are_zero.Goals as goal

pub loop-k-preserved : goal.loop-k-preserved
loop-k-preserved g c i a b =
    let f = g.F.Field.field in
    let v = g.F.Field.value in
    let k = c.loop-k.k in
    let test = c.loop-k-test.true in
    let inside = c.requires.inside in
    let lk : k < length c.args.w.now = omega (arith, test, inside) in
    let z : vector f.laws v c.args.w.now k ≡ f.laws.nought = zero-at f v c.args.w.now k c.index-w-k.result c.is_zero.result lk c.index-w-k.is c.is_zero.ensures c.if-not-is_zero.false in
    elim (before i k b) [
      | inl m ↦ c.loop-k.invariant i a m
      | inr e ↦ subst (λ (i : ℕ). vector f.laws v c.args.w.now i ≡ f.laws.nought) (sym e) z
    ]
  where
    before : (i k : ℕ) → i < k + 1 → (i < k) ⊎ (i ≡ k)
    before i k l = grind arith
