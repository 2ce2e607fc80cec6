-- Elements that fix all on which equations vanish.
use Rattle.std.proofs.Common.{ℕ, ◌<◌, ◌≤◌, inl, List, arith}
use Rattle.cyclo24.specs.ExactField.{ExactField, Value}
use Rattle.lin_alg.specs.Action.{Action, IsFixed}
use Rattle.lin_alg.specs.Equations.{Vanishes}
use Rattle.lin_alg.specs.EquationLaws.{vanishing-span}
use Rattle.lin_alg.specs.Fixed.{FixesAll, mover}
use Rattle.lin_alg.specs.ImageLaws.{span-vanishes}
use Rattle.lin_alg.specs.Insertion.{IsWideReduce}
use Rattle.lin_alg.specs.MoverLaws.{mover-row, mover-within}
use Rattle.lin_alg.specs.Reduced.{IsForm}
use Rattle.lin_alg.specs.Spans.{row_vectors, IsInSpan}
use Rattle.fix_lattice.specs.Wide.{IsWideInserts}

module _ (f : ExactField) (act : Action) (q : ℕ) (rs : List (ℕ × (ℕ → Value f))) (form : IsForm f.laws act.dim rs) where
  -- the first i rows of A(q) - 1 are in the span of the equations
  abbrev pub AreSpanned : ℕ → Type 0
  AreSpanned i = (k : ℕ) → k < i → IsInSpan f.laws (row_vectors rs) (mover f.laws act q k)

  -- all rows are, so q fixes all
  pub spanned-fixes : (i : ℕ) → act.dim ≤ i → AreSpanned i → FixesAll (IsFixed f.laws act) (Vanishes f.laws act.dim (row_vectors rs)) q
  spanned-fixes i l s v h k m = (mover-row f act q k v m).0 (span-vanishes f act.dim (row_vectors rs) v h (mover f.laws act q k) (s k (omega arith)))

  -- a row isn't, so q moves one
  pub other-moves : (i : ℕ) → i < act.dim → (IsInSpan f.laws (row_vectors rs) (mover f.laws act q i) → ⊥) → FixesAll (IsFixed f.laws act) (Vanishes f.laws act.dim (row_vectors rs)) q → ⊥
  other-moves i l n a =
      n (vanishing-span f.laws act.dim rs (mover f.laws act q i) form.pivots form.reduced form.within (mover-within f act q i) (λ v h. (mover-row f act q i v l).1 (a v h i l)))

  pub spanned-wide : (i : ℕ) → i < act.dim → AreSpanned i → IsWideReduce f rs (mover f.laws act q i) → IsWideInserts f act.dim rs act.dim (mover f.laws act q)
  spanned-wide i l s w = (
    i,
    l,
    rs,
    record { form = form; vanishes = λ v. (λ h. (λ k m. span-vanishes f act.dim (row_vectors rs) v h (mover f.laws act q k) (s k m), h), λ h. h.1) },
    inl w,
  )
