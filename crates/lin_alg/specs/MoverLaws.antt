-- The rows of A(q) - 1 as equations of what q fixes.
--
-- mover-dot, mover-row: row i of A(q) - 1 at v is the difference of A(q) v and v at i
-- movers-fixed: the rows vanish on v exactly where q fixes v
-- mover-equations: a form of their span is the equations of Fix(q)
use Rattle.std.proofs.Common.{◌≡◌, ℕ, suc, zero, ◌<◌, ◌≤◌, inl, inr, sym, ◌∙◌, ap, subst, List, [], ◌∷◌, ◌↔◌, arith, lt-ltb, le-ltb, if◌then◌else◌}
use Rattle.cyclo24.specs.ExactField.{ExactField, Value}
use Rattle.lin_alg.specs.Action.{Action, IsFixed, entry_of, image}
use Rattle.lin_alg.specs.EquationLaws.{dot-unit}
use Rattle.lin_alg.specs.Equations.{Vanishes, dot, unit_vector}
use Rattle.cyclo24.specs.FieldLaws.{neg-neg, neg-unique, plus-times, times-neg}
use Rattle.lin_alg.specs.Fixed.{Fix, IsFixForm, mover, movers}
use Rattle.lin_alg.specs.FormLaws.{form-equations, vanishes-mono}
use Rattle.lin_alg.specs.Matrices.{unit_entry}
use Rattle.lin_alg.specs.Reduced.{IsForm, IsWithin}
use Rattle.lin_alg.specs.Spans.{row_vectors, IsInSpan}
use Rattle.cyclo24.specs.TotalLaws.{total-plus, total-same, total-times}
use Rattle.lin_alg.specs.UnionLaws.{lower}

module _ (f : ExactField) (act : Action) where
  unit-flip : (i j : ℕ) → unit_entry f.laws i j ≡ unit_vector f.laws i j
  unit-flip i j = ap (λ b. if b then f.laws.unit else f.laws.nought) (grind arith)

  dot-flip : (w i : ℕ) (v : ℕ → Value f) → i < w → dot f.laws w (unit_vector f.laws i) v ≡ v i
  dot-flip w i v l = total-same f.laws w _ _ (λ k m. f.laws.times_comm (unit_vector f.laws i k) (v k)) ∙ dot-unit f.laws w v i l

  -- row i of A(q) - 1 at v is entry i of the difference
  pub mover-dot : (q i : ℕ) (v : ℕ → Value f) → i < act.dim → dot f.laws act.dim (mover f.laws act q i) v ≡ f.laws.plus (image f.laws act q v i) (f.laws.neg (v i))
  mover-dot q i v l =
      let a : ℕ → Value f = λ j. entry_of f.laws act q i j in
      let term : (j : ℕ) → j < act.dim → f.laws.times (mover f.laws act q i j) (v j) ≡ f.laws.plus (f.laws.times (a j) (v j)) (f.laws.times (f.laws.neg f.laws.unit) (f.laws.times (unit_vector f.laws i j) (v j))) =
      λ j m.
      ap (λ b. f.laws.times (if b then f.laws.plus (a j) (f.laws.neg (unit_entry f.laws i j)) else f.laws.nought) (v j)) (lt-ltb j act.dim m)
      ∙ plus-times f.laws (a j) (f.laws.neg (unit_entry f.laws i j)) (v j)
      ∙ ap (λ z. f.laws.plus (f.laws.times (a j) (v j)) (f.laws.times (f.laws.neg z) (v j))) (unit-flip i j)
      ∙ ap (λ z. f.laws.plus (f.laws.times (a j) (v j)) z) (ap (λ z. f.laws.times z (v j)) (sym (f.laws.times_comm (f.laws.neg f.laws.unit) (unit_vector f.laws i j) ∙ times-neg f.laws (unit_vector f.laws i j) f.laws.unit ∙ ap f.laws.neg (f.laws.times-unit (unit_vector f.laws i j))))
      ∙ f.laws.times_assoc (f.laws.neg f.laws.unit) (unit_vector f.laws i j) (v j)) in
      total-same f.laws act.dim _ _ term
      ∙ total-plus f.laws act.dim (λ j. f.laws.times (a j) (v j)) (λ j. f.laws.times (f.laws.neg f.laws.unit) (f.laws.times (unit_vector f.laws i j) (v j)))
      ∙ ap (f.laws.plus (image f.laws act q v i)) (total-times f.laws act.dim (f.laws.neg f.laws.unit) (λ j. f.laws.times (unit_vector f.laws i j) (v j))
      ∙ ap (f.laws.times (f.laws.neg f.laws.unit)) (dot-flip act.dim i v l)
      ∙ f.laws.times_comm (f.laws.neg f.laws.unit) (v i) ∙ times-neg f.laws (v i) f.laws.unit ∙ ap f.laws.neg (f.laws.times-unit (v i)))

  differ-nought : (x y : Value f) → f.laws.plus x (f.laws.neg y) ≡ f.laws.nought → x ≡ y
  differ-nought x y h = neg-unique f.laws x (f.laws.neg y) h ∙ neg-neg f.laws y

  pub mover-row : (q i : ℕ) (v : ℕ → Value f) → i < act.dim → (dot f.laws act.dim (mover f.laws act q i) v ≡ f.laws.nought) ↔ (image f.laws act q v i ≡ v i)
  mover-row q i v l = (
    λ h. differ-nought (image f.laws act q v i) (v i) (sym (mover-dot q i v l) ∙ h),
    λ h. mover-dot q i v l ∙ ap (λ z. f.laws.plus z (f.laws.neg (v i))) h ∙ f.laws.plus-neg (v i),
  )

  upto : (q : ℕ) (v : ℕ → Value f) (n : ℕ) → n ≤ act.dim → Vanishes f.laws act.dim (movers f.laws act q n) v ↔ ((i : ℕ) → i < n → image f.laws act q v i ≡ v i)
  upto q v zero l = (λ k i m. absurd (omega arith), λ a. tt)
  upto q v (suc n) l =
      let below : n < act.dim = omega arith in
      let rest = upto q v n (omega arith) in (
        λ k i m. elim (lower i n m) [ inl b ↦ rest.0 k.1 i b | inr e ↦ subst (λ (z : ℕ). image f.laws act q v z ≡ v z) (sym e) ((mover-row q n v below).0 k.0) ],
        λ a. ((mover-row q n v below).1 (a n (omega arith)), rest.1 (λ i m. a i (omega arith))),
      )

  -- the rows of A(q) - 1 vanish on v exactly where q leaves v as it is
  pub movers-fixed : (q : ℕ) (v : ℕ → Value f) → Vanishes f.laws act.dim (movers f.laws act q act.dim) v ↔ IsFixed f.laws act q v
  movers-fixed q v = upto q v act.dim (omega arith)

  pub mover-within : (q i : ℕ) → IsWithin f.laws act.dim (mover f.laws act q i)
  mover-within q i j l = ap (λ b. if b then f.laws.plus (entry_of f.laws act q i j) (f.laws.neg (unit_entry f.laws i j)) else f.laws.nought) (le-ltb j act.dim l)

  -- a form with the span of the rows of A(q) - 1 is the equations of Fix(q)
  pub mover-equations : (q : ℕ) (rs : List (ℕ × (ℕ → Value f))) → IsForm f.laws act.dim rs →
      ((x : ℕ → Value f) → IsInSpan f.laws (row_vectors rs) x ↔ IsInSpan f.laws (movers f.laws act q act.dim) x) → IsFixForm f.laws act (q ∷ []) rs
  mover-equations q rs r e =
      form-equations f.laws act.dim (Fix f.laws act (q ∷ [])) rs r (λ v. (
        λ k. ((movers-fixed q v).0 (vanishes-mono f.laws act.dim (row_vectors rs) (movers f.laws act q act.dim) (λ x. (e x).1) v k), tt),
        λ a. vanishes-mono f.laws act.dim (movers f.laws act q act.dim) (row_vectors rs) (λ x. (e x).0) v ((movers-fixed q v).1 a.0),
      ))
