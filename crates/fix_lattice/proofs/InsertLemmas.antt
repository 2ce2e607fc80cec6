-- Rows inserted in order.
use Rattle.std.proofs.Common.{◌≡◌, ◌↔◌, ℕ, suc, zero, ◌<◌, inl, inr, refl, sym, ap, subst, List, [], ◌∷◌, arith, length, get_or}
use Rattle.cyclo24.specs.ExactField.{ExactField, Value}
use Rattle.cyclo24.specs.FieldOn.{FieldOn}
use Rattle.lin_alg.specs.Equations.{dot}
use Rattle.fix_lattice.specs.Lattice.{IsInSpace}
use Rattle.lin_alg.specs.Reduced.{IsForm}
use Rattle.lin_alg.specs.Rows.{vector, exact_rows, HaveWidth}
use Rattle.lin_alg.specs.UnionLaws.{lower}
use Rattle.fix_lattice.specs.Wide.{IsFormAfter, row_of}

module _ {K : Type 0} (f : FieldOn K) (w : ℕ) (us : List (ℕ × (ℕ → K))) (row : ℕ → ℕ → K) where
  -- before the first row
  pub after-none : IsForm f w us → IsFormAfter f w us row 0 us
  after-none r = record { form = r; vanishes = λ v. (λ h. (λ i l. absurd (omega arith), h), λ h. h.1) }

  -- after one more row
  pub after-more : (k : ℕ) (old new : List (ℕ × (ℕ → K))) → IsFormAfter f w us row k old → IsForm f w new →
      ((v : ℕ → K) → IsInSpace f w new v ↔ ((dot f w (row k) v ≡ f.nought) × IsInSpace f w old v)) → IsFormAfter f w us row (suc k) new
  after-more k old new t r e = record {
    form = r;
    vanishes = λ v. (
      λ h.
          let both = (e v).0 h in
          let before = (t.vanishes v).0 both.1 in
          (λ i l. elim (lower i k l) [ inl b ↦ before.0 i b | inr s ↦ subst (λ (z : ℕ). dot f w (row z) v ≡ f.nought) (sym s) both.0 ], before.1),
      λ h. (e v).1 (h.0 k (omega arith), (t.vanishes v).1 (λ i l. h.0 i (omega arith), h.1)),
    );
  }

  -- rows vanish where each of them does
  each-row : (es : List (ℕ × (ℕ → K))) (v : ℕ → K) → IsInSpace f w es v → (i : ℕ) → i < length es → dot f w (row_of f es i) v ≡ f.nought
  each-row [] v h i l = absurd (omega arith)
  each-row (e ∷ es) v h zero l = h.0
  each-row (e ∷ es) v h (suc i) l = each-row es v h.1 i (omega arith)

  row-each : (es : List (ℕ × (ℕ → K))) (v : ℕ → K) → ((i : ℕ) → i < length es → dot f w (row_of f es i) v ≡ f.nought) → IsInSpace f w es v
  row-each [] v h = tt
  row-each (e ∷ es) v h = (h 0 (omega arith), row-each es v (λ i l. h (suc i) (omega arith)))

  pub each-vanishes : (es : List (ℕ × (ℕ → K))) (v : ℕ → K) → ((i : ℕ) → i < length es → dot f w (row_of f es i) v ≡ f.nought) ↔ IsInSpace f w es v
  each-vanishes es v = (row-each es v, each-row es v)

module _ {A : Type 0} (f : ExactField) (value : A → Value f) where
  pub rows-length : (rs : List (ℕ × List A)) → length (exact_rows f.laws value rs) ≡ length rs
  rows-length [] = refl
  rows-length (r ∷ rs) = ap suc (rows-length rs)

  -- a stored row as the exact row
  pub row-exact : (rs : List (ℕ × List A)) (i : ℕ) → vector f.laws value (get_or rs i (0, [])).1 ≡ row_of f.laws (exact_rows f.laws value rs) i
  row-exact [] i = refl
  row-exact (r ∷ rs) zero = refl
  row-exact (r ∷ rs) (suc i) = row-exact rs i

  -- a stored row is as wide as the form
  pub row-width : (w : ℕ) (rs : List (ℕ × List A)) (i : ℕ) → HaveWidth w rs → i < length rs → length (get_or rs i (0, [])).1 ≡ w
  row-width w [] i h l = absurd (omega arith)
  row-width w (r ∷ rs) zero h l = h.1
  row-width w (r ∷ rs) (suc i) h l = row-width w rs i h.2 (omega arith)

-- what an insertion tells, with the width and the row named anew
pub cut-read : {K : Type 0} (f : FieldOn K) (w n m : ℕ) (old new : List (ℕ × (ℕ → K))) (x y u : ℕ → K) → n ≡ w → m ≡ w → x ≡ y →
    IsInSpace f n new u ↔ ((dot f m x u ≡ f.nought) × IsInSpace f m old u) → IsInSpace f w new u ↔ ((dot f w y u ≡ f.nought) × IsInSpace f w old u)
cut-read f w n m old new x y u p q r h =
    subst (λ (z : ℕ). IsInSpace f z new u ↔ ((dot f w y u ≡ f.nought) × IsInSpace f w old u)) p
    (subst (λ (z : ℕ). IsInSpace f n new u ↔ ((dot f z y u ≡ f.nought) × IsInSpace f z old u)) q
    (subst (λ z. IsInSpace f n new u ↔ ((dot f m z u ≡ f.nought) × IsInSpace f m old u)) r h))
