-- What rows of a program obey as exact rows.
--
-- vector-past: a row is 0 behind its end
-- width-form: reduced rows of one width are a form
-- equality-told: where the order is that of exact values, equality is too
use Rattle.std.proofs.Common.{◌≡◌, ◌↔◌, ℕ, Bool, true, ◌≤◌, refl, sym, ◌∙◌, ap, List, [], ◌∷◌, length, map, arith, nat_eq, ◌||◌}
use Rattle.std.proofs.lemmas.List.{get_or_past, length-map}
use Rattle.std.specs.declared.cmp.Ordering.{Ordering}
use Rattle.std.specs.Ordering.{eq_by_cmp, is_eq}
use Rattle.std.specs.Cmp.{Equal-is}
use Rattle.std.proofs.lemmas.Cmp.{tied_itself}
use Rattle.cyclo24.specs.ExactField.{ExactField, Value}
use Rattle.lin_alg.specs.Spans.{row_vectors, HasRows}
use Rattle.lin_alg.specs.Reduced.{IsReduced, IsForm, IsWithin, PivotsBelow, ArePast, is_pivot}
use Rattle.lin_alg.specs.FreeLaws.{AllPast, AreRising}
use Rattle.lin_alg.specs.Rows.{vector, exact_rows, HaveWidth}

module _ {A : Type 0} (f : ExactField) (value : A → Value f) where
  pub vector-past : (xs : List A) (j : ℕ) → length xs ≤ j → vector f.laws value xs j ≡ f.laws.nought
  vector-past xs j l = get_or_past (map value xs) j f.laws.nought (rw length-map l)

  width-within : (w : ℕ) (rs : List (ℕ × List A)) → HaveWidth w rs → HasRows (IsWithin f.laws w) (row_vectors (exact_rows f.laws value rs))
  width-within w [] a = tt
  width-within w (r ∷ rs) a = (λ j l. let e : length r.1 ≡ w = a.1 in vector-past r.1 j (omega arith), width-within w rs a.2)

  width-pivots : (w : ℕ) (rs : List (ℕ × List A)) → HaveWidth w rs → PivotsBelow w (exact_rows f.laws value rs)
  width-pivots w [] a = tt
  width-pivots w (r ∷ rs) a = (a.0, width-pivots w rs a.2)

  -- reduced rows of one width are a form
  pub width-form : (w : ℕ) (rs : List (ℕ × List A)) → HaveWidth w rs → IsReduced f.laws (exact_rows f.laws value rs) → IsForm f.laws w (exact_rows f.laws value rs)
  width-form w rs a r = record { reduced = r; pivots = width-pivots w rs a; within = width-within w rs a }

-- the exact rows have the same pivots
pub exact-pivot : {A : Type 0} (f : ExactField) (value : A → Value f) (p : ℕ) (rs : List (ℕ × List A)) → is_pivot p (exact_rows f.laws value rs) ≡ is_pivot p rs
exact-pivot f value p [] = refl
exact-pivot f value p (r ∷ rs) = ap (λ b. nat_eq p r.0 || b) (exact-pivot f value p rs)

-- two values are equal exactly where their exact values are, since they compare as those do
pub equality-told : {A : Type 0} (f : ExactField) (value : A → Value f) (E : A → A → Bool) (R : A → A → Ordering) → ((x y : A) → E x y ≡ eq_by_cmp R x y) →
    ((x y : A) → R x y ≡ f.cmp (value x) (value y)) → (x y : A) → (E x y ≡ true) ↔ (value x ≡ value y)
equality-told f value E R ties tells x y = (
  λ h. f.cmp-Equal (value x) (value y) (sym (tells x y) ∙ (Equal-is (R x y)).0 (sym (ties x y) ∙ h)),
  λ h. ties x y ∙ ap is_eq (tells x y ∙ ap (f.cmp (value x)) (sym h) ∙ tied_itself f.cmp_total (value x)),
)

-- the pivots of a form rise
reduced-past : {A : Type 0} (f : ExactField) (value : A → Value f) (p : ℕ) (rs : List (ℕ × List A)) → ArePast f.laws p (exact_rows f.laws value rs) → AllPast p rs
reduced-past f value p [] a = tt
reduced-past f value p (r ∷ rs) a = (a.0, reduced-past f value p rs a.2)

pub reduced-rising : {A : Type 0} (f : ExactField) (value : A → Value f) (w : ℕ) (rs : List (ℕ × List A)) → HaveWidth w rs → IsReduced f.laws (exact_rows f.laws value rs) → AreRising w rs
reduced-rising f value w [] a r = tt
reduced-rising f value w (x ∷ rs) a r = (a.0, reduced-past f value x.0 rs r.1, reduced-rising f value w rs a.2 r.2)
