use Rattle.std.proofs.Common.{◌≡◌, ℕ, suc, zero, ◌+◌, ◌-◌, ◌<◌, ◌≤◌, ◌⊎◌, inl, inr, refl, sym, ◌∙◌, ap, subst, List, [], ◌∷◌, length, take, drop, arith, Result, Ok, Err}
use Rattle.std.proofs.lemmas.List.{take_all, length-drop}
use Rattle.cyclo24.specs.FieldOn.{FieldOn}
use Rattle.cyclo24.specs.ExactField.{ExactField, Value}
use Rattle.cyclo24.specs.FieldLaws.{neg-nought}
use Rattle.lin_alg.specs.Spans.{less, IsInSpan, AreSame}
use Rattle.lin_alg.specs.Rows.{vector}
use Rattle.lin_alg.specs.RowLaws.{vector-past}
use Rattle.lin_alg.proofs.VectorLemmas.{vector-take}

dec : (k n : ℕ) → (k < n) ⊎ (n ≤ k)
dec k n = grind arith

-- vectors with the same span have the same span with one more
pub same-more : {K : Type 0} (f : FieldOn K) (rs ss : List (ℕ → K)) (r s : ℕ → K) → r ≡ s → AreSame (IsInSpan f rs) (IsInSpan f ss) → AreSame (IsInSpan f (r ∷ rs)) (IsInSpan f (s ∷ ss))
same-more f rs ss r s e t v = (
  λ h. (h.0, subst (λ (x : ℕ → _). IsInSpan f ss (less f v h.0 x)) e ((t (less f v h.0 r)).0 h.1)),
  λ h. (h.0, (t (less f v h.0 r)).1 (subst (λ (x : ℕ → _). IsInSpan f ss (less f v h.0 x)) (sym e) h.1)),
)

module _ {A : Type 0} (f : ExactField) (value : A → Value f) where
  vector-drop : (n : ℕ) (xs : List A) (j : ℕ) → vector f.laws value (drop n xs) j ≡ vector f.laws value xs (n + j)
  vector-drop zero xs j = let e : 0 + j ≡ j = omega arith in ap (vector f.laws value xs) (sym e)
  vector-drop (suc n) [] j = refl
  vector-drop (suc n) (x ∷ xs) j = let e : suc n + j ≡ suc (n + j) = omega arith in vector-drop n xs j ∙ ap (vector f.laws value (x ∷ xs)) (sym e)

  -- what is left of a row behind its first n entries
  pub vector-dropped : (n : ℕ) (xs : List A) (j : ℕ) → vector f.laws value (take (length xs - n) (drop n xs)) j ≡ vector f.laws value xs (n + j)
  vector-dropped n xs j =
      let l : length (drop n xs) ≤ length xs - n = rw (length-drop) (omega arith) in
      ap (λ z. vector f.laws value z j) (take_all (length xs - n) (drop n xs) l) ∙ vector-drop n xs j

  pub vector-taken : (n : ℕ) (xs ys : List A) → ys ≡ take n xs → (j : ℕ) → j < n → vector f.laws value ys j ≡ vector f.laws value xs j
  vector-taken n xs ys e j l = ap (λ z. vector f.laws value z j) e ∙ vector-take f value n xs j l

  pub negated-all : (xs ys : List A) → length ys ≡ length xs → ((j : ℕ) → j < length xs → vector f.laws value ys j ≡ f.laws.neg (vector f.laws value xs j)) → (j : ℕ) → vector f.laws value ys j ≡ f.laws.neg (vector f.laws value xs j)
  negated-all xs ys e h j =
      elim (dec j (length xs)) [
        | inl l ↦ h j l
        | inr l ↦
            let l' : length ys ≤ j = omega arith in
            vector-past f value ys j l' ∙ sym (ap f.laws.neg (vector-past f value xs j l) ∙ neg-nought f.laws)
      ]

-- the errors of two equal refusals are equal
error_in : {T E : Type 0} → E → Result T E → E
error_in d (Ok x) = d
error_in d (Err e) = e

pub same-error : {T U E : Type 0} (a b : E) → ◌≡◌ {A = Result T E} (Err a) (Err b) → ◌≡◌ {A = Result U E} (Err a) (Err b)
unfolding error_in
same-error {T} {U} {E} a b h = let e : a ≡ b = ap (error_in {T = T} {E = E} a) h in ap Err e
