-- Small laws of lists.
--
-- length-more: a list with one more at its end
-- each-more, pairs-more: what holds of each of a list and of one more, and of pairs
-- lists-equal: lists of one length with the same entries are equal
-- same_three: lists of three
use Rattle.std.proofs.Common.{◌≡◌, refl, sym, subst, ⊎_elim, ℕ, suc, ◌<◌, ◌+◌, List, [], ◌∷◌, ◌++◌, length, get_or, arith}
use Rattle.std.proofs.lemmas.Bool.{cases_lt}
use Rattle.std.proofs.lemmas.List.{length-append, length_push, get_or_push, get_or_append_left}

module _ {A : Type 0} where
  pub length-more : (xs : List A) (x : A) → length (xs ++ x ∷ []) ≡ length xs + 1
  length-more xs x = let e : length (xs ++ x ∷ []) ≡ length xs + 1 = length-append xs (x ∷ []) in omega arith

  -- what holds of each of a list and of one more
  pub each-more : (Q : A → Type 0) (xs : List A) (x d : A) → ((i : ℕ) → i < length xs → Q (get_or xs i d)) → Q x
      → (i : ℕ) → i < length (xs ++ x ∷ []) → Q (get_or (xs ++ x ∷ []) i d)
  each-more Q xs x d h k i l =
      ⊎_elim
      (λ m. subst Q (sym (get_or_append_left xs (x ∷ []) d i m)) (h i m))
      (λ m. subst Q (sym (get_or_push xs x d i (omega (arith, length_push xs x)))) k)
      (cases_lt i (length xs))

  pub pairs-more : (Q : A → A → Type 0) (xs : List A) (x d : A) → ((i j : ℕ) → i < j → j < length xs → Q (get_or xs i d) (get_or xs j d))
      → ((i : ℕ) → i < length xs → Q (get_or xs i d) x) → (i j : ℕ) → i < j → j < length (xs ++ x ∷ []) → Q (get_or (xs ++ x ∷ []) i d) (get_or (xs ++ x ∷ []) j d)
  pairs-more Q xs x d h k i j b l =
      let m : i < length xs = omega (arith, length_push xs x) in
      subst (λ (a : A). Q a (get_or (xs ++ x ∷ []) j d)) (sym (get_or_append_left xs (x ∷ []) d i m))
      (⊎_elim
      (λ n. subst (Q (get_or xs i d)) (sym (get_or_append_left xs (x ∷ []) d j n)) (h i j b n))
      (λ n. subst (Q (get_or xs i d)) (sym (get_or_push xs x d j (omega (arith, length_push xs x)))) (k i m))
      (cases_lt j (length xs)))

  pub same_three : (x y z x' y' z' : A) → x ≡ x' → y ≡ y' → z ≡ z' → x ∷ y ∷ z ∷ [] ≡ x' ∷ y' ∷ z' ∷ []
  same_three x y z x' y' z' e f g = λ i. e i ∷ f i ∷ g i ∷ []

-- lists of one length with the same entries are equal
pub lists-equal : (xs ys : List ℕ) → length xs ≡ length ys → ((i : ℕ) → i < length xs → get_or xs i 0 ≡ get_or ys i 0) → xs ≡ ys
lists-equal [] [] e f = refl
lists-equal [] (y ∷ ys) e f = absurd (omega (arith, e))
lists-equal (x ∷ xs) [] e f = absurd (omega (arith, e))
lists-equal (x ∷ xs) (y ∷ ys) e f =
    let first : x ≡ y = f 0 (omega arith) in
    let rest : xs ≡ ys = lists-equal xs ys (omega (arith, e)) (λ i l. f (suc i) (omega arith)) in
    λ i. first i ∷ rest i
