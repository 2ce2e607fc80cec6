-- Lists compared from a place on.
use Rattle.std.proofs.Common.{◌≡◌, ℕ, suc, ◌<◌, ◌≤◌, ◌+◌, ◌⊎◌, min, inl, inr, ◌&&◌, Bool, true, false, refl, sym, ◌∙◌, ap, List, [], ◌∷◌, length, map, drop, get_or, add-one, arith}
use Rattle.std.proofs.Math.Nat.{le-min}
use Rattle.std.proofs.Math.Seq.{drop-cons}
use Rattle.std.proofs.lemmas.List.{length-drop}
use Rattle.std.specs.Cmp.{nat_cmp_is}
use Rattle.std.specs.Ordering.{ordering_then, nat_cmp}
use Rattle.std.specs.Cmp.Lexicographic.{slice_cmp, pointwise}
use Rattle.std.specs.declared.cmp.Ordering.{Ordering}
use Rattle.std.specs.declared.cmp.Ordering.TheVariants.{Less, Equal, Greater}

then-other : (o p : Ordering) → (o ≡ Equal → ⊥) → ordering_then o p ≡ o
then-other Less p n = refl
then-other Equal p n = absurd (n refl)
then-other Greater p n = refl

below_or : (a b : ℕ) → (a ≤ b) ⊎ (b ≤ a)
below_or a b = grind arith

-- the lesser of two lengths is one of them
pub some_ends : (a b i : ℕ) → min a b ≡ i → (a ≤ i) ⊎ (b ≤ i)
some_ends a b i e =
    elim (below_or a b) [
      | inl k ↦ let own : a ≤ a = omega arith in let l : a ≤ min a b = le-min own k in inl (omega (arith, l, e))
      | inr k ↦ let own : b ≤ b = omega arith in let l : b ≤ min a b = le-min k own in inr (omega (arith, l, e))
    ]

module _ {X : Type 0} where
  next : (a : List X) (i : ℕ) (d : X) → i < length a → drop i a ≡ get_or a i d ∷ drop (i + 1) a
  next a i d l = drop-cons a i d l ∙ ap (λ k. get_or a i d ∷ drop k a) (sym (add-one i))

  none : (a : List X) → length a ≡ 0 → a ≡ []
  none [] e = refl
  none (x ∷ xs) e = absurd (omega arith)

  past : (a : List X) (i : ℕ) → length a ≤ i → drop i a ≡ []
  past a i l = let e : length (drop i a) ≡ 0 = omega (arith, length-drop i a) in none (drop i a) e

  ahead : (a : List X) (i : ℕ) → i < length a → 0 < length (drop i a)
  ahead a i l = omega (arith, length-drop i a)

module _ {X Y : Type 0} (h : X → Y) (R : Y → Y → Ordering) where
  -- equal items leave the order to the items behind them
  pub cmp-later : (a b : List X) (i : ℕ) (d e : X) → i < length a → i < length b → R (h (get_or a i d)) (h (get_or b i e)) ≡ Equal →
      slice_cmp R (map h (drop i a)) (map h (drop i b)) ≡ slice_cmp R (map h (drop (i + 1) a)) (map h (drop (i + 1) b))
  cmp-later a b i d e l m o =
      (λ t. slice_cmp R (map h (next a i d l t)) (map h (next b i e m t)))
      ∙ ap (λ z. ordering_then z (slice_cmp R (map h (drop (i + 1) a)) (map h (drop (i + 1) b)))) o

  -- other items decide the order
  pub cmp-decided : (a b : List X) (i : ℕ) (d e : X) (o : Ordering) → i < length a → i < length b → o ≡ R (h (get_or a i d)) (h (get_or b i e)) → (o ≡ Equal → ⊥) →
      slice_cmp R (map h (drop i a)) (map h (drop i b)) ≡ o
  cmp-decided a b i d e o l m s n =
      (λ t. slice_cmp R (map h (next a i d l t)) (map h (next b i e m t)))
      ∙ ap (λ z. ordering_then z (slice_cmp R (map h (drop (i + 1) a)) (map h (drop (i + 1) b)))) (sym s)
      ∙ then-other o (slice_cmp R (map h (drop (i + 1) a)) (map h (drop (i + 1) b))) n

  less-left : (b : List X) → 0 < length b → slice_cmp R [] (map h b) ≡ Less
  less-left [] l = absurd (omega arith)
  less-left (y ∷ ys) l = refl

  less-right : (a : List X) → 0 < length a → slice_cmp R (map h a) [] ≡ Greater
  less-right [] l = absurd (omega arith)
  less-right (x ∷ xs) l = refl

  cases : (i n : ℕ) → i ≤ n → (i < n) ⊎ (n ≡ i)
  cases i n l = grind arith

  -- where a list ends, the lengths decide
  pub cmp-ended : (a b : List X) (i : ℕ) → i ≤ length a → i ≤ length b → (length a ≤ i) ⊎ (length b ≤ i) → slice_cmp R (map h (drop i a)) (map h (drop i b)) ≡ nat_cmp (length a) (length b)
  cmp-ended a b i l m e =
      elim (cases i (length a) l) [
        | inl k ↦
            let n : length b ≤ i = elim e [ inl q ↦ absurd (omega (arith, q, k)) | inr q ↦ q ] in
            let g : length b < length a = omega (arith, n, k) in
            ap (λ z. slice_cmp R (map h (drop i a)) (map h z)) (past b i n) ∙ less-right (drop i a) (ahead a i k) ∙ nat_cmp_is (length a) (length b) Greater g
        | inr s ↦ elim (cases i (length b) m) [
          | inl k ↦
              let n : length a ≤ i = omega (arith, s) in
              let g : length a < length b = omega (arith, s, k) in
              ap (λ z. slice_cmp R (map h z) (map h (drop i b))) (past a i n) ∙ less-left (drop i b) (ahead b i k) ∙ nat_cmp_is (length a) (length b) Less g
          | inr r ↦
              let n : length a ≤ i = omega (arith, s) in
              let k : length b ≤ i = omega (arith, r) in
              (λ t. slice_cmp R (map h (past a i n t)) (map h (past b i k t))) ∙ nat_cmp_is (length a) (length b) Equal (s ∙ sym r)
        ]
      ]

module _ {X Y : Type 0} (h : X → Y) (E : Y → Y → Bool) where
  pub eq-later : (a b : List X) (i : ℕ) (d e : X) → i < length a → i < length b → E (h (get_or a i d)) (h (get_or b i e)) ≡ true →
      pointwise E (map h (drop i a)) (map h (drop i b)) ≡ pointwise E (map h (drop (i + 1) a)) (map h (drop (i + 1) b))
  eq-later a b i d e l m o =
      (λ t. pointwise E (map h (next a i d l t)) (map h (next b i e m t)))
      ∙ ap (λ z. z && pointwise E (map h (drop (i + 1) a)) (map h (drop (i + 1) b))) o

  pub eq-decided : (a b : List X) (i : ℕ) (d e : X) → i < length a → i < length b → E (h (get_or a i d)) (h (get_or b i e)) ≡ false →
      pointwise E (map h (drop i a)) (map h (drop i b)) ≡ false
  eq-decided a b i d e l m o =
      (λ t. pointwise E (map h (next a i d l t)) (map h (next b i e m t)))
      ∙ ap (λ z. z && pointwise E (map h (drop (i + 1) a)) (map h (drop (i + 1) b))) o

  pub eq-ended : (a b : List X) (i : ℕ) → length a ≤ i → length b ≤ i → pointwise E (map h (drop i a)) (map h (drop i b)) ≡ true
  eq-ended a b i l m = λ t. pointwise E (map h (past a i l t)) (map h (past b i m t))

  -- lists of other lengths differ
  pub eq-lengths : (a b : List X) → (length a ≡ length b → ⊥) → pointwise E (map h a) (map h b) ≡ false
  eq-lengths [] [] n = absurd (n refl)
  eq-lengths [] (y ∷ ys) n = refl
  eq-lengths (x ∷ xs) [] n = refl
  eq-lengths (x ∷ xs) (y ∷ ys) n =
      ap (λ z. E (h x) (h y) && z) (eq-lengths xs ys (λ e. n (ap suc e))) ∙ and-false (E (h x) (h y))
    where
      and-false : (b : Bool) → (b && false) ≡ false
      and-false true = refl
      and-false false = refl
