-- Texts of numbers one after the other, one more at a time.
use Rattle.std.proofs.Common.{◌≡◌, refl, ◌⊎◌, inl, inr, ap, ◌∙◌, ℕ, zero, suc, ◌+◌, ◌<◌, List, [], ◌∷◌, ◌++◌, length, take, get_or, flat_map, sym, arith, append_assoc}
use Rattle.std.specs.List.{range_with_len, enumerate_from}
use Rattle.std.proofs.lemmas.List.{append-nil}
use Rattle.std.proofs.lemmas.Grind.{flat_map-append}
use Rattle.mode_report.specs.ReportLaws.{numbered-take}

-- the numbers from a on, one more at the end
range-more : (a n : ℕ) → range_with_len a (suc n) ≡ range_with_len a n ++ (a + n) ∷ []
range-more a zero = let e : a ≡ a + 0 = omega arith in ap (λ k. k ∷ []) e
range-more a (suc n) = let e : a + 1 + n ≡ a + suc n = omega arith in ap (λ t. a ∷ t) (range-more (a + 1) n) ∙ ap (λ k. a ∷ (range_with_len (a + 1) n ++ k ∷ [])) e

pub texts-next : {A : Type 0} (f : ℕ → List A) (n : ℕ) → flat_map f (range_with_len 0 (suc n)) ≡ flat_map f (range_with_len 0 n) ++ f n
texts-next f n =
    let z : 0 + n ≡ n = omega arith in
    ap (flat_map f) (range-more 0 n ∙ ap (λ k. range_with_len 0 n ++ k ∷ []) z) ∙ flat_map-append f (range_with_len 0 n) (n ∷ [])
    ∙ ap (λ t. flat_map f (range_with_len 0 n) ++ t) (append-nil (f n))

pub texts-more : {A : Type 0} (f : ℕ → List A) (n : ℕ) → flat_map f (range_with_len 0 (n + 1)) ≡ flat_map f (range_with_len 0 n) ++ f n
texts-more f n = let e : n + 1 ≡ suc n = omega arith in ap (λ k. flat_map f (range_with_len 0 k)) e ∙ texts-next f n

-- texts that are empty
none-of : {A : Type 0} (f : ℕ → List A) (n : ℕ) → ((i : ℕ) → i < n → f i ≡ []) → flat_map f (range_with_len 0 n) ≡ []
none-of f zero h = refl
none-of f (suc n) h = texts-next f n ∙ (λ j. none-of f n (λ i l. h i (omega arith)) j ++ h n (omega arith) j)

below-or-same : (a n : ℕ) → a < suc n → (a < n) ⊎ (a ≡ n)
below-or-same a n l = grind arith

-- the one text that isn't empty
pub only-one : {A : Type 0} (f : ℕ → List A) (n a : ℕ) → a < n → ((i : ℕ) → i < n → (i ≡ a → ⊥) → f i ≡ []) → flat_map f (range_with_len 0 n) ≡ f a
only-one f zero a l h = absurd (omega arith)
only-one f (suc n) a l h = elim (below-or-same a n l) [
  | inl b ↦ texts-next f n ∙ (λ j. only-one f n a b (λ i k. h i (omega arith)) j ++ h n (omega arith) (λ s. absurd (omega (arith, b, s))) j) ∙ append-nil (f a)
  | inr s ↦ texts-next f n ∙ ap (λ t. t ++ f n) (none-of f n (λ i k. h i (omega arith) (λ e. absurd (omega (arith, k, e, s))))) ∙ ap f (sym s)
]

-- the line of the next element
pub lines-more : {X : Type 0} (f : ℕ × X → List ℕ) (xs : List X) (old now new line : List ℕ) (i : ℕ) (d : X) → i < length xs → now ≡ old ++ flat_map f (enumerate_from 1 (take i xs))
    → new ≡ now ++ line → line ≡ f (i + 1, get_or xs i d) → new ≡ old ++ flat_map f (enumerate_from 1 (take (i + 1) xs))
lines-more f xs old now new line i d l a b e =
    let n : i + 1 ≡ 1 + i = omega arith in
    let part = flat_map f (enumerate_from 1 (take i xs)) in
    b ∙ (λ j. a j ++ e j) ∙ ap (λ k. (old ++ part) ++ f (k, get_or xs i d)) n ∙ append_assoc old part (f (1 + i, get_or xs i d))
    ∙ ap (λ t. old ++ t) (sym (numbered-take f 1 xs i d l))
