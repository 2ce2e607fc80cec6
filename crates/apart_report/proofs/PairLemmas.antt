-- Pairs of numbers and of the elements of a list.
use Rattle.std.proofs.Common.{◌≡◌, refl, sym, ap, ◌∙◌, ℕ, zero, suc, ◌+◌, ◌-◌, ◌<◌, ◌≤◌, List, [], ◌∷◌, ◌++◌, length, get_or, map, arith, append-nil, append_assoc}
use Rattle.std.specs.List.{All, range_with_len}
use Rattle.std.proofs.lemmas.List.Elements.{All-append, All-map}
use Rattle.std.proofs.lemmas.List.FromFn.{map-range_with_len_more}
use Rattle.std.proofs.lemmas.List.{map-append}
use Rattle.apart_report.specs.ApartFound.{pairs_of}
use Rattle.apart_report.specs.Held.{number_pairs, AreBelow}

-- ---- the pairs of a number with n larger ones

abbrev row : ℕ → ℕ → List (ℕ × ℕ)
row i n = map (λ j. (i, j)) (range_with_len (i + 1) n)

pub row-start : (i : ℕ) (old : List (ℕ × ℕ)) → old ≡ old ++ map (λ j. (i, j)) (range_with_len (i + 1) (i + 1 - (i + 1)))
row-start i old = let z : 0 ≡ i + 1 - (i + 1) = omega arith in sym (append-nil old) ∙ ap (λ n. old ++ row i n) z

pub row-more : (i j : ℕ) (old now new : List (ℕ × ℕ)) → i + 1 ≤ j → now ≡ old ++ map (λ k. (i, k)) (range_with_len (i + 1) (j - (i + 1))) → new ≡ now ++ (i, j) ∷ []
    → new ≡ old ++ map (λ k. (i, k)) (range_with_len (i + 1) (j + 1 - (i + 1)))
row-more i j old now new l a b =
    let f : ℕ → ℕ × ℕ = λ k. (i, k) in
    let m = j - (i + 1) in
    let s : i + 1 + m ≡ j = omega (arith, l) in
    let n : m + 1 ≡ j + 1 - (i + 1) = omega (arith, l) in
    b ∙ ap (λ t. t ++ (i, j) ∷ []) a ∙ append_assoc old (row i m) ((i, j) ∷ []) ∙ ap (λ t. old ++ t) (sym (map-range_with_len_more f (i + 1) m j s)) ∙ ap (λ k. old ++ row i k) n

pub row-end : (i j n count : ℕ) (old now : List (ℕ × ℕ)) → j ≡ count → i + 1 + n ≡ count → now ≡ old ++ map (λ k. (i, k)) (range_with_len (i + 1) (j - (i + 1))) → now ≡ old ++ map (λ k. (i, k)) (range_with_len (i + 1) n)
row-end i j n count old now e s a = let z : j - (i + 1) ≡ n = omega (arith, e, s) in a ∙ ap (λ k. old ++ row i k) z

-- ---- all pairs of numbers

pub pairs-start : (count : ℕ) (now : List (ℕ × ℕ)) → now ≡ [] → number_pairs count ≡ now ++ pairs_of (range_with_len 0 (count - 0))
pairs-start count now e = let z : count ≡ count - 0 = omega arith in ap (λ k. pairs_of (range_with_len 0 k)) z ∙ ap (λ t. t ++ pairs_of (range_with_len 0 (count - 0))) (sym e)

pub pairs-more : (count i : ℕ) (now new : List (ℕ × ℕ)) → i < count → number_pairs count ≡ now ++ pairs_of (range_with_len i (count - i))
    → ((n : ℕ) → i + 1 + n ≡ count → new ≡ now ++ map (λ j. (i, j)) (range_with_len (i + 1) n)) → number_pairs count ≡ new ++ pairs_of (range_with_len (i + 1) (count - (i + 1)))
pairs-more count i now new l a b =
    let n = count - (i + 1) in
    let s : i + 1 + n ≡ count = omega (arith, l) in
    let e : count - i ≡ suc n = omega (arith, l) in
    let rest = pairs_of (range_with_len (i + 1) n) in
    a ∙ ap (λ k. now ++ pairs_of (range_with_len i k)) e ∙ sym (append_assoc now (row i n) rest) ∙ ap (λ t. t ++ rest) (sym (b n s))

pub pairs-end : (count i : ℕ) (now : List (ℕ × ℕ)) → count ≤ i → number_pairs count ≡ now ++ pairs_of (range_with_len i (count - i)) → now ≡ number_pairs count
pairs-end count i now l a = let z : 0 ≡ count - i = omega (arith, l) in sym (append-nil now) ∙ ap (λ k. now ++ pairs_of (range_with_len i k)) z ∙ sym a

-- ---- what holds of both of each pair

all-tail : {A : Type 0} (P : A → Type 0) (x : A) (xs : List A) → All P (x ∷ xs) → All P xs
all-tail P x xs h k d l = h (suc k) d (omega (arith, l))

both-hold : {A : Type 0} (P : A → Type 0) (xs : List A) → All P xs → All (λ (p : A × A). P p.0 × P p.1) (pairs_of xs)
both-hold P [] h = λ k d l. absurd (omega (arith, l))
both-hold {A} P (x ∷ xs) h =
    let Q : A × A → Type 0 = λ p. P p.0 × P p.1 in
    let rest = all-tail P x xs h in
    All-append Q (map (λ y. (x, y)) xs) (pairs_of xs) (All-map Q (λ y. (x, y)) xs (λ k d l. (h 0 x (omega arith), rest k d l))) (both-hold P xs rest)

range-below : (a n : ℕ) → All (λ k. k < a + n) (range_with_len a n)
range-below a zero k d l = absurd (omega (arith, l))
range-below a (suc n) zero d l = omega arith
range-below a (suc n) (suc k) d l = let h = range-below (a + 1) n k d (omega (arith, l)) in omega (arith, h)

pub numbers-below : (count : ℕ) → AreBelow count (number_pairs count)
numbers-below count = both-hold (λ k. k < count) (range_with_len 0 count) (λ k d l. let h = range-below 0 count k d l in omega (arith, h))

-- ---- pairs by number

abbrev made_both : {A B : Type 0} (g : A → B) → A × A → B × B
made_both g p = (g p.0, g p.1)

rows-made : {A B : Type 0} (g : A → B) (x : A) (xs : List A) → map (λ y. (g x, y)) (map g xs) ≡ map (made_both g) (map (λ y. (x, y)) xs)
rows-made g x [] = refl
rows-made g x (y ∷ xs) = ap (λ t. (g x, g y) ∷ t) (rows-made g x xs)

pairs-made : {A B : Type 0} (g : A → B) (xs : List A) → pairs_of (map g xs) ≡ map (made_both g) (pairs_of xs)
pairs-made g [] = refl
pairs-made g (x ∷ xs) = (λ i. rows-made g x xs i ++ pairs-made g xs i) ∙ sym (map-append (made_both g) (map (λ y. (x, y)) xs) (pairs_of xs))

-- a list by its elements from the first of n on
by-number : {A : Type 0} (f : ℕ → A) (a : ℕ) (xs : List A) → ((k : ℕ) (d : A) → k < length xs → f (a + k) ≡ get_or xs k d) → map f (range_with_len a (length xs)) ≡ xs
by-number f a [] h = refl
by-number f a (x ∷ xs) h =
    let z : a ≡ a + 0 = omega arith in
    let first : f a ≡ x = ap f z ∙ h 0 x (omega arith) in
    let rest = by-number f (a + 1) xs (λ k d l. let e : a + 1 + k ≡ a + suc k = omega arith in ap f e ∙ h (suc k) d (omega (arith, l))) in
    λ i. first i ∷ rest i

pub pairs-by-number : {A : Type 0} (f : ℕ → A) (xs : List A) → ((k : ℕ) (d : A) → k < length xs → f k ≡ get_or xs k d) → map (λ (p : ℕ × ℕ). (f p.0, f p.1)) (number_pairs (length xs)) ≡ pairs_of xs
pairs-by-number f xs h =
    sym (pairs-made f (range_with_len 0 (length xs))) ∙ ap pairs_of (by-number f 0 xs (λ k d l. let z : 0 + k ≡ k = omega arith in ap f z ∙ h k d l))
