-- Laws of rising lists of numbers.
--
-- list-skip, list-more, list-grows: the list of the numbers below the next number
-- list-same: numbers with the same property have the same lists
-- list-injective: each number stands once
-- listed-below, listed-has, has-listed: what the list contains
-- list-unique: two lists of the same numbers are equal
-- same-members: two lists that contain the same numbers are equal
use Rattle.std.proofs.Common.{◌≡◌, refl, sym, ap, ◌∙◌, subst, ℕ, zero, suc, ◌<◌, ◌≤◌, ◌+◌, List, [], ◌∷◌, ◌++◌, length, get_or, Bool, true, false, ◌⊎◌, inl, inr, Contains, below_more, arith}
use Rattle.std.proofs.lemmas.List.{get_or_append_left, get_or_default}
use Rattle.std.proofs.Math.Seq.{get_or-append_seam}
use Rattle.algebra.specs.RisingLists.{IsRisingListOf}
use Rattle.algebra.specs.ListLaws.{length-more, lists-equal}

pub list-skip : (n : ℕ) (P : ℕ → Type 0) (xs : List ℕ) → IsRisingListOf n P xs → (P n → ⊥) → IsRisingListOf (n + 1) P xs
list-skip n P xs h other = record {
  below = λ i l. let k : get_or xs i 0 < n = h.below i l in omega arith;
  has = h.has;
  rising = h.rising;
  every = below_more (λ r. P r → (i : ℕ) × (i < length xs) × (get_or xs i 0 ≡ r)) n h.every (λ p. absurd (other p));
}

pub list-more : (n : ℕ) (P : ℕ → Type 0) (xs : List ℕ) → IsRisingListOf n P xs → P n → IsRisingListOf (n + 1) P (xs ++ n ∷ [])
list-more n P xs h this =
    let ys = xs ++ n ∷ [] in
    let len : length ys ≡ length xs + 1 = length-more xs n in
    let old : (i : ℕ) → i < length xs → get_or ys i 0 ≡ get_or xs i 0 = λ i l. get_or_append_left xs (n ∷ []) 0 i l in
    let last : get_or ys (length xs) 0 ≡ n = get_or-append_seam xs n [] 0 in
    record {
      below = λ i l. below_more (λ i. get_or ys i 0 < n + 1) (length xs)
          (λ i b. let k : get_or xs i 0 < n = h.below i b in let e : get_or ys i 0 ≡ get_or xs i 0 = old i b in omega arith)
          (omega (arith, last)) i (subst (λ m. i < m) len l);
      has = λ i l. below_more (λ i. P (get_or ys i 0)) (length xs) (λ i b. subst P (sym (old i b)) (h.has i b)) (subst P (sym last) this) i (subst (λ m. i < m) len l);
      rising = λ i j b l. below_more (λ j. (i : ℕ) → i < j → get_or ys i 0 < get_or ys j 0) (length xs)
          (λ j c i b.
          let d : i < length xs = omega arith in
          let e : get_or ys i 0 ≡ get_or xs i 0 = old i d in
          let f : get_or ys j 0 ≡ get_or xs j 0 = old j c in
          let k : get_or xs i 0 < get_or xs j 0 = h.rising i j b c in
          omega arith)
          (λ i b. let e : get_or ys i 0 ≡ get_or xs i 0 = old i b in let k : get_or xs i 0 < n = h.below i b in omega (arith, e, k, last))
          j (subst (λ m. j < m) len l) i b;
      every = below_more (λ r. P r → (i : ℕ) × (i < length ys) × (get_or ys i 0 ≡ r)) n
          (λ r b p. let w = h.every r b p in let c : w.0 < length xs = w.1 in (w.0, omega arith, old w.0 w.1 ∙ w.2))
          (λ p. (length xs, omega arith, last));
    }

-- by a test of the next number
pub list-grows : (b : Bool) (n : ℕ) (P : ℕ → Type 0) (xs ys : List ℕ) → IsRisingListOf n P xs → (b ≡ true → ys ≡ xs ++ n ∷ []) → (b ≡ false → ys ≡ xs)
    → (b ≡ true → P n) → (b ≡ false → P n → ⊥) → IsRisingListOf (n + 1) P ys
list-grows true n P xs ys h e f p q = subst (IsRisingListOf (n + 1) P) (sym (e refl)) (list-more n P xs h (p refl))
list-grows false n P xs ys h e f p q = subst (IsRisingListOf (n + 1) P) (sym (f refl)) (list-skip n P xs h (q refl))

-- lists of numbers with the same property
pub list-same : (n : ℕ) (P Q : ℕ → Type 0) (xs : List ℕ) → ((r : ℕ) → r < n → P r → Q r) → ((r : ℕ) → r < n → Q r → P r) → IsRisingListOf n P xs → IsRisingListOf n Q xs
list-same n P Q xs f g h = record {
  below = h.below;
  has = λ i l. f (get_or xs i 0) (h.below i l) (h.has i l);
  rising = h.rising;
  every = λ r l q. h.every r l (g r l q);
}

same_number : (i j : ℕ) → (i < j → ⊥) → (j < i → ⊥) → i ≡ j
same_number i j h k = grind arith

pub list-injective : (n : ℕ) (P : ℕ → Type 0) (xs : List ℕ) → IsRisingListOf n P xs → (i j : ℕ) → i < length xs → j < length xs → get_or xs i 0 ≡ get_or xs j 0 → i ≡ j
list-injective n P xs h i j l m e =
    same_number i j (λ b. let k : get_or xs i 0 < get_or xs j 0 = h.rising i j b m in absurd (omega (arith, e, k)))
    (λ b. let k : get_or xs j 0 < get_or xs i 0 = h.rising j i b l in absurd (omega (arith, e, k)))

-- what a list of numbers contains
pub listed-below : (n : ℕ) (P : ℕ → Type 0) (xs : List ℕ) → IsRisingListOf n P xs → (a : ℕ) → Contains xs a → a < n
listed-below n P xs h a (i, l, e) = subst (λ m. m < n) (get_or_default xs i 0 a l ∙ e) (h.below i l)

pub listed-has : (n : ℕ) (P : ℕ → Type 0) (xs : List ℕ) → IsRisingListOf n P xs → (a : ℕ) → Contains xs a → P a
listed-has n P xs h a (i, l, e) = subst P (get_or_default xs i 0 a l ∙ e) (h.has i l)

pub has-listed : (n : ℕ) (P : ℕ → Type 0) (xs : List ℕ) → IsRisingListOf n P xs → (a : ℕ) → a < n → P a → Contains xs a
has-listed n P xs h a l p = let w = h.every a l p in (w.0, w.1, get_or_default xs w.0 a 0 w.1 ∙ w.2)

-- two lists of the same numbers are equal
module _ (n : ℕ) (P : ℕ → Type 0) where
  -- the first i numbers of two lists are equal, and so is the next of the one not less
  not_less : (xs ys : List ℕ) → IsRisingListOf n P xs → IsRisingListOf n P ys → (i : ℕ) → i < length xs → ((j : ℕ) → j < i → j < length ys → get_or xs j 0 ≡ get_or ys j 0)
      → (k : ℕ) → k < length ys → get_or ys k 0 ≡ get_or xs i 0 → k < i → ⊥
  not_less xs ys h g i l e k m f b =
      let a : get_or xs k 0 ≡ get_or ys k 0 = e k b m in
      let c : get_or xs k 0 < get_or xs i 0 = h.rising k i b l in
      omega (arith, a, c, f)

  -- number i of one list is at least number i of the other
  above : (xs ys : List ℕ) → IsRisingListOf n P xs → IsRisingListOf n P ys → (i : ℕ) → i < length xs → ((j : ℕ) → j < i → j < length ys → get_or xs j 0 ≡ get_or ys j 0)
      → (i < length ys) × (get_or ys i 0 ≤ get_or xs i 0)
  above xs ys h g i l e =
      let w = g.every (get_or xs i 0) (h.below i l) (h.has i l) in
      by_place w.0 w.1 w.2 (not_less xs ys h g i l e w.0 w.1 w.2)
    where
      by_place : (k : ℕ) → k < length ys → get_or ys k 0 ≡ get_or xs i 0 → (k < i → ⊥) → (i < length ys) × (get_or ys i 0 ≤ get_or xs i 0)
      by_place k m f b = (place k m b, at_most k m f b (same_or_less i k b)) where
        place : (k : ℕ) → k < length ys → (k < i → ⊥) → i < length ys
        place k m b = grind arith

        same_or_less : (i k : ℕ) → (k < i → ⊥) → (i ≡ k) ⊎ (i < k)
        same_or_less i k b = grind arith

        at_most : (k : ℕ) → k < length ys → get_or ys k 0 ≡ get_or xs i 0 → (k < i → ⊥) → (i ≡ k) ⊎ (i < k) → get_or ys i 0 ≤ get_or xs i 0
        at_most k m f b (inl p) = let q : get_or ys i 0 ≡ get_or xs i 0 = ap (λ j. get_or ys j 0) p ∙ f in omega (arith, q)
        at_most k m f b (inr p) = let q : get_or ys i 0 < get_or ys k 0 = g.rising i k p m in omega (arith, q, f)

  -- the first numbers agree, and both lists reach as far
  agree : (xs ys : List ℕ) → IsRisingListOf n P xs → IsRisingListOf n P ys → (m i : ℕ) → i < m → i < length xs → (i < length ys) × (get_or xs i 0 ≡ get_or ys i 0)
  agree xs ys h g zero i b l = absurd (omega arith)
  agree xs ys h g (suc m) i b l =
      let a = above xs ys h g i l (λ j c d. (agree xs ys h g m j (omega arith) (omega arith)).1) in
      let c = above ys xs g h i a.0 (λ j d k. sym (agree xs ys h g m j (omega arith) (omega arith)).1) in
      (a.0, equal (get_or xs i 0) (get_or ys i 0) c.1 a.1)
    where
      equal : (a b : ℕ) → a ≤ b → b ≤ a → a ≡ b
      equal a b l m = omega (arith, l, m)

  pub list-unique : (xs ys : List ℕ) → IsRisingListOf n P xs → IsRisingListOf n P ys → xs ≡ ys
  list-unique xs ys h g =
      lists-equal xs ys (lengths (length xs) (length ys) (λ i l. (agree xs ys h g (suc i) i (omega arith) l).0) (λ i l. (agree ys xs g h (suc i) i (omega arith) l).0))
      (λ i l. (agree xs ys h g (suc i) i (omega arith) l).1)
    where
      lengths : (a b : ℕ) → ((i : ℕ) → i < a → i < b) → ((i : ℕ) → i < b → i < a) → a ≡ b
      lengths zero zero f k = refl
      lengths zero (suc b) f k = absurd (let l : 0 < 0 = k 0 (omega arith) in omega arith)
      lengths (suc a) zero f k = absurd (let l : 0 < 0 = f 0 (omega arith) in omega arith)
      lengths (suc a) (suc b) f k = let l : a < suc b = f a (omega arith) in let m : b < suc a = k b (omega arith) in omega (arith, l, m)

-- two lists that contain the same numbers are equal
pub same-members : (n : ℕ) (P Q : ℕ → Type 0) (xs ys : List ℕ) → IsRisingListOf n P xs → IsRisingListOf n Q ys
    → ((a : ℕ) → Contains xs a → Contains ys a) → ((a : ℕ) → Contains ys a → Contains xs a) → xs ≡ ys
same-members n P Q xs ys h g to back =
    list-unique n (Contains xs) xs ys (list-same n P (Contains xs) xs (has-listed n P xs h) (λ r l c. listed-has n P xs h r c) h)
    (list-same n Q (Contains xs) ys (λ r l q. back r (has-listed n Q ys g r l q)) (λ r l c. listed-has n Q ys g r (to r c)) g)
