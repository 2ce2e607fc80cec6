-- Letters of free coordinates, one column more at a time.
use Rattle.std.proofs.Common.{◌≡◌, refl, sym, ap, ◌∙◌, subst, ℕ, zero, suc, ◌+◌, ◌<◌, ◌≤◌, Bool, true, false, cond, nat_eq, Option, Some, None, List, [], ◌∷◌, ◌++◌, length, map, filter, drop, get_or, arith, length-append, eq-eqb, ne_eqb}
use Rattle.std.specs.Prelude.{is_none, option_map}
use Rattle.std.specs.List.{range_with_len}
use Rattle.std.proofs.lemmas.List.{map-append, length-map, drop_more}
use Rattle.std.proofs.lemmas.List.Elements.{filter-append}
use Rattle.list_report.specs.Letters.{pivot_row, is_free, free_columns, letter_of, lettered}
use Rattle.list_report.proofs.PieceLemmas.{range-next}

module _ {X : Type 0} (rows : List (ℕ × X)) where
  pub free_columns-more : (n : ℕ) → free_columns rows (n + 1) ≡ free_columns rows n ++ cond (is_free rows n) (n ∷ []) []
  free_columns-more n = ap (filter (is_free rows)) (range-next n) ∙ filter-append (is_free rows) (range_with_len 0 n) (n ∷ [])

  one : (b : Bool) (n : ℕ) → length (cond b (n ∷ []) []) ≡ cond b 1 0
  one true n = refl
  one false n = refl

  pub letter_of-more : (n : ℕ) → letter_of rows (n + 1) ≡ letter_of rows n + cond (is_free rows n) 1 0
  letter_of-more n =
      let e : length (free_columns rows (n + 1)) ≡ length (free_columns rows n) + cond (is_free rows n) 1 0 =
      ap length (free_columns-more n) ∙ length-append (free_columns rows n) (cond (is_free rows n) (n ∷ []) []) ∙ ap (λ k. length (free_columns rows n) + k) (one (is_free rows n) n) in
      omega (arith, e)

  abbrev with_letter : ℕ → ℕ × ℕ
  with_letter j = (j, letter_of rows j)

  letter-one : (b : Bool) (n : ℕ) → map with_letter (cond b (n ∷ []) []) ≡ cond b (with_letter n ∷ []) []
  letter-one true n = refl
  letter-one false n = refl

  pub lettered-more : (n : ℕ) → lettered rows (n + 1) ≡ lettered rows n ++ cond (is_free rows n) ((n, letter_of rows n) ∷ []) []
  lettered-more n =
      ap (map with_letter) (free_columns-more n) ∙ map-append with_letter (free_columns rows n) (cond (is_free rows n) (n ∷ []) [])
      ∙ ap (λ t. lettered rows n ++ t) (letter-one (is_free rows n) n)

  pub lettered-length : (n : ℕ) → 97 + length (lettered rows n) ≡ letter_of rows n
  lettered-length n = ap (λ k. 97 + k) (length-map (free_columns rows n) with_letter)

  cond-few : (b : Bool) → cond b 1 0 ≤ 1
  cond-few true = omega arith
  cond-few false = omega arith

  pub letter_of-few : (n : ℕ) → letter_of rows n ≤ 97 + n
  letter_of-few zero = omega arith
  letter_of-few (suc n) =
      let e : suc n ≡ n + 1 = omega arith in
      let f = letter_of-few n in
      let g = letter_of-more n in
      let h = cond-few (is_free rows n) in
      let k : letter_of rows (suc n) ≡ letter_of rows (n + 1) = ap (letter_of rows) e in
      omega (arith, f, g, h, k)

-- each pair has its first number below n
abbrev Below : ℕ → List (ℕ × ℕ) → Type 0
Below n [] = Unit {0}
Below n (c ∷ cs) = (c.0 < n) × Below n cs

below-append : (n : ℕ) (a b : List (ℕ × ℕ)) → Below n a → Below n b → Below n (a ++ b)
below-append n [] b h k = k
below-append n (c ∷ cs) b h k = (h.0, below-append n cs b h.1 k)

below-next : (n : ℕ) (a : List (ℕ × ℕ)) → Below n a → Below (suc n) a
below-next n [] h = tt
below-next n (c ∷ cs) h = let k = h.0 in (omega (arith, k), below-next n cs h.1)

below-one : (b : Bool) (n m : ℕ) → Below (suc n) (cond b ((n, m) ∷ []) [])
below-one true n m = (omega arith, tt)
below-one false n m = tt

below-at : (n : ℕ) (cs : List (ℕ × ℕ)) (k : ℕ) (d : ℕ × ℕ) → Below n cs → k < length cs → (get_or cs k d).0 < n
below-at n [] k d h l = absurd (omega arith)
below-at n (c ∷ cs) zero d h l = h.0
below-at n (c ∷ cs) (suc k) d h l = below-at n cs k d h.1 (omega arith)

below-all : {X : Type 0} (rows : List (ℕ × X)) (n : ℕ) → Below n (lettered rows n)
below-all rows zero = tt
below-all rows (suc n) =
    let e : n + 1 ≡ suc n = omega arith in
    subst (λ k. Below (suc n) (lettered rows k)) e
    (subst (Below (suc n)) (sym (lettered-more rows n))
    (below-append (suc n) (lettered rows n) (cond (is_free rows n) ((n, letter_of rows n) ∷ []) []) (below-next n (lettered rows n) (below-all rows n)) (below-one (is_free rows n) n (letter_of rows n))))

-- the columns are among the first n
pub lettered-below : {X : Type 0} (rows : List (ℕ × X)) (n k : ℕ) (d : ℕ × ℕ) → k < length (lettered rows n) → (get_or (lettered rows n) k d).0 < n
lettered-below rows n k d l = below-at n (lettered rows n) k d (below-all rows n) l

-- the row at a place and the rows behind it
pub pivot_row-here : {X : Type 0} (rows : List (ℕ × X)) (i j : ℕ) (d : ℕ × X) → i < length rows → (get_or rows i d).0 ≡ j → pivot_row (drop i rows) j ≡ Some (get_or rows i d)
pivot_row-here rows i j d l e = ap (λ t. pivot_row t j) (drop_more rows i d l) ∙ ap (λ b. cond b (Some (get_or rows i d)) (pivot_row (drop (i + 1) rows) j)) (eq-eqb (get_or rows i d).0 j e)

pub pivot_row-behind : {X : Type 0} (rows : List (ℕ × X)) (i j : ℕ) (d : ℕ × X) → i < length rows → ((get_or rows i d).0 ≡ j → ⊥) → pivot_row (drop i rows) j ≡ pivot_row (drop (i + 1) rows) j
pivot_row-behind rows i j d l e = ap (λ t. pivot_row t j) (drop_more rows i d l) ∙ ap (λ b. cond b (Some (get_or rows i d)) (pivot_row (drop (i + 1) rows) j)) (ne_eqb (get_or rows i d).0 j e)

-- behind the last row
pub pivot_row-end : {X : Type 0} (rows : List (ℕ × X)) (i j : ℕ) → length rows ≤ i → pivot_row (drop i rows) j ≡ None
pivot_row-end [] zero j l = refl
pivot_row-end [] (suc i) j l = refl
pivot_row-end (r ∷ rs) zero j l = absurd (omega arith)
pivot_row-end (r ∷ rs) (suc i) j l = pivot_row-end rs i j (omega arith)

pub none-map : {X Y : Type 0} (f : X → Y) (o : Option X) → is_none (option_map f o) ≡ is_none o
none-map f None = refl
none-map f (Some x) = refl

-- rows with other entries and the same pivots
module _ {X Y : Type 0} (h : X → Y) where
  abbrev pub other : ℕ × X → ℕ × Y
  other r = (r.0, h r.1)

  found : (b : Bool) (r : ℕ × X) (o : Option (ℕ × X)) → cond b (Some (other r)) (option_map other o) ≡ option_map other (cond b (Some r) o)
  found true r o = refl
  found false r o = refl

  pub pivot_row-other : (rows : List (ℕ × X)) (j : ℕ) → pivot_row (map other rows) j ≡ option_map other (pivot_row rows j)
  pivot_row-other [] j = refl
  pivot_row-other (r ∷ rs) j = ap (λ t. cond (nat_eq r.0 j) (Some (other r)) t) (pivot_row-other rs j) ∙ found (nat_eq r.0 j) r (pivot_row rs j)

  pub is_free-other : (rows : List (ℕ × X)) → is_free (map other rows) ≡ is_free rows
  is_free-other rows = λ i. λ j. (ap is_none (pivot_row-other rows j) ∙ none-map other (pivot_row rows j)) i

  pub letter_of-other : (rows : List (ℕ × X)) → letter_of (map other rows) ≡ letter_of rows
  letter_of-other rows = λ i. λ j. 97 + length (filter (is_free-other rows i) (range_with_len 0 j))

  pub lettered-other : (rows : List (ℕ × X)) (n : ℕ) → lettered (map other rows) n ≡ lettered rows n
  lettered-other rows n = λ i. map (λ j. (j, letter_of-other rows i j)) (filter (is_free-other rows i) (range_with_len 0 n))
