-- Rows of noted cuts.
use Rattle.std.proofs.Common.{◌≡◌, ℕ, suc, zero, ◌<◌, ◌≤◌, ◌+◌, ◌*◌, ◌⊎◌, inl, inr, refl, sym, ◌∙◌, ap, subst, List, [], ◌∷◌, ◌++◌, arith, length, get_or, set, length-set, map, Option, Some, None}
use Rattle.std.specs.List.{sum_by}
use Rattle.std.proofs.lemmas.List.{get_or-map, get_or-set_same, get_or-set_other, length-map, map-set}
use Rattle.std.proofs.lemmas.List.Sums.{sum_by-cons, sum_by_push, sum_by-set}
use Rattle.std.proofs.Math.Nat.{add-mul, one-mul}
use Rattle.lin_alg.specs.EquationLaws.{dec}
use Rattle.fix_lattice.specs.Cuts.{cut_entry, cut_count, noted, AreShort, IsCutNoted, IsPlaced, IsRowMade}
use Rattle.fix_lattice.proofs.ListLemmas.{get_or-front, get_or-last, length-last}

alike : (i y : ℕ) → (i ≡ y) ⊎ (i ≡ y → ⊥)
alike i y = grind arith

-- behind its end a list has its default
pub get_or-past : {X : Type 0} (xs : List X) (i : ℕ) (d : X) → length xs ≤ i → get_or xs i d ≡ d
get_or-past [] i d l = refl
get_or-past (x ∷ xs) zero d l = absurd (omega arith)
get_or-past (x ∷ xs) (suc i) d l = get_or-past xs i d (omega arith)

-- an entry that isn't 0 stands inside
pub entry-inside : (cuts : List (List ℕ)) (i k d : ℕ) → cut_entry cuts i k ≡ suc d → (i < length cuts) × (k < length (get_or cuts i []))
entry-inside cuts i k d e = (
  elim (dec i (length cuts)) as (λ _. i < length cuts) [
    | inl l ↦ l
    | inr l ↦ let z : 0 ≡ suc d = sym (ap (λ (r : List ℕ). get_or r k 0) (get_or-past cuts i [] l)) ∙ e in absurd (omega arith)
  ],
  elim (dec k (length (get_or cuts i []))) as (λ _. k < length (get_or cuts i [])) [
    | inl l ↦ l
    | inr l ↦ let z : 0 ≡ suc d = sym (get_or-past (get_or cuts i []) k 0 l) ∙ e in absurd (omega arith)
  ],
)

noted-one : (x : ℕ) → noted x ≤ 1
noted-one zero = omega arith
noted-one (suc x) = omega arith

row-few : (xs : List ℕ) → sum_by noted xs ≤ length xs
row-few [] = omega arith
row-few (x ∷ xs) =
    let e = sum_by-cons noted x xs in
    let a = noted-one x in
    let b = row-few xs in
    omega arith

-- short rows note few cuts
pub cuts-few : (cuts : List (List ℕ)) (n : ℕ) → AreShort n cuts → cut_count cuts ≤ length cuts * n
cuts-few [] n s = omega arith
cuts-few (r ∷ cuts) n s =
    let e = sum_by-cons (sum_by noted) r cuts in
    let a = row-few r in
    let b : length r ≤ n = s 0 in
    let c = cuts-few cuts n (λ i. s (suc i)) in
    let d : (1 + length cuts) * n ≡ 1 * n + length cuts * n = add-mul 1 (length cuts) n in
    let o : 1 * n ≡ n = one-mul n in
    let m : suc (length cuts) ≡ 1 + length cuts = omega arith in
    let f : suc (length cuts) * n ≡ n + length cuts * n = ap (λ z. z * n) m ∙ d ∙ ap (λ z. z + length cuts * n) o in
    omega arith

module _ (cuts : List (List ℕ)) (i k x : ℕ) (il : i < length cuts) (kl : k < length (get_or cuts i [])) where
  -- one entry is written
  pub noted-set : IsCutNoted cuts i k x (set cuts i (set (get_or cuts i []) k x))
  noted-set =
      let row : List ℕ = get_or cuts i [] in
      let at : get_or (set cuts i (set row k x)) i [] ≡ set row k x = get_or-set_same cuts i (set row k x) [] il in
      record {
        own = ap (λ (r : List ℕ). get_or r k 0) at ∙ get_or-set_same row k x 0 kl;
        other = λ a b n. elim (alike a i) [
          | inr d ↦ ap (λ (r : List ℕ). get_or r b 0) (get_or-set_other cuts i a (set row k x) [] d)
          | inl e ↦
              let m : b ≡ k → ⊥ = λ s. n (e, s) in
              ap (λ z. cut_entry (set cuts i (set row k x)) z b) e ∙ ap (λ (r : List ℕ). get_or r b 0) at
              ∙ get_or-set_other row k b x 0 m ∙ ap (λ z. cut_entry cuts z b) (sym e)
        ];
      }

  -- the count after an entry that isn't 0
  pub count-set : (d : ℕ) → x ≡ suc d → cut_count (set cuts i (set (get_or cuts i []) k x)) + noted (cut_entry cuts i k) ≡ suc (cut_count cuts)
  count-set d e =
      let row : List ℕ = get_or cuts i [] in
      let one : noted x ≡ 1 = ap noted e in
      let rows = sum_by-set (sum_by noted) cuts i (set row k x) [] il in
      let entries = sum_by-set noted row k x 0 kl in
      omega arith

  pub short-set : (n : ℕ) → AreShort n cuts → AreShort n (set cuts i (set (get_or cuts i []) k x))
  short-set n s a =
      let row : List ℕ = get_or cuts i [] in
      let same : length (set row k x) ≡ length row = rw length-set refl in
      let l = s i in
      elim (alike a i) [
        | inr d ↦ subst (λ (r : List ℕ). length r ≤ n) (sym (get_or-set_other cuts i a (set row k x) [] d)) (s a)
        | inl e ↦ subst (λ (z : ℕ). length (get_or (set cuts i (set row k x)) z []) ≤ n) (sym e)
            (subst (λ (r : List ℕ). length r ≤ n) (sym (get_or-set_same cuts i (set row k x) [] il)) (omega arith))
      ]

-- two writes of one entry
pub noted-then : (a b c : List (List ℕ)) (i k x y : ℕ) → IsCutNoted a i k x b → IsCutNoted b i k y c → IsCutNoted a i k y c
noted-then a b c i k x y s t = record { own = t.own; other = λ p q n. t.other p q n ∙ s.other p q n }

-- rows as they were
pub made-own : (n : ℕ) (cuts : List (List ℕ)) → AreShort n cuts → IsRowMade n cuts cuts
made-own n cuts s = record { entry = λ a b. refl; count = refl; short = s }

pub made-then : (n : ℕ) (a b c : List (List ℕ)) → IsRowMade n a b → IsRowMade n b c → IsRowMade n a c
made-then n a b c s t = record { entry = λ i k. t.entry i k ∙ s.entry i k; count = t.count ∙ s.count; short = t.short }

pub noted-made : (n : ℕ) (a b c : List (List ℕ)) (i k x : ℕ) → IsRowMade n a b → IsCutNoted b i k x c → IsCutNoted a i k x c
noted-made n a b c i k x s t = record { own = t.own; other = λ p q m. t.other p q m ∙ s.entry p q }

-- one more empty row
pub made-more : (n : ℕ) (cuts : List (List ℕ)) → AreShort n cuts → IsRowMade n cuts (cuts ++ [] ∷ [])
made-more n cuts s =
    let at : (a : ℕ) → get_or (cuts ++ [] ∷ []) a [] ≡ get_or cuts a [] = λ a. more a in
    record {
      entry = λ a b. ap (λ (r : List ℕ). get_or r b 0) (at a);
      count = let e = sum_by_push (sum_by noted) cuts [] in omega arith;
      short = λ a. subst (λ (r : List ℕ). length r ≤ n) (sym (at a)) (s a);
    }
  where
    more : (a : ℕ) → get_or (cuts ++ [] ∷ []) a [] ≡ get_or cuts a []
    more a = elim (dec a (length cuts)) [
      | inl l ↦ get_or-front cuts [] [] a l
      | inr l ↦ elim (dec (length cuts) a) [
        | inl m ↦ let e = length-last cuts [] in get_or-past (cuts ++ [] ∷ []) a [] (omega arith) ∙ sym (get_or-past cuts a [] l)
        | inr m ↦ let e : a ≡ length cuts = omega arith in ap (λ z. get_or (cuts ++ [] ∷ []) z []) e ∙ get_or-last cuts [] [] ∙ sym (get_or-past cuts a [] l)
      ]
    ]

-- one row with the same entries
pub made-row : (n i : ℕ) (cuts : List (List ℕ)) (row : List ℕ) → AreShort n cuts → i < length cuts → ((b : ℕ) → get_or row b 0 ≡ get_or (get_or cuts i []) b 0) →
    sum_by noted row ≡ sum_by noted (get_or cuts i []) → length row ≤ n → IsRowMade n cuts (set cuts i row)
made-row n i cuts row s il h c l = record {
  entry = λ a b. elim (alike a i) [
    | inr d ↦ ap (λ (r : List ℕ). get_or r b 0) (get_or-set_other cuts i a row [] d)
    | inl e ↦ ap (λ z. cut_entry (set cuts i row) z b) e ∙ ap (λ (r : List ℕ). get_or r b 0) (get_or-set_same cuts i row [] il) ∙ h b ∙ ap (λ z. cut_entry cuts z b) (sym e)
  ];
  count = let rows = sum_by-set (sum_by noted) cuts i row [] il in omega arith;
  short = λ a. elim (alike a i) [
    | inr d ↦ subst (λ (r : List ℕ). length r ≤ n) (sym (get_or-set_other cuts i a row [] d)) (s a)
    | inl e ↦ subst (λ (z : ℕ). length (get_or (set cuts i row) z []) ≤ n) (sym e) (subst (λ (r : List ℕ). length r ≤ n) (sym (get_or-set_same cuts i row [] il)) l)
  ];
}

pub placed-some : {A : Type 0} (items : A → List ℕ) (xs ys : List A) (i k : ℕ) (r : Option ℕ) (p : ℕ) → xs ≡ ys → r ≡ Some p → IsPlaced (map items xs) i k r → cut_entry (map items ys) i k ≡ suc p
placed-some {A} items xs ys i k r p e d h = subst (λ (z : List A). cut_entry (map items z) i k ≡ suc p) e (subst (IsPlaced (map items xs) i k) d h)

pub placed-none : {A : Type 0} (items : A → List ℕ) (xs ys : List A) (i k : ℕ) (r : Option ℕ) → xs ≡ ys → r ≡ None → IsPlaced (map items xs) i k r → cut_entry (map items ys) i k ≡ 0
placed-none {A} items xs ys i k r e d h = subst (λ (z : List A). cut_entry (map items z) i k ≡ 0) e (subst (IsPlaced (map items xs) i k) d h)

-- rows that a list of vectors holds
module _ {A : Type 0} (items : A → List ℕ) (rows : List A) (i : ℕ) (x : A) (l : i < length rows) (e : x ≡ get_or rows i x) where
  pub row-read : get_or (map items rows) i [] ≡ items x
  row-read = get_or-map items rows i x [] l ∙ ap items (sym e)

  row-there : i < length (map items rows)
  row-there = let n = length-map rows items in omega arith

  -- one row is another
  pub row-set : (y : A) → get_or (map items (set rows i y)) i [] ≡ items y
  row-set y = ap (λ (z : List (List ℕ)). get_or z i []) (map-set items rows i y) ∙ get_or-set_same (map items rows) i (items y) [] row-there

  -- one entry of one row is written
  pub rows-written : (y : A) (k v : ℕ) → items y ≡ set (items x) k v → map items (set rows i y) ≡ set (map items rows) i (set (get_or (map items rows) i []) k v)
  rows-written y k v h = map-set items rows i y ∙ ap (set (map items rows) i) (h ∙ ap (λ (r : List ℕ). set r k v) (sym row-read))

  -- one row has the same entries
  pub rows-made : (n : ℕ) (y : A) → AreShort n (map items rows) → ((b : ℕ) → get_or (items y) b 0 ≡ get_or (items x) b 0) → sum_by noted (items y) ≡ sum_by noted (items x) → length (items y) ≤ n →
      IsRowMade n (map items rows) (map items (set rows i y))
  rows-made n y s h c w =
      subst (IsRowMade n (map items rows)) (sym (map-set items rows i y))
      (made-row n i (map items rows) (items y) s row-there (λ b. h b ∙ ap (λ (r : List ℕ). get_or r b 0) (sym row-read)) (c ∙ ap (sum_by noted) (sym row-read)) w)

-- one more row
pub rows-more : {A : Type 0} (items : A → List ℕ) (old new : List A) → map items new ≡ map items old ++ [] ∷ [] → length new ≡ suc (length old)
rows-more items old new e =
    let a = length-map new items in
    let b = length-map old items in
    let c = ap length e ∙ length-last (map items old) [] in
    omega arith

-- a first entry is noted
module _ (n : ℕ) (old made written : List (List ℕ)) (i k x d : ℕ) (m : IsRowMade n old made) (none : cut_entry old i k ≡ 0) (is : x ≡ suc d)
    (il : i < length made) (kl : k < length (get_or made i [])) (w : written ≡ set made i (set (get_or made i []) k x)) where
  pub begun-noted : IsCutNoted old i k x written
  begun-noted = noted-made n old made written i k x m (subst (IsCutNoted made i k x) (sym w) (noted-set made i k x il kl))

  pub begun-count : cut_count written ≡ suc (cut_count old)
  begun-count =
      let e : noted (cut_entry made i k) ≡ 0 = ap noted (m.entry i k ∙ none) in
      let c = count-set made i k x il kl d is in
      let o = m.count in
      let s : cut_count written ≡ cut_count (set made i (set (get_or made i []) k x)) = ap cut_count w in
      omega arith

  pub begun-short : AreShort n written
  begun-short = subst (AreShort n) (sym w) (short-set made i k x il kl n m.short)

  pub begun-inside : k < length (get_or written i [])
  begun-inside =
      let e : get_or written i [] ≡ set (get_or made i []) k x = ap (λ (z : List (List ℕ)). get_or z i []) w ∙ get_or-set_same made i (set (get_or made i []) k x) [] il in
      let c : length (get_or written i []) ≡ length (get_or made i []) = ap length e ∙ length-set (get_or made i []) k x in
      omega arith
