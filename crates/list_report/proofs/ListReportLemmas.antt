-- The report on a listing, piece by piece, and its pages, one direction more at a time.
use Rattle.std.proofs.Common.{◌≡◌, refl, sym, ap, subst, ◌∙◌, ℕ, zero, suc, ◌+◌, ◌<◌, ◌≤◌, Option, Some, None, List, [], ◌∷◌, ◌++◌, All, length, map, take, drop, flat_map, slice_get, arith, append_assoc}
use Rattle.std.specs.Prelude.{codes, decimal, unwrap_or}
use Rattle.std.specs.List.{enumerate_from, take-map, drop-map}
use Rattle.std.proofs.lemmas.List.{append-nil}
use Rattle.std.proofs.lemmas.Option.{slice_get_within, get_or_from_slice_get}
use Rattle.cyclo24.specs.FieldOn.{FieldOn}
use Rattle.lin_alg.specs.Rows.{exact_rows}
use Rattle.class_list.specs.Pages.{page}

pub rows-length : {A K : Type 0} (f : FieldOn K) (value : A → K) (rs : List (ℕ × List A)) → length (exact_rows f value rs) ≡ length rs
rows-length f value [] = refl
rows-length f value (r ∷ rs) = ap suc (rows-length f value rs)

-- what holds of all holds of the one at a place
pub of-all : {X : Type 0} (P : X → Type 0) (xs : List X) (i : ℕ) (x : X) → All P xs → slice_get xs i ≡ Some x → P x
of-all P xs i x h e = subst P (get_or_from_slice_get xs i x x e) (h i x (slice_get_within xs i x e))

pub same-some : {X : Type 0} (o : Option X) (x y : X) → o ≡ Some x → o ≡ Some y → x ≡ y
same-some o x y a b = ap (λ z. unwrap_or z x) (sym a ∙ b)

-- each place has one
pub at-place : {X : Type 0} (xs : List X) (i : ℕ) → i < length xs → (x : X) × (slice_get xs i ≡ Some x)
at-place [] i l = absurd (omega arith)
at-place (x ∷ xs) zero l = (x, refl)
at-place (x ∷ xs) (suc i) l = at-place xs i (omega arith)

-- the numbers of a direction
abbrev pub numbers : ℕ → ℕ → ℕ → ℕ → List ℕ
numbers number dim order index = codes "direction " ++ decimal number ++ codes " dim " ++ decimal dim ++ codes " order " ++ decimal order ++ codes " index " ++ decimal index

-- a line with a word and a form behind it
pub form-behind : (l w f t1 t2 t3 : List ℕ) → t1 ≡ l ++ (10 ∷ w) → t2 ≡ t1 ++ f → t3 ≡ t2 ++ (10 ∷ []) → t3 ≡ l ++ (10 ∷ ((w ++ f) ++ (10 ∷ [])))
form-behind l w f t1 t2 t3 a b c =
    c ∙ ap (λ t. t ++ (10 ∷ [])) (b ∙ ap (λ t. t ++ f) a)
    ∙ append_assoc (l ++ (10 ∷ w)) f (10 ∷ []) ∙ append_assoc l (10 ∷ w) (f ++ (10 ∷ []))
    ∙ ap (λ t. l ++ (10 ∷ t)) (sym (append_assoc w f (10 ∷ [])))

-- a line with two more behind it, the second a word and a number
pub lines-behind : (l i w n t0 t1 t2 t3 t4 : List ℕ) → t0 ≡ l ++ (10 ∷ []) → t1 ≡ t0 ++ i → t2 ≡ t1 ++ (10 ∷ w) → t3 ≡ t2 ++ n → t4 ≡ t3 ++ (10 ∷ [])
    → t4 ≡ l ++ (10 ∷ (i ++ (10 ∷ ((w ++ n) ++ (10 ∷ [])))))
lines-behind l i w n t0 t1 t2 t3 t4 a b c d e =
    let h : List ℕ = (l ++ (10 ∷ [])) ++ i in
    e ∙ ap (λ t. t ++ (10 ∷ [])) (d ∙ ap (λ t. t ++ n) (c ∙ ap (λ t. t ++ (10 ∷ w)) (b ∙ ap (λ t. t ++ i) a)))
    ∙ append_assoc (h ++ (10 ∷ w)) n (10 ∷ []) ∙ append_assoc h (10 ∷ w) (n ++ (10 ∷ []))
    ∙ ap (λ t. h ++ (10 ∷ t)) (sym (append_assoc w n (10 ∷ [])))
    ∙ append_assoc (l ++ (10 ∷ [])) i (10 ∷ ((w ++ n) ++ (10 ∷ []))) ∙ append_assoc l (10 ∷ []) (i ++ (10 ∷ ((w ++ n) ++ (10 ∷ []))))

-- a head of three lines with more behind it
pub head-behind : (l i k rest : List ℕ) → (l ++ (10 ∷ (i ++ (10 ∷ (k ++ (10 ∷ [])))))) ++ rest ≡ l ++ (10 ∷ (i ++ (10 ∷ (k ++ (10 ∷ rest)))))
head-behind l i k rest =
    append_assoc l (10 ∷ (i ++ (10 ∷ (k ++ (10 ∷ []))))) rest
    ∙ ap (λ t. l ++ (10 ∷ t)) (append_assoc i (10 ∷ (k ++ (10 ∷ []))) rest ∙ ap (λ t. i ++ (10 ∷ t)) (append_assoc k (10 ∷ []) rest))

-- the text of a direction of the asked width
pub text-of : {D : Type 0} (f : ℕ → D → List ℕ) (out old : List ℕ) (w dim : ℕ) (r d : D) → out ≡ old ++ f w r → w ≡ dim → r ≡ d → out ≡ old ++ f dim d
text-of f out old w dim r d e a b = e ∙ (λ j. old ++ f (a j) (b j))

module _ {D E A : Type 0} (f : ℕ × E → List A) (g : D → E) where
  abbrev part : ℕ → ℕ → ℕ → List D → List A
  part n first i ds = flat_map f (enumerate_from n (map g (drop first (take i ds))))

  -- the next one, from the first on
  first-more : (n i : ℕ) (ds : List D) (d : D) → slice_get ds i ≡ Some d → part n 0 (suc i) ds ≡ part n 0 i ds ++ f (n + i, g d)
  first-more n zero [] d e = absurd (cc)
  first-more n zero (x ∷ xs) d e =
      let same : x ≡ d = search e in
      let k : n ≡ n + 0 = omega arith in
      append-nil (f (n, g x)) ∙ (λ i. f (k i, g (same i)))
  first-more n (suc i) [] d e = absurd (cc)
  first-more n (suc i) (x ∷ xs) d e =
      let k : n + 1 + i ≡ n + suc i = omega arith in
      ap (λ t. f (n, g x) ++ t) (first-more (n + 1) i xs d e ∙ ap (λ m. part (n + 1) 0 i xs ++ f (m, g d)) k)
      ∙ sym (append_assoc (f (n, g x)) (part (n + 1) 0 i xs) (f (n + suc i, g d)))

  part-more : (n first i : ℕ) (ds : List D) (d : D) → first ≤ i → slice_get ds i ≡ Some d → part (n + first) first (suc i) ds ≡ part (n + first) first i ds ++ f (n + i, g d)
  part-more n zero i ds d l e = let k : n + 0 ≡ n = omega arith in ap (λ m. part m 0 (suc i) ds) k ∙ first-more n i ds d e ∙ ap (λ m. part m 0 i ds ++ f (n + i, g d)) (sym k)
  part-more n (suc first) zero ds d l e = absurd (omega arith)
  part-more n (suc first) (suc i) [] d l e = absurd (cc)
  part-more n (suc first) (suc i) (x ∷ xs) d l e =
      let k : n + suc first ≡ n + 1 + first = omega arith in
      let m : n + 1 + i ≡ n + suc i = omega arith in
      ap (λ t. part t first (suc i) xs) k ∙ part-more (n + 1) first i xs d (omega arith) e ∙ (λ j. part (sym k j) first i xs ++ f (m j, g d))

  -- one direction more
  pub page-more : (first i : ℕ) (ds : List D) (d : D) → first ≤ i → slice_get ds i ≡ Some d
      → flat_map f (enumerate_from (first + 1) (map g (drop first (take (i + 1) ds)))) ≡ flat_map f (enumerate_from (first + 1) (map g (drop first (take i ds)))) ++ f (i + 1, g d)
  page-more first i ds d l e =
      let a : 1 + first ≡ first + 1 = omega arith in
      let b : suc i ≡ i + 1 = omega arith in
      let c : 1 + i ≡ i + 1 = omega arith in
      (λ j. part (sym a j) first (sym b j) ds) ∙ part-more 1 first i ds d l e ∙ (λ j. part (a j) first i ds ++ f (c j, g d))

-- numbers go with the elements
numbered-map : {D E : Type 0} (g : D → E) (n : ℕ) (ds : List D) → enumerate_from n (map g ds) ≡ map (λ p. (p.0, g p.1)) (enumerate_from n ds)
numbered-map g n [] = refl
numbered-map g n (d ∷ ds) = ap (λ t. (n, g d) ∷ t) (numbered-map g (n + 1) ds)

page-map : {D E : Type 0} (g : D → E) (after : ℕ) (count : Option ℕ) (ds : List D) → page after count (map g ds) ≡ map (λ p. (p.0, g p.1)) (page after count ds)
page-map g after None ds = ap (enumerate_from (after + 1)) (drop-map g after ds) ∙ numbered-map g (after + 1) (drop after ds)
page-map g after (Some n) ds =
    ap (λ t. enumerate_from (after + 1) (take n t)) (drop-map g after ds) ∙ ap (enumerate_from (after + 1)) (take-map g n (drop after ds))
    ∙ numbered-map g (after + 1) (take n (drop after ds))

-- a page of what g gives, by the places of the page
pub page-of : {D E : Type 0} (g : D → E) (after : ℕ) (count : Option ℕ) (ds : List D) (n : ℕ) (part : List D) → page after count ds ≡ enumerate_from n part
    → page after count (map g ds) ≡ enumerate_from n (map g part)
page-of g after count ds n part e = page-map g after count ds ∙ ap (map (λ p. (p.0, g p.1))) e ∙ sym (numbered-map g n part)
