-- Coordinates of a direction by the rows that the program holds.
use Rattle.std.proofs.Common.{◌≡◌, refl, sym, ap, ◌∙◌, ℕ, zero, suc, ◌+◌, ◌<◌, Bool, true, false, cond, Some, None, List, [], ◌∷◌, length, map, filter, drop, get_or, arith}
use Rattle.std.specs.Prelude.{not, option_map}
use Rattle.std.proofs.lemmas.List.{append-nil, drop_more, get_or-map}
use Rattle.cyclo24.specs.declared.k24.K24.{K24}
use Rattle.cyclo24.specs.FieldOn.{FieldOn}
use Rattle.cyclo24.specs.ExactK24.{Exact24, k24_laws}
use Rattle.cyclo24.specs.K24.{exact24}
use Rattle.lin_alg.specs.Rows.{vector, exact_rows, HaveWidth}
use Rattle.list_report.specs.Letters.{pivot_row, letter_of, lettered}
use Rattle.list_report.specs.FormText.{sum_text, term_text, row_terms, coordinate_of, coordinate_text}
use Rattle.list_report.specs.FormParts.{sum_with}
use Rattle.list_report.proofs.LetterLemmas.{other, pivot_row-other, letter_of-other, lettered-other}

exact-other : {A K : Type 0} (f : FieldOn K) (value : A → K) (rows : List (ℕ × List A)) → exact_rows f value rows ≡ map (other (vector f value)) rows
exact-other f value [] = refl
exact-other f value (r ∷ rs) = ap (λ t. (r.0, vector f value r.1) ∷ t) (exact-other f value rs)

module _ {A K : Type 0} (f : FieldOn K) (value : A → K) (rows : List (ℕ × List A)) where
  pivot_row-exact : (j : ℕ) → pivot_row (exact_rows f value rows) j ≡ option_map (other (vector f value)) (pivot_row rows j)
  pivot_row-exact j = ap (λ t. pivot_row t j) (exact-other f value rows) ∙ pivot_row-other (vector f value) rows j

  letter_of-exact : (j : ℕ) → letter_of (exact_rows f value rows) j ≡ letter_of rows j
  letter_of-exact j = ap (λ t. letter_of t j) (exact-other f value rows) ∙ (λ i. letter_of-other (vector f value) rows i j)

  lettered-exact : (n : ℕ) → lettered (exact_rows f value rows) n ≡ lettered rows n
  lettered-exact n = ap (λ t. lettered t n) (exact-other f value rows) ∙ lettered-other (vector f value) rows n

pub row-width : {A : Type 0} (w : ℕ) (rows : List (ℕ × List A)) (i : ℕ) (d : ℕ × List A) → HaveWidth w rows → i < length rows → length (get_or rows i d).1 ≡ w
row-width w [] i d h l = absurd (omega arith)
row-width w (r ∷ rs) zero d h l = h.1
row-width w (r ∷ rs) (suc i) d h l = row-width w rs i d h.2 (omega arith)

abbrev exact : List (ℕ × List K24) → List (ℕ × (ℕ → Exact24))
exact rows = exact_rows k24_laws exact24 rows

-- a coordinate without a pivot
pub coordinate-free : (rows : List (ℕ × List K24)) (w j letter : ℕ) → None ≡ pivot_row rows j → letter ≡ letter_of rows j → letter ∷ [] ≡ coordinate_text (exact rows) w j
coordinate-free rows w j letter e f =
    let p : pivot_row (exact rows) j ≡ None = pivot_row-exact k24_laws exact24 rows j ∙ ap (option_map (other (vector k24_laws exact24))) (sym e) in
    ap (λ k. k ∷ []) (f ∙ sym (letter_of-exact k24_laws exact24 rows j)) ∙ ap (coordinate_of (exact rows) w j) (sym p)

-- a coordinate with the pivot of a row
pub coordinate-pivot : (rows : List (ℕ × List K24)) (w j : ℕ) (r : ℕ × List K24) (text : List ℕ) (columns : List (ℕ × ℕ)) → Some r ≡ pivot_row rows j → columns ≡ lettered rows w
    → text ≡ sum_text (row_terms (vector k24_laws exact24 r.1) columns) → text ≡ coordinate_text (exact rows) w j
coordinate-pivot rows w j r text columns e f g =
    let p : pivot_row (exact rows) j ≡ Some (other (vector k24_laws exact24) r) = pivot_row-exact k24_laws exact24 rows j ∙ ap (option_map (other (vector k24_laws exact24))) (sym e) in
    g ∙ ap (λ t. sum_text (row_terms (vector k24_laws exact24 r.1) t)) (f ∙ sym (lettered-exact k24_laws exact24 rows w)) ∙ ap (coordinate_of (exact rows) w j) (sym p)

term-of : (v : ℕ → Exact24) → ℕ × ℕ → List ℕ
term-of v c = term_text (k24_laws.neg (v c.0)) c.1

abbrev terms-of : (ℕ × ℕ → List ℕ) → (ℕ × ℕ → Bool) → List (ℕ × ℕ) → List (List ℕ)
terms-of f p cs = map f (filter p cs)

terms-cond : (f : ℕ × ℕ → List ℕ) (b : Bool) (c : ℕ × ℕ) (cs : List (ℕ × ℕ)) → map f (cond b (c ∷ cs) cs) ≡ cond b (f c ∷ map f cs) (map f cs)
terms-cond f true c cs = refl
terms-cond f false c cs = refl

terms-next : (f : ℕ × ℕ → List ℕ) (p : ℕ × ℕ → Bool) (cs : List (ℕ × ℕ)) (i : ℕ) (d : ℕ × ℕ) → i < length cs
    → terms-of f p (drop i cs) ≡ cond (p (get_or cs i d)) (f (get_or cs i d) ∷ terms-of f p (drop (i + 1) cs)) (terms-of f p (drop (i + 1) cs))
terms-next f p cs i d l = ap (terms-of f p) (drop_more cs i d l) ∙ terms-cond f (p (get_or cs i d)) (get_or cs i d) (filter p (drop (i + 1) cs))

-- the terms from one column on
pub row_terms-next : (v : ℕ → Exact24) (cs : List (ℕ × ℕ)) (i : ℕ) (d : ℕ × ℕ) (x : Exact24) → i < length cs → x ≡ v (get_or cs i d).0
    → cond (not (k24_laws.is_nought x)) (term_text (k24_laws.neg x) (get_or cs i d).1 ∷ row_terms v (drop (i + 1) cs)) (row_terms v (drop (i + 1) cs)) ≡ row_terms v (drop i cs)
row_terms-next v cs i d x l e =
    ap (λ y. cond (not (k24_laws.is_nought y)) (term_text (k24_laws.neg y) (get_or cs i d).1 ∷ row_terms v (drop (i + 1) cs)) (row_terms v (drop (i + 1) cs))) e
    ∙ sym (terms-next (λ c. term_text (k24_laws.neg (v c.0)) c.1) (λ c. not (k24_laws.is_nought (v c.0))) cs i d l)

-- an entry of a row, as an exact value
pub entry-is : (row : List K24) (j : ℕ) (x : K24) → j < length row → exact24 (get_or row j x) ≡ vector k24_laws exact24 row j
entry-is row j x l = sym (get_or-map exact24 row j x k24_laws.nought l)

pub sum-whole : (text : List ℕ) (terms : List (List ℕ)) → sum_with (Some text) [] ≡ sum_text terms → text ≡ sum_text terms
sum-whole text terms e = sym (append-nil text) ∙ e
