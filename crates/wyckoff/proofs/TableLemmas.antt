-- Lists that grow row by row.
use Rattle.std.proofs.Common.{◌≡◌, refl, sym, ap, ◌∙◌, subst, ℕ, zero, suc, ◌<◌, ◌≤◌, ◌+◌, ◌*◌, ◌/◌, ◌%◌, inl, inr, List, [], ◌∷◌, ◌++◌, length, get_or, arith}
use Rattle.std.proofs.lemmas.Bool.{cases_lt}
use Rattle.std.proofs.lemmas.List.{append_assoc, length-append, length_push, get_or_push, get_or_append_left, get_or-append-add}
use Rattle.std.proofs.lemmas.Nat.{div-add-mod', div_below, mod_below}
use Rattle.super_group.specs.QuotientLaws.{row_below}
use Rattle.wyckoff.specs.OrbitParts.{IsFilled, IsRowAdded}

last_one : (i n : ℕ) → i < n + 1 → n ≤ i → i ≡ n
last_one i n l m = omega (arith, l, m)

next_row : (r n : ℕ) → (r + 1) * n ≡ r * n + n
next_row r n = omega arith

some_columns : (rows columns k : ℕ) → k < rows * columns → 0 < columns
some_columns rows zero k l = let e : rows * 0 ≡ 0 = omega arith in absurd (omega (arith, l, e))
some_columns rows (suc n) k l = omega arith

module _ {A : Type 0} where
  pub row-none : (P : ℕ → A → Type 0) (d : A) (list : List A) → IsRowAdded 0 P d list list
  row-none P d list = record { row = []; is = nothing list; count = refl; each = λ c l. absurd (omega (arith, l)) } where
    nothing : (xs : List A) → xs ≡ xs ++ []
    nothing [] = refl
    nothing (x ∷ xs) = ap (λ ys. x ∷ ys) (nothing xs)

  pub row-more : (n : ℕ) (P : ℕ → A → Type 0) (d : A) (list list' list'' : List A) (x : A) → IsRowAdded n P d list list' → P n x → list'' ≡ list' ++ x ∷ []
      → IsRowAdded (n + 1) P d list list''
  row-more n P d list list' list'' x a p e = record {
    row = a.row ++ x ∷ [];
    is = e ∙ ap (λ ys. ys ++ x ∷ []) a.is ∙ append_assoc list a.row (x ∷ []);
    count = length_push a.row x ∙ ap (λ m. m + 1) a.count;
    each = λ c l.
        elim (cases_lt c n) [
          | inl m ↦ subst (P c) (sym (get_or_append_left a.row (x ∷ []) d c (subst (λ k. c < k) (sym a.count) m))) (a.each c m)
          | inr m ↦
              let f : c ≡ n = last_one c n l m in
              subst (P c) (sym (get_or_push a.row x d c (a.count ∙ sym f))) (subst (λ k. P k x) (sym f) p)
        ];
  }

  pub filled-none : (columns : ℕ) (P : ℕ → ℕ → A → Type 0) (d : A) → IsFilled 0 columns P d []
  filled-none columns P d = record { size = omega arith; each = λ r c l m. absurd (omega (arith, l)) }

  pub filled-more : (rows columns : ℕ) (P : ℕ → ℕ → A → Type 0) (d : A) (list list' : List A) → IsFilled rows columns P d list → IsRowAdded columns (P rows) d list list'
      → IsFilled (rows + 1) columns P d list'
  filled-more rows columns P d list list' f a = record {
    size = ap length a.is ∙ length-append list a.row ∙ (λ i. f.size i + a.count i) ∙ sym (next_row rows columns);
    each = λ r c l m.
        elim (cases_lt r rows) [
          | inl k ↦
              subst (P r c)
              (sym (get_or_append_left list a.row d (r * columns + c) (subst (λ n. r * columns + c < n) (sym f.size) (row_below rows columns r c k m)))
              ∙ ap (λ (xs : List A). get_or xs (r * columns + c) d) (sym a.is))
              (f.each r c k m)
          | inr k ↦
              let e : r ≡ rows = last_one r rows l k in
              subst (P r c)
              (sym (get_or-append-add list a.row c d) ∙ (λ i. get_or (sym a.is i) (f.size i + c) d) ∙ ap (λ n. get_or list' (n * columns + c) d) (sym e))
              (subst (λ n. P n c (get_or a.row c d)) (sym e) (a.each c m))
        ];
  }

  -- each entry of the list stands in a row and a column
  pub filled-at : (rows columns : ℕ) (P : ℕ → ℕ → A → Type 0) (d : A) (list : List A) → IsFilled rows columns P d list → (k : ℕ) → k < length list
      → (r c : ℕ) × (r < rows) × (c < columns) × P r c (get_or list k d)
  filled-at rows columns P d list f k l =
      let m : k < rows * columns = subst (λ n. k < n) f.size l in
      let some : 0 < columns = some_columns rows columns k m in
      let r = k / columns in
      let c = k % columns in
      let a : r < rows = div_below k columns rows some m in
      let b : c < columns = mod_below k columns some in
      (r, c, a, b, subst (λ n. P r c (get_or list n d)) (div-add-mod' k columns) (f.each r c a b))
