-- A sum of products that isn't wide in short values isn't wide.
use Rattle.std.proofs.Common.{◌≡◌, ◌<◌, ◌+◌, ◌*◌, ◌⊎◌, inl, inr, ℕ, zero, suc, refl, sym, ap, ◌∙◌, subst, arith, Bool, true, false}
use Rattle.std.specs.Prelude.{IsTrue}
use Rattle.algebra.specs.SolveLaws.{by_test}
use Rattle.cyclo24.specs.declared.k24.K24.{K24}
use Rattle.cyclo24.specs.declared.short_k24.ShortK24.{ShortK24}
use Rattle.cyclo24.specs.FieldOn.{FieldOn}
use Rattle.cyclo24.specs.ExactField.{ExactField, Value}
use Rattle.cyclo24.specs.ExactK24.{Exact24, k24, k24_laws}
use Rattle.cyclo24.specs.ExactShort.{short24}
use Rattle.cyclo24.specs.K24.{exact24}
use Rattle.cyclo24.specs.ShortK24.{exact_short}
use Rattle.cyclo24.specs.Long.{is_long}
use Rattle.cyclo24.specs.Sums.{total}
use Rattle.lin_alg.specs.Matrix.{MatrixView, entry, IsWideTerm, IsWideDot}
use Rattle.real_form.proofs.TermLemmas.{add-left_nought, add-right_nought, nought-add}
use Rattle.real_form.proofs.NarrowLemmas.{dot-same}
use Rattle.real_form.proofs.ShortLemmas.{narrow_product, narrow_sum, nought_short, entry_short}

apart : {b : Bool} → b ≡ true → b ≡ false → ⊥
apart p q = cc

module _ {K : Type 0} (f : FieldOn K) (long : K → Bool) where
  -- adding x y to a sum gives something long
  abbrev pub IsLongTerm : K → K → K → Type 0
  IsLongTerm s x y =
      (f.is_nought x ≡ false) × (f.is_nought y ≡ false)
      × (IsTrue (long (f.times x y)) ⊎ ((f.is_nought s ≡ false) × IsTrue (long (f.plus s (f.times x y)))))

  pub product_kept : (s x y : K) → f.is_nought x ≡ false → f.is_nought y ≡ false → (IsLongTerm s x y → ⊥) → long (f.times x y) ≡ false
  product_kept s x y nx ny n = by_test (λ b. b ≡ false) (long (f.times x y)) (λ e. absurd (n (nx, ny, inl e))) (λ _. refl)

  next_short : (s x y : K) → long s ≡ false → (IsLongTerm s x y → ⊥) → long (f.plus s (f.times x y)) ≡ false
  next_short s x y h n =
      by_test (λ _. long (f.plus s (f.times x y)) ≡ false) (f.is_nought x) (λ zx. ap long (sym (add-left_nought f s x y zx)) ∙ h)
      (λ nx. by_test (λ _. long (f.plus s (f.times x y)) ≡ false) (f.is_nought y) (λ zy. ap long (sym (add-right_nought f s x y zy)) ∙ h)
      (λ ny. by_test (λ _. long (f.plus s (f.times x y)) ≡ false) (f.is_nought s)
      (λ zs. ap long (sym (nought-add f s (f.times x y) zs)) ∙ product_kept s x y nx ny n)
      (λ ns. by_test (λ b. b ≡ false) (long (f.plus s (f.times x y))) (λ e. absurd (n (nx, ny, inr (ns, e)))) (λ _. refl))))

  -- each partial sum is short
  pub sums_short : (d : ℕ) (x y : ℕ → K) → long f.nought ≡ false →
      ((k : ℕ) → k < d → IsLongTerm (total f k (λ l. f.times (x l) (y l))) (x k) (y k) → ⊥) → long (total f d (λ l. f.times (x l) (y l))) ≡ false
  sums_short zero x y z n = z
  sums_short (suc d) x y z n =
      next_short (total f d (λ l. f.times (x l) (y l))) (x d) (y d) (sums_short d x y z (λ k l. n k (omega arith))) (n d (omega arith))

module _
    (g : ExactField)
    (long : Value g → Bool)
    (products : (x y : Value g) → long x ≡ false → long y ≡ false → g.is_wide_product x y ≡ false)
    (sums : (x y : Value g) → long x ≡ false → long y ≡ false → g.is_wide_sum x y ≡ false)
  where
    term_narrow : (s x y : Value g) → long s ≡ false → long x ≡ false → long y ≡ false → (IsLongTerm g.laws long s x y → ⊥) → g.laws.is_nought x ≡ false → g.laws.is_nought y ≡ false →
        IsTrue (g.is_wide_product x y) ⊎ ((g.laws.is_nought s ≡ false) × IsTrue (g.is_wide_sum s (g.laws.times x y))) → ⊥
    term_narrow s x y hs hx hy n nx ny (inl p) = apart p (products x y hx hy)
    term_narrow s x y hs hx hy n nx ny (inr q) = apart q.1 (sums s (g.laws.times x y) hs (product_kept g.laws long s x y nx ny n))

    -- a sum of products of short values that gives nothing long isn't wide
    pub dot_narrow : (d : ℕ) (x y : ℕ → Value g) → long g.laws.nought ≡ false → ((k : ℕ) → long (x k) ≡ false) → ((k : ℕ) → long (y k) ≡ false) →
        ((k : ℕ) → k < d → IsLongTerm g.laws long (total g.laws k (λ l. g.laws.times (x l) (y l))) (x k) (y k) → ⊥) → IsWideDot g d x y → ⊥
    dot_narrow d x y z hx hy n w =
        let k : ℕ = w.0 in
        let l : k < d = w.1 in
        let s = total g.laws k (λ l. g.laws.times (x l) (y l)) in
        let t : IsWideTerm g s (x k) (y k) = w.2 in
        term_narrow s (x k) (y k) (sums_short g.laws long k x y z (λ m b. n m (omega (arith, b, l)))) (hx k) (hy k) (n k l) t.0 t.1 t.2

-- the same over K24
dot24 : (d : ℕ) (x y : ℕ → Exact24) → ((k : ℕ) → is_long (x k).0 ≡ false) → ((k : ℕ) → is_long (y k).0 ≡ false) → (IsWideDot short24 d x y → ⊥) → IsWideDot k24 d x y → ⊥
dot24 d x y hx hy n = dot_narrow k24 (λ z. is_long z.0) narrow_product narrow_sum d x y nought_short hx hy (λ k l t. n (k, l, t))

module _ (left right : MatrixView K24) (a b : MatrixView ShortK24) (count : ℕ) where
  abbrev NoneWide : (f : ExactField) {A : Type 0} (value : A → Value f) (l r : MatrixView A) → ℕ → ℕ → Type 0
  NoneWide f value l r d rows =
      (p q j : ℕ) → p < rows → q < count → j < d → IsWideDot f d (entry f.laws value l p) (λ k. entry f.laws value r (q * d + k) j) → ⊥

  -- where no product is wide in short values of the same matrices, none is
  pub products_narrow : left.cols ≡ right.cols → right.rows ≡ count * left.cols → a.rows ≡ left.rows → a.cols ≡ left.cols →
      ((i j : ℕ) → i < left.rows → j < left.cols → entry k24_laws exact_short a i j ≡ entry k24_laws exact24 left i j) →
      ((i j : ℕ) → i < right.rows → j < right.cols → entry k24_laws exact_short b i j ≡ entry k24_laws exact24 right i j) →
      NoneWide short24 exact_short a b a.cols a.rows → NoneWide k24 exact24 left right left.cols left.rows
  products_narrow square rows ar ac el er n p q j lp lq lj w =
      let d = left.cols in
      let m : NoneWide short24 exact_short a b d left.rows =
      subst (λ (r : ℕ). NoneWide short24 exact_short a b d r) ar (subst (λ (c : ℕ). NoneWide short24 exact_short a b c a.rows) ac n) in
      let x = entry k24_laws exact_short a p in
      let y : ℕ → Exact24 = λ k. entry k24_laws exact_short b (q * d + k) j in
      let within : (k : ℕ) → k < d → q * d + k < right.rows = λ k l. subst (λ (z : ℕ). q * d + k < z) (sym rows) (row_below q k count d lq l) in
      dot24 d x y (λ k. entry_short a p k) (λ k. entry_short b (q * d + k) j) (m p q j lp lq lj)
      (dot-same k24 d (entry k24_laws exact24 left p) (λ k. entry k24_laws exact24 right (q * d + k) j) x y (λ k l. sym (el p k lp l))
      (λ k l. sym (er (q * d + k) j (within k l) (subst (λ (z : ℕ). j < z) square lj))) w)
    where
      row_below : (q k n d : ℕ) → q < n → k < d → q * d + k < n * d
      row_below q k n d lq lk = grind arith
