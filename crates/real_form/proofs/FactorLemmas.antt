-- What the calls that form the matrices of a basis require, and what their answers give.
use Rattle.std.proofs.Common.{◌≡◌, ℕ, ◌*◌, ◌/◌, ◌%◌, ◌<◌, ◌≤◌, sym, ◌∙◌, ap, subst, arith, List, length, map, get_or, Vec}
use Rattle.std.proofs.lemmas.List.{length-map}
use Rattle.std.proofs.Math.Nat.{mul-one}
use Rattle.cyclo24.specs.declared.k24.K24.{K24}
use Rattle.cyclo24.specs.declared.z24.Z24.{Z24}
use Rattle.cyclo24.specs.K24.{exact24}
use Rattle.cyclo24.specs.ExactK24.{k24_laws}
use Rattle.cyclo24.specs.ExactZ24.{ExactZ24}
use Rattle.lin_alg.specs.Matrix.{MatrixView, entry}
use Rattle.lin_alg.specs.Rows.{exact_rows, HaveWidth}
use Rattle.super_group.specs.Quotient.{SupercellGroup, IsQuotient, order_of}
use Rattle.real_form.specs.Parts.{lifted, orbit}
use Rattle.real_form.specs.Bases.{row_at}
use Rattle.real_form.specs.Complexes.{z24_parts}
use Rattle.real_form.specs.KeptBasis.{AreFactorsOf}
use Rattle.real_form.specs.Vectors.{vector_at}
use Rattle.real_form.proofs.AssemblyLemmas.{pivot-below, few_translations, few_rotations, block-start}
use Rattle.real_form.proofs.KeepLemmas.{factors-of}

-- the pivots of rows
module _ {A : Type 0} (rows : List (ℕ × List A)) (pivots : List ℕ) (ep : pivots ≡ map {A = ℕ × List A} {B = ℕ} (λ r. r.0) rows) where
  pub pivots-length : length pivots ≡ length rows
  pivots-length = ap length ep ∙ length-map {A = ℕ × List A} {B = ℕ} rows (λ r. r.0)

  pub pivots-below : (w : ℕ) → HaveWidth w rows → (i : ℕ) → i < length pivots → get_or pivots i 0 < w
  pivots-below w h i l =
      subst (λ (xs : List ℕ). get_or xs i 0 < w) (sym ep) (pivot-below w rows i h (subst (λ (k : ℕ). i < k) pivots-length l))

-- the elements whose matrices are kept
module _ (s : SupercellGroup) (h : IsQuotient s) (count : ℕ) (e : count ≡ length s.translations) where
  pub left-elements : (k : ℕ) → k < count → k * 1 < order_of s
  left-elements k l = let few = few_translations s h in let one : k * 1 ≡ k = mul-one k in omega (arith, l, few, one, e)

  pub left-small : (m : ℕ) → m ≡ order_of s → m ≤ 6144 → count ≤ 6144
  left-small m em few = let fewer = few_translations s h in omega (arith, em, few, fewer, e)

  pub right-elements : (listed : ℕ) → listed ≡ length s.parent.ops → (k : ℕ) → k < listed → k * count < order_of s
  right-elements listed el k l =
      subst (λ (c : ℕ). k * c < order_of s) (sym e) (block-start s h k (subst (λ (r : ℕ). k < r) el l))

  pub right-small : (listed m : ℕ) → listed ≡ length s.parent.ops → m ≡ order_of s → m ≤ 6144 → listed ≤ 6144
  right-small listed m el em few = let fewer = few_rotations s h in omega (arith, em, few, fewer, el)

-- the vectors that the rows are
pub vectors-are : {Z : Type 0} (n d : ℕ) (rows : List (ℕ × List K24)) (count : ℕ) (vs us : List (Vec Z24 Z)) → n ≡ d → count ≡ length rows → us ≡ vs →
    ((m : ℕ) → m < count → vector_at vs m ≡ lifted z24_parts n (row_at k24_laws (exact_rows k24_laws exact24 rows) m)) →
    (m : ℕ) → m < length rows → vector_at us m ≡ lifted z24_parts d (row_at k24_laws (exact_rows k24_laws exact24 rows) m)
vectors-are n d rows count vs us en ec e h m l =
    ap (λ xs. vector_at xs m) e ∙ h m (subst (λ (k : ℕ). m < k) (sym ec) l) ∙ ap (λ k. lifted z24_parts k (row_at k24_laws (exact_rows k24_laws exact24 rows) m)) en

-- the matrices A(0), A(step), .., one below the other
pub record AreStackedBy (n : ℕ) (D : ℕ → ℕ → ℕ → ExactZ24) (pivots : List ℕ) (vs : ℕ → ℕ → ExactZ24) (count step : ℕ) (a : MatrixView K24) : Type 0 where
  pub rows : a.rows ≡ count * length pivots
  pub cols : a.cols ≡ length pivots
  pub entries : (k m : ℕ) → k < count * length pivots → m < length pivots
      → entry k24_laws exact24 a k m ≡ orbit z24_parts n D (vs m) ((k / length pivots) * step) (get_or pivots (k % length pivots) 0)

module _ (n : ℕ) (D : ℕ → ℕ → ℕ → ExactZ24) where
  pub stacked-moved : {Z : Type 0} (pivots seen : List ℕ) (us vs : List (Vec Z24 Z)) (count step : ℕ) (a : MatrixView K24) → seen ≡ pivots → us ≡ vs →
      AreStackedBy n D seen (vector_at us) count step a → AreStackedBy n D pivots (vector_at vs) count step a
  stacked-moved {Z} pivots seen us vs count step a ep ev h =
      subst (λ (xs : List (Vec Z24 Z)). AreStackedBy n D pivots (vector_at xs) count step a) ev
      (subst (λ (xs : List ℕ). AreStackedBy n D xs (vector_at us) count step a) ep h)

  pub factors-by : (s : SupercellGroup) (rows : List (ℕ × List K24)) (pivots : List ℕ) (vs : ℕ → ℕ → ExactZ24) (left right : MatrixView K24) (count listed : ℕ) →
      pivots ≡ map {A = ℕ × List K24} {B = ℕ} (λ r. r.0) rows →
      ((m : ℕ) → m < length rows → vs m ≡ lifted z24_parts n (row_at k24_laws (exact_rows k24_laws exact24 rows) m)) → count ≡ length s.translations → listed ≡ length s.parent.ops →
      AreStackedBy n D pivots vs count 1 left → AreStackedBy n D pivots vs listed count right → AreFactorsOf s n D rows left right
  factors-by s rows pivots vs left right count listed ep ev et er l r =
      factors-of s n D rows pivots vs left right count listed ep ev et er l.rows l.cols l.entries r.rows r.cols r.entries
