use Rattle.std.proofs.Common.{◌≡◌, ℕ, ◌+◌, ◌*◌, ◌/◌, ◌%◌, ◌<◌, inl, inr, refl, sym, ◌∙◌, ap, subst, List, length, map, get_or}
use Rattle.std.proofs.lemmas.List.{length-map}
use Rattle.std.proofs.Math.Nat.{mul-one}
use Rattle.cyclo24.specs.declared.k24.K24.{K24}
use Rattle.cyclo24.specs.K24.{exact24}
use Rattle.cyclo24.specs.ExactK24.{Exact24, k24, k24_laws}
use Rattle.cyclo24.specs.ExactZ24.{ExactZ24, z24_laws}
use Rattle.lin_alg.specs.Action.{lift}
use Rattle.lin_alg.specs.Matrices.{IsRepresentation, AreEqualBelow, unit_entry}
use Rattle.lin_alg.specs.Matrix.{MatrixView, entry, IsWideDot}
use Rattle.lin_alg.specs.Rows.{exact_rows}
use Rattle.lin_alg.specs.SpanLaws.{funext}
use Rattle.super_group.specs.Quotient.{SupercellGroup, IsQuotient, order_of, quotient_group}
use Rattle.real_form.specs.Parts.{lifted, orbit, real_image}
use Rattle.real_form.specs.Bases.{row_at, matrix_of, AreMatricesIn}
use Rattle.real_form.specs.Complexes.{z24_parts}
use Rattle.real_form.specs.Actions.{lift-list}
use Rattle.real_form.specs.Held.{entry_in, IsHeld}
use Rattle.real_form.specs.KeptBasis.{IsKeptBasis, AreFactorsOf}
use Rattle.real_form.specs.Products.{IsWideRow}
use Rattle.real_form.specs.RealBasis.{IsWideFactors, IsWideMatrices}
use Rattle.real_form.specs.Wide.{IsWideImage, IsWideLifted}
use Rattle.real_form.proofs.AssemblyLemmas.{length-exact, IsGiven, factors-give, stacked-is}
use Rattle.real_form.proofs.FormLaws.{matrices-in}
use Rattle.real_form.proofs.NarrowLemmas.{narrow-at, wide-row}

-- what a real form keeps, with its matrices in the basis
pub record IsKeepable (s : SupercellGroup) (n : ℕ) (D : ℕ → ℕ → ℕ → ExactZ24) (rs : List (ℕ × (ℕ → Exact24))) (d : ℕ) (left right : MatrixView K24) : Type 0 where
  pub held : IsHeld s d left right
  pub matrices : AreMatricesIn z24_parts n D (order_of s) rs (entry_in s d left right)

module _ (s : SupercellGroup) (h : IsQuotient s) (n : ℕ) (D : ℕ → ℕ → ℕ → ExactZ24) (rep : IsRepresentation z24_laws (quotient_group s) n D) (one : AreEqualBelow n (D 0) (unit_entry z24_laws)) (rows : List (ℕ × List K24)) (basis : IsKeptBasis (order_of s) n D rows) (left right : MatrixView K24) (factors : AreFactorsOf s n D rows left right) where
  abbrev rs : List (ℕ × (ℕ → Exact24))
  rs = exact_rows k24_laws exact24 rows

  pub keepable : ((p r j : ℕ) → p < left.rows → r < length s.parent.ops → j < left.cols → IsWideDot k24 left.cols (entry k24_laws exact24 left p) (λ k. entry k24_laws exact24 right (r * left.cols + k) j) → ⊥) →
      (d : ℕ) → length rows ≡ d → IsKeepable s n D rs d left right
  keepable narrow d ed = subst (λ (d : ℕ). IsKeepable s n D rs d left right) ed here where
    here : IsKeepable s n D rs (length rows) left right
    here =
        let e : length rs ≡ length rows = length-exact k24_laws exact24 rows in
        let given : IsGiven z24_parts n s D rs (length rows) (entry_in s (length rows) left right) =
        factors-give z24_parts exact24 n s h D rep one rs basis.form basis.kept left right (length rows) e (record { translations = factors.translations; listed = factors.listed }) in
        record {
          held = record {
            stacked = factors.stacked;
            narrow = narrow-at k24 exact24 left right (length rows) (length s.translations) (length s.parent.ops) left.cols factors.stacked.left_cols narrow;
            identity = given.identity;
            multiplies = given.multiplies;
          };
          matrices = given.matrices;
        }

  -- a wide product
  pub wide-products : ((p r j : ℕ) × (p < left.rows) × (r < length s.parent.ops) × (j < left.cols) × IsWideDot k24 left.cols (entry k24_laws exact24 left p) (λ k. entry k24_laws exact24 right (r * left.cols + k) j)) →
      (A : ℕ → ℕ → ℕ → Exact24) × AreMatricesIn z24_parts n D (order_of s) rs A × IsWideMatrices n (length s.translations) (length s.parent.ops) D rs A
  wide-products w =
      let A : ℕ → ℕ → ℕ → Exact24 = matrix_of k24_laws rs (real_image z24_parts n D) in
      let e : length rs ≡ length rows = length-exact k24_laws exact24 rows in
      let row = wide-row k24 exact24 left right (length rows) (length s.translations) (length s.parent.ops) A (λ r. A (r * length s.translations)) left.rows left.cols factors.stacked.left_rows factors.stacked.left_cols factors.translations factors.listed w in (
        A,
        matrices-in z24_parts n s h D rep one rs basis.form basis.kept,
        inr (subst (λ (d : ℕ). (a b i : ℕ) × (a < length s.translations) × (b < length s.parent.ops) × (i < d) × IsWideRow k24 d (A a i) (A (b * length s.translations))) (sym e) row),
      )

-- a wide row or image
pub wide-factors : (s : SupercellGroup) (h : IsQuotient s) (n : ℕ) (D : ℕ → ℕ → ℕ → ExactZ24) → IsRepresentation z24_laws (quotient_group s) n D → AreEqualBelow n (D 0) (unit_entry z24_laws) → (rows : List (ℕ × List K24)) →
    IsKeptBasis (order_of s) n D rows → IsWideFactors n (order_of s) D (exact_rows k24_laws exact24 rows) →
    (A : ℕ → ℕ → ℕ → Exact24) × AreMatricesIn z24_parts n D (order_of s) (exact_rows k24_laws exact24 rows) A × IsWideMatrices n (length s.translations) (length s.parent.ops) D (exact_rows k24_laws exact24 rows) A
wide-factors s h n D rep one rows basis w =
    let rs : List (ℕ × (ℕ → Exact24)) = exact_rows k24_laws exact24 rows in
    (matrix_of k24_laws rs (real_image z24_parts n D), matrices-in z24_parts n s h D rep one rs basis.form basis.kept, inl w)

-- the matrices that a real form shows
pub shown : (n m : ℕ) (D : ℕ → ℕ → ℕ → ExactZ24) (rs rs' : List (ℕ × (ℕ → Exact24))) (E E' : ℕ → ℕ → ℕ → Exact24) → rs ≡ rs' → E ≡ E' → AreMatricesIn z24_parts n D m rs E → AreMatricesIn z24_parts n D m rs' (λ q i j. lift k24_laws (E' q i j).0)
shown n m D xs ys E E' er ee h =
    let lifted : E' ≡ (λ q i j. lift k24_laws (E' q i j).0) = funext (λ q. funext (λ i. funext (λ j. sym (lift-list k24 (E' q i j))))) in
    subst (λ (F : ℕ → ℕ → ℕ → Exact24). AreMatricesIn z24_parts n D m ys F) lifted
    (subst (λ (F : ℕ → ℕ → ℕ → Exact24). AreMatricesIn z24_parts n D m ys F) ee (subst (λ (zs : List (ℕ × (ℕ → Exact24))). AreMatricesIn z24_parts n D m zs E) er h))

-- the kept matrices, from those that are formed
pub factors-of : (s : SupercellGroup) (n : ℕ) (D : ℕ → ℕ → ℕ → ExactZ24) (rows : List (ℕ × List K24)) (pivots : List ℕ) (vs : ℕ → ℕ → ExactZ24) (left right : MatrixView K24) (count listed : ℕ) →
    pivots ≡ map {A = ℕ × List K24} {B = ℕ} (λ r. r.0) rows → ((m : ℕ) → m < length rows → vs m ≡ lifted z24_parts n (row_at k24_laws (exact_rows k24_laws exact24 rows) m)) →
    count ≡ length s.translations → listed ≡ length s.parent.ops →
    left.rows ≡ count * length pivots → left.cols ≡ length pivots →
    ((k m : ℕ) → k < count * length pivots → m < length pivots → entry k24_laws exact24 left k m ≡ orbit z24_parts n D (vs m) ((k / length pivots) * 1) (get_or pivots (k % length pivots) 0)) →
    right.rows ≡ listed * length pivots → right.cols ≡ length pivots →
    ((k m : ℕ) → k < listed * length pivots → m < length pivots → entry k24_laws exact24 right k m ≡ orbit z24_parts n D (vs m) ((k / length pivots) * count) (get_or pivots (k % length pivots) 0)) →
    AreFactorsOf s n D rows left right
factors-of s n D rows pivots vs left right count listed ep ev et er lr lc le rr rc re =
    let d : ℕ = length rows in
    let M : ℕ → ℕ → ℕ → Exact24 = matrix_of k24_laws (exact_rows k24_laws exact24 rows) (real_image z24_parts n D) in
    let e : length pivots ≡ d = ap length ep ∙ length-map {A = ℕ × List K24} {B = ℕ} rows (λ r. r.0) in
    record {
      stacked = record {
        left_rows = lr ∙ (λ z. et z * e z);
        left_cols = lc ∙ e;
        right_rows = rr ∙ (λ z. er z * e z);
        right_cols = rc ∙ e;
      };
      translations = λ t i j lt li lj.
          stacked-is z24_parts exact24 n D rows pivots vs d refl ep ev count 1 (entry k24_laws exact24 left) le t i j (subst (λ (c : ℕ). t < c) (sym et) lt) li lj
          ∙ ap (λ q. M q i j) (mul-one t);
      listed = λ r i j lt li lj.
          stacked-is z24_parts exact24 n D rows pivots vs d refl ep ev listed count (entry k24_laws exact24 right) re r i j (subst (λ (c : ℕ). r < c) (sym er) lt) li lj
          ∙ ap (λ c. M (r * c) i j) et;
    }

-- a wide image of a vector is one of the row that it is
pub images-wide : (n m d : ℕ) (D : ℕ → ℕ → ℕ → ExactZ24) (rows : List (ℕ × List K24)) (vs : ℕ → ℕ → ExactZ24) → d ≡ length rows → ((k : ℕ) → k < length rows → vs k ≡ lifted z24_parts n (row_at k24_laws (exact_rows k24_laws exact24 rows) k)) →
    (k q : ℕ) × (k < d) × (q < m) × IsWideImage n D q (vs k) → IsWideFactors n m D (exact_rows k24_laws exact24 rows)
images-wide n m d D rows vs e ev w =
    let l : w.0 < length rows = subst (λ (x : ℕ). w.0 < x) e w.2 in
    inr (w.0, w.1, subst (λ (x : ℕ). w.0 < x) (sym (length-exact k24_laws exact24 rows)) l, w.3, subst (λ (v : ℕ → ExactZ24). IsWideImage n D w.1 v) (ev w.0 l) w.4)

pub rows-wide : (n m d : ℕ) (D : ℕ → ℕ → ℕ → ExactZ24) (rows : List (ℕ × List K24)) → d ≡ length rows →
    (k : ℕ) × (k < d) × IsWideLifted n (row_at k24_laws (exact_rows k24_laws exact24 rows) k) → IsWideFactors n m D (exact_rows k24_laws exact24 rows)
rows-wide n m d D rows e w = inl (w.0, subst (λ (x : ℕ). w.0 < x) (e ∙ sym (length-exact k24_laws exact24 rows)) w.1, w.2)
