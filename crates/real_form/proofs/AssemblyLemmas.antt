use Rattle.std.proofs.Common.{◌≡◌, ℕ, suc, zero, ◌+◌, ◌*◌, ◌/◌, ◌%◌, ◌<◌, ◌≤◌, refl, sym, ◌∙◌, ap, subst, arith, List, [], ◌∷◌, length, map, get_or}
use Rattle.std.proofs.lemmas.Nat.{div-mul-add, mod-mul-add}
use Rattle.std.proofs.lemmas.List.{length-map}
use Rattle.std.proofs.Math.Nat.{mul-le-mul_left, mul-one}
use Rattle.cyclo24.specs.FieldOn.{FieldOn}
use Rattle.lin_alg.specs.Matrices.{IsRepresentation, AreEqualBelow, unit_entry}
use Rattle.lin_alg.specs.Matrix.{MatrixView, entry}
use Rattle.lin_alg.specs.Reduced.{IsForm}
use Rattle.lin_alg.specs.Rows.{exact_rows, HaveWidth}
use Rattle.lin_alg.specs.Spans.{row_vectors, IsInSpan}
use Rattle.super_group.specs.Quotient.{SupercellGroup, IsQuotient, order_of, quotient_group}
use Rattle.super_group.specs.QuotientLaws.{row_below}
use Rattle.real_form.specs.Parts.{Parts, lifted, orbit, real_image}
use Rattle.real_form.specs.Bases.{row_at, pivot_at, matrix_of, AreMatricesIn}
use Rattle.real_form.proofs.FormLaws.{factors-same, same-in, same-multiply, same-identity}
use Rattle.real_form.proofs.Factors.{block-end, some_translation}
use Rattle.real_form.specs.Actions.{stacked, factored_entry}

module _ {A K : Type 0} (f : FieldOn K) (value : A → K) where
  pub length-exact : (rows : List (ℕ × List A)) → length (exact_rows f value rows) ≡ length rows
  length-exact [] = refl
  length-exact (r ∷ rows) = ap suc (length-exact rows)

  pub pivot-exact : (rows : List (ℕ × List A)) (i : ℕ) → i < length rows → get_or (map {A = ℕ × List A} {B = ℕ} (λ r. r.0) rows) i 0 ≡ pivot_at (exact_rows f value rows) i
  pivot-exact [] i l = absurd (omega arith)
  pivot-exact (r ∷ rows) zero l = refl
  pivot-exact (r ∷ rows) (suc i) l = pivot-exact rows i (omega arith)

pub pivot-below : {A : Type 0} (w : ℕ) (rows : List (ℕ × List A)) (i : ℕ) → HaveWidth w rows → i < length rows → get_or (map {A = ℕ × List A} {B = ℕ} (λ r. r.0) rows) i 0 < w
pivot-below w [] i h l = absurd (omega arith)
pivot-below w (r ∷ rows) zero h l = h.0
pivot-below w (r ∷ rows) (suc i) h l = pivot-below w rows i h.2 (omega arith)

-- matrices one below the other, by their numbers
module _ {A Z K : Type 0} (p : Parts Z K) (value : A → K) (n : ℕ) (D : ℕ → ℕ → ℕ → Z) (rows : List (ℕ × List A)) (pivots : List ℕ) (vs : ℕ → ℕ → Z) where
  pub stacked-is : (d : ℕ) → d ≡ length rows → pivots ≡ map {A = ℕ × List A} {B = ℕ} (λ r. r.0) rows →
      ((m : ℕ) → m < length rows → vs m ≡ lifted p n (row_at p.real (exact_rows p.real value rows) m)) →
      (count step : ℕ) (E : ℕ → ℕ → K) →
      ((k m : ℕ) → k < count * length pivots → m < length pivots → E k m ≡ orbit p n D (vs m) ((k / length pivots) * step) (get_or pivots (k % length pivots) 0)) →
      (t i j : ℕ) → t < count → i < d → j < d → E (t * d + i) j ≡ matrix_of p.real (exact_rows p.real value rows) (real_image p n D) (t * step) i j
  stacked-is d same ep ev count step E h t i j lt li lj =
      let k : ℕ = t * d + i in
      let e : length pivots ≡ d = ap length ep ∙ length-map {A = ℕ × List A} {B = ℕ} rows (λ r. r.0) ∙ sym same in
      let lk : k < count * length pivots = subst (λ (x : ℕ). k < count * x) (sym e) (row_below count d t i lt li) in
      let lm : j < length pivots = subst (λ (x : ℕ). j < x) (sym e) lj in
      let quotient : k / length pivots ≡ t = ap (λ x. k / x) e ∙ div-mul-add t d i li in
      let rest : k % length pivots ≡ i = ap (λ x. k % x) e ∙ mod-mul-add t d i li in
      let at : i < length rows = subst (λ (x : ℕ). i < x) same li in
      let column : j < length rows = subst (λ (x : ℕ). j < x) same lj in
      h k j lk lm
      ∙ (λ z. orbit p n D (ev j column z) (quotient z * step) (get_or (ep z) (rest z) 0))
      ∙ ap (orbit p n D (lifted p n (row_at p.real (exact_rows p.real value rows) j)) (t * step)) (pivot-exact p.real value rows i at)

times_some : (a b : ℕ) → 0 < b → a ≤ a * b
times_some a b l = let one : 1 ≤ b = omega (arith, l) in let h : a * 1 ≤ a * b = mul-le-mul_left a one in let e : a * 1 ≡ a = mul-one a in omega (arith, h, e)

-- there are at most as many translations, and listed operations, as elements
module _ (s : SupercellGroup) (h : IsQuotient s) where
  pub few_translations : length s.translations ≤ order_of s
  few_translations = let e = block-end s h 0 h.parent.list.some in omega (arith, e)

  pub few_rotations : length s.parent.ops ≤ order_of s
  few_rotations = times_some (length s.parent.ops) (length s.translations) (some_translation s h)

  pub block-start : (r : ℕ) → r < length s.parent.ops → r * length s.translations < order_of s
  block-start r l = let e = block-end s h r l in let some = some_translation s h in omega (arith, e, some)

-- the entries of kept matrices of d rows are those at the pivots
pub record AreFactors {A Z K : Type 0} (p : Parts Z K) (value : A → K) (n : ℕ) (s : SupercellGroup) (D : ℕ → ℕ → ℕ → Z) (rs : List (ℕ × (ℕ → K))) (left right : MatrixView A) (d : ℕ) : Type 0 where
  pub translations : (t i j : ℕ) → t < length s.translations → i < d → j < d → entry p.real value left (t * d + i) j ≡ matrix_of p.real rs (real_image p n D) t i j
  pub listed : (r i j : ℕ) → r < length s.parent.ops → i < d → j < d → entry p.real value right (r * d + i) j ≡ matrix_of p.real rs (real_image p n D) (r * length s.translations) i j

-- matrices in a basis that multiply as the quotient
pub record IsGiven {Z K : Type 0} (p : Parts Z K) (n : ℕ) (s : SupercellGroup) (D : ℕ → ℕ → ℕ → Z) (rs : List (ℕ × (ℕ → K))) (d : ℕ) (E : ℕ → ℕ → ℕ → K) : Type 0 where
  pub matrices : AreMatricesIn p n D (order_of s) rs E
  pub multiplies : IsRepresentation p.real (quotient_group s) d E
  pub identity : AreEqualBelow d (E 0) (unit_entry p.real)

-- the products of kept matrices
module _ {A Z K : Type 0} (p : Parts Z K) (value : A → K) (n : ℕ) (s : SupercellGroup) (h : IsQuotient s) (D : ℕ → ℕ → ℕ → Z) (rep : IsRepresentation p.complex (quotient_group s) n D) (one : AreEqualBelow n (D 0) (unit_entry p.complex)) (rs : List (ℕ × (ℕ → K))) (form : IsForm p.real (n + n) rs) (kept : (q : ℕ) → q < order_of s → (v : ℕ → K) → IsInSpan p.real (row_vectors rs) v → IsInSpan p.real (row_vectors rs) (real_image p n D q v)) (left right : MatrixView A) where
  given : AreFactors p value n s D rs left right (length rs) → IsGiven p n s D rs (length rs) (factored_entry p.real value (length rs) (length s.translations) left right)
  unfolding factored_entry
  given a =
      let d : ℕ = length rs in
      let E : ℕ → ℕ → ℕ → K = factored_entry p.real value d (length s.translations) left right in
      let same : (q : ℕ) → q < order_of s → AreEqualBelow d (E q) (matrix_of p.real rs (real_image p n D) q) =
      factors-same p n s h D rep one rs form kept (stacked p.real value left d) (stacked p.real value right d) (λ t lt i j li lj. a.translations t i j lt li lj) (λ r lr i j li lj. a.listed r i j lr li lj) in
      record {
        matrices = same-in p n s h D rep one rs form kept E same;
        multiplies = same-multiply p n s h D rep one rs form kept E same;
        identity = same-identity p n s h D rep one rs form kept E same;
      }

  pub factors-give : (d : ℕ) → length rs ≡ d → AreFactors p value n s D rs left right d → IsGiven p n s D rs d (factored_entry p.real value d (length s.translations) left right)
  factors-give d ed = subst (λ (d : ℕ). AreFactors p value n s D rs left right d → IsGiven p n s D rs d (factored_entry p.real value d (length s.translations) left right)) ed given
