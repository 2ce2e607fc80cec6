-- The matrices of a group in a reduced basis of a space that it keeps.
--
-- image-maps: the real images are linear maps that multiply as the quotient
-- orbit-kept, whole-kept: the span of an orbit, and the whole space, are kept
-- matrices-in, matrices-multiply, matrices-identity: the entries at the pivots are the matrices in the basis
-- matrices-factor: A(q) is the matrix of its translation times that of its listed operation
-- factors-same: kept matrices that hold these entries have products with these entries
use Rattle.std.proofs.Common.{◌≡◌, ℕ, ◌+◌, ◌*◌, ◌/◌, ◌%◌, ◌<◌, ◌≤◌, sym, ◌∙◌, ap, arith, List, length}
use Rattle.std.proofs.lemmas.Nat.{div-add-mod'}
use Rattle.cyclo24.specs.TotalLaws.{total-same}
use Rattle.lin_alg.specs.Spans.{row_vectors, IsInSpan}
use Rattle.lin_alg.specs.Reduced.{IsForm}
use Rattle.lin_alg.specs.Matrices.{mul, unit_entry, AreEqualBelow, IsRepresentation}
use Rattle.super_group.specs.Quotient.{SupercellGroup, IsQuotient, order_of, quotient_group}
use Rattle.super_group.specs.QuotientLaws.{quotient-lawful, places-below}
use Rattle.real_form.specs.Parts.{Parts, orbit, real_image}
use Rattle.real_form.proofs.PartsLaws.{image-plus, image-times, image-product, image-identity, image-past}
use Rattle.real_form.specs.Orbits.{IsFormOf}
use Rattle.real_form.proofs.OrbitLaws.{span-moved}
use Rattle.real_form.specs.Bases.{row_at, unit_rows, matrix_of, AreMatricesIn}
use Rattle.real_form.proofs.BasisLaws.{AreMaps, coordinates, coordinates-multiply, coordinates-identity, whole-span}
use Rattle.real_form.proofs.Factors.{factored, some_translation, block-end}

module _ {Z K : Type 0} (p : Parts Z K) (n : ℕ) (s : SupercellGroup) (h : IsQuotient s) (D : ℕ → ℕ → ℕ → Z) (rep : IsRepresentation p.complex (quotient_group s) n D) (one : AreEqualBelow n (D 0) (unit_entry p.complex)) where
  pub image-maps : AreMaps p.real (n + n) (quotient_group s) (real_image p n D)
  image-maps = record {
    plus = image-plus p n (quotient_group s) D;
    times = image-times p n (quotient_group s) D;
    product = image-product p n (quotient_group s) D rep;
    identity = image-identity p n (quotient_group s) D one;
  }

  -- the span of an orbit is kept
  pub orbit-kept : (w : ℕ → Z) (rs : List (ℕ × (ℕ → K))) → IsFormOf p.real (n + n) (order_of s) (orbit p n D w) rs →
      (q : ℕ) → q < order_of s → (v : ℕ → K) → IsInSpan p.real (row_vectors rs) v → IsInSpan p.real (row_vectors rs) (real_image p n D q v)
  orbit-kept w rs form q l v k =
      (form.span (real_image p n D q v)).1
      (span-moved p n (quotient_group s) D rep w q (order_of s) l (omega arith) (λ k m. (quotient-lawful s h).product_below q k l m) v ((form.span v).0 k))

  -- the whole space is kept
  pub whole-kept : (q : ℕ) → q < order_of s → (v : ℕ → K) → IsInSpan p.real (row_vectors (unit_rows p.real 0 (n + n))) v → IsInSpan p.real (row_vectors (unit_rows p.real 0 (n + n))) (real_image p n D q v)
  whole-kept q l v k = whole-span p.real (n + n) (real_image p n D q v) (λ j m. image-past p n (quotient_group s) D q v j m)

  module _ (rs : List (ℕ × (ℕ → K))) (form : IsForm p.real (n + n) rs) (kept : (q : ℕ) → q < order_of s → (v : ℕ → K) → IsInSpan p.real (row_vectors rs) v → IsInSpan p.real (row_vectors rs) (real_image p n D q v)) where
    abbrev pub A : ℕ → ℕ → ℕ → K
    A = matrix_of p.real rs (real_image p n D)

    pub matrices-in : AreMatricesIn p n D (order_of s) rs A
    matrices-in = coordinates p.real (n + n) (quotient_group s) (real_image p n D) image-maps rs form kept

    pub matrices-multiply : IsRepresentation p.real (quotient_group s) (length rs) A
    matrices-multiply = coordinates-multiply p.real (n + n) (quotient_group s) (real_image p n D) image-maps rs form kept

    pub matrices-identity : AreEqualBelow (length rs) (A 0) (unit_entry p.real)
    matrices-identity = coordinates-identity p.real (n + n) (quotient_group s) (real_image p n D) image-maps rs form kept

    -- A(q) for the element of rotation q / T and translation q mod T
    pub matrices-factor : (q : ℕ) → q < order_of s → AreEqualBelow (length rs) (A q) (mul p.real (length rs) (A (q % length s.translations)) (A ((q / length s.translations) * length s.translations)))
    matrices-factor q l i j li lj =
        let T : ℕ = length s.translations in
        let r : ℕ = q / T in
        let t : ℕ = q % T in
        let places = places-below s h q l in
        let end : r * T + T ≤ order_of s = block-end s h r places.0 in
        let some : 0 < T = some_translation s h in
        let lt : t < order_of s = omega (arith, places.1, end) in
        let lr : r * T < order_of s = omega (arith, end, some) in
        let e : (quotient_group s).product t (r * T) ≡ q = factored s h r t places.0 places.1 ∙ div-add-mod' q T in
        ap (λ k. A k i j) (sym e) ∙ matrices-multiply t (r * T) lt lr i j li lj

    -- matrices with the same entries in the first rows and columns give the laws again
    module _ (E : ℕ → ℕ → ℕ → K) (same : (q : ℕ) → q < order_of s → AreEqualBelow (length rs) (E q) (A q)) where
      pub same-in : AreMatricesIn p n D (order_of s) rs E
      same-in q m lq lm j = total-same p.real (length rs) _ _ (λ i li. ap (λ x. p.real.times x (row_at p.real rs i j)) (same q lq i m li lm)) ∙ matrices-in q m lq lm j

      pub same-multiply : IsRepresentation p.real (quotient_group s) (length rs) E
      same-multiply a b la lb i j li lj =
          same ((quotient_group s).product a b) ((quotient-lawful s h).product_below a b la lb) i j li lj
          ∙ matrices-multiply a b la lb i j li lj
          ∙ sym (total-same p.real (length rs) _ _ (λ k lk. (λ t. p.real.times (same a la i k li lk t) (same b lb k j lk lj t))))

      pub same-identity : AreEqualBelow (length rs) (E 0) (unit_entry p.real)
      same-identity i j li lj = same 0 (quotient-lawful s h).identity_below i j li lj ∙ matrices-identity i j li lj

    -- products of kept matrices, where these hold the entries
    pub factors-same : (left right : ℕ → ℕ → ℕ → K) → ((t : ℕ) → t < length s.translations → AreEqualBelow (length rs) (left t) (A t)) →
        ((r : ℕ) → r < length s.parent.ops → AreEqualBelow (length rs) (right r) (A (r * length s.translations))) →
        (q : ℕ) → q < order_of s → AreEqualBelow (length rs) (mul p.real (length rs) (left (q % length s.translations)) (right (q / length s.translations))) (A q)
    factors-same left right el er q l i j li lj =
        let places = places-below s h q l in
        total-same p.real (length rs) _ _ (λ k lk. (λ t. p.real.times (el (q % length s.translations) places.1 i k li lk t) (er (q / length s.translations) places.0 k j lk lj t)))
        ∙ sym (matrices-factor q l i j li lj)
