-- Weights of induced representations.
--
-- weights-decide: their convolution is 0 at every element where it is 0 at the identity
-- weights-even: they are the same on an element and on its inverse
use Rattle.std.proofs.Common.{◌≡◌, ℕ, ◌+◌, ◌<◌, sym, ◌∙◌, ap, arith}
use Rattle.cyclo24.specs.ExactK24.{Exact24, k24_laws}
use Rattle.cyclo24.specs.FieldOn.{FieldOn}
use Rattle.cyclo24.specs.RealK24Laws.{k24_is_real}
use Rattle.cyclo24.specs.SumLaws.{total-append}
use Rattle.cyclo24.specs.Sums.{total, IsReal}
use Rattle.cyclo24.specs.TotalLaws.{total-same, total-plus}
use Rattle.lin_alg.specs.Solving.{joined}
use Rattle.lin_alg.specs.SolvingLaws.{joined-front, joined-behind}
use Rattle.cyclo24.specs.ExactZ24.{ExactZ24, z24, z24_laws, conj, real_part, imag_part, from_real}
use Rattle.cyclo24.specs.Z24Laws.{conj-conj, real_part-plus, conj-plus, conj-times, from_real-nought, from_real-plus, from_real-times, real_part-from_real, imag_part-from_real, imag_part-plus}
use Rattle.cyclo24.specs.Z24PartsLaws.{conj-nought, imag_part-conj, same_parts, no_parts, real_part-nought, real_part-times-conj}
use Rattle.lin_alg.specs.Matrices.{convolution, unit_entry, AreEqualBelow, IsRepresentation}
use Rattle.super_group.specs.Quotient.{SupercellGroup, order_of, quotient_group}
use Rattle.super_group.specs.QuotientLaws.{quotient-lawful}
use Rattle.induce.specs.Apart.{IsEven, weights_by}
use Rattle.induce.specs.Induced.{weight_of}
use Rattle.induce.specs.InducedLaws.{induced-multiplies, induced-identity}
use Rattle.induce.specs.InducedView.{InducedView, IsInducedOf}
use Rattle.induce.specs.Tables.{dimension_in, matrix_in, character_in, size_in, matrices_in}
use Rattle.char_orth.proofs.EvenLemmas.{IsDefinite, conjugate-character}
use Rattle.char_orth.proofs.WeightLemmas.{IsRingMap, sum-total, decides}

conjugation : IsRingMap z24_laws z24_laws conj
conjugation = record { of_nought = conj-nought; of_plus = conj-plus; of_times = conj-times }

embedding : IsRingMap k24_laws z24_laws from_real
embedding = record { of_nought = from_real-nought; of_plus = from_real-plus; of_times = from_real-times }

-- a number plus its conjugate is real
weight-sum : (x : ExactZ24) → from_real (weight_of x) ≡ z24_laws.plus x (conj x)
weight-sum x =
    let y = z24_laws.plus x (conj x) in
    same_parts (from_real (real_part y)) y (real_part-from_real (real_part y))
    (imag_part-from_real (real_part y) ∙ sym (imag_part-plus x (conj x) ∙ ap (k24_laws.plus (imag_part x)) (imag_part-conj x) ∙ k24_laws.plus-neg (imag_part x)))

-- where a sum of squares is 0 only if each is, so is a sum of pairs of squares
pair-squares : {K : Type 0} (f : FieldOn K) → IsReal f → (n : ℕ) (a b : ℕ → K) → total f n (λ k. f.plus (f.times (a k) (a k)) (f.times (b k) (b k))) ≡ f.nought
    → (k : ℕ) → k < n → (a k ≡ f.nought) × (b k ≡ f.nought)
pair-squares {K} f real n a b z k l =
    let g : ℕ → K = joined n a b in
    let s : total f (n + n) (λ i. f.times (g i) (g i)) ≡ f.nought =
    total-append f n n (λ i. f.times (g i) (g i))
    ∙ (λ t. f.plus
    (total-same f n _ (λ i. f.times (a i) (a i)) (λ i m u. f.times (joined-front n a b i m u) (joined-front n a b i m u)) t)
    (total-same f n _ (λ i. f.times (b i) (b i)) (λ i m u. f.times (joined-behind n a b i u) (joined-behind n a b i u)) t))
    ∙ sym (total-plus f n (λ i. f.times (a i) (a i)) (λ i. f.times (b i) (b i))) ∙ z in
    let first : k < n + n = omega (arith, l) in
    let second : n + k < n + n = omega (arith, l) in
    (sym (joined-front n a b k l) ∙ real (n + n) g s k first, sym (joined-behind n a b k) ∙ real (n + n) g s (n + k) second)

-- a sum of numbers times their conjugates is 0 only where each is
z24-definite : IsDefinite z24_laws conj
z24-definite n y z k l =
    let a : ℕ → Exact24 = λ i. real_part (y i) in
    let b : ℕ → Exact24 = λ i. imag_part (y i) in
    let s : total k24_laws n (λ i. k24_laws.plus (k24_laws.times (a i) (a i)) (k24_laws.times (b i) (b i))) ≡ k24_laws.nought =
    sym (sum-total z24_laws k24_laws real_part real_part-nought real_part-plus n (λ i. z24_laws.times (conj (y i)) (y i))
    ∙ total-same k24_laws n _ _ (λ i m. ap real_part (z24_laws.times_comm (conj (y i)) (y i)) ∙ real_part-times-conj (y i)))
    ∙ ap real_part z ∙ real_part-nought in
    let t = pair-squares k24_laws k24_is_real n a b s k l in
    no_parts (y k) t.0 t.1

weight-conj : (x : ExactZ24) → weight_of (conj x) ≡ weight_of x
weight-conj x = ap real_part (ap (z24_laws.plus (conj x)) (conj-conj x) ∙ z24_laws.plus_comm (conj x) x)

module _ (q : SupercellGroup) where
  multiplies : (v : InducedView) → IsInducedOf q v → IsRepresentation z24_laws (quotient_group q) (dimension_in v.tables) (matrix_in q v.tables)
  multiplies v h =
      let i = h.tables.inducible in
      induced-multiplies q i.on.quotient v.tables.star.row v.tables.star i.on.star i.on.phases i.on.cells (size_in v.tables) (matrices_in v.tables) i.small

  unit-first : (v : InducedView) → IsInducedOf q v → AreEqualBelow (dimension_in v.tables) (matrix_in q v.tables 0) (unit_entry z24_laws)
  unit-first v h =
      let i = h.tables.inducible in
      induced-identity q i.on.quotient v.tables.star.row v.tables.star i.on.star i.on.phases i.on.cells (size_in v.tables) (matrices_in v.tables) i.small

  pub weights-even : (v : InducedView) → IsInducedOf q v → IsEven (quotient_group q) (weights_by v)
  weights-even v h e l =
      let law = quotient-lawful q h.tables.inducible.on.quotient in
      let s = (quotient_group q).inverse e in
      h.weights s (law.inverse_below e l)
      ∙ ap weight_of (conjugate-character z24_laws conj conjugation conj-conj z24-definite (quotient_group q) law (dimension_in v.tables) (matrix_in q v.tables) (multiplies v h) (unit-first v h) e l)
      ∙ weight-conj (character_in q v.tables e) ∙ sym (h.weights e l)

  weight-is : (v : InducedView) → IsInducedOf q v → (e : ℕ) → e < order_of q → from_real (weights_by v e) ≡ z24_laws.plus (character_in q v.tables e) (conj (character_in q v.tables e))
  weight-is v h e l = ap from_real (h.weights e l) ∙ weight-sum (character_in q v.tables e)

  pub weights-decide : (v u : InducedView) → IsInducedOf q v → IsInducedOf q u
      → convolution k24_laws (quotient_group q) (weights_by v) (weights_by u) 0 ≡ k24_laws.nought
      → (p : ℕ) → p < order_of q → convolution k24_laws (quotient_group q) (weights_by v) (weights_by u) p ≡ k24_laws.nought
  weights-decide v u hv hu =
      decides z24_laws z24.characteristic_zero conj conjugation (quotient_group q) (quotient-lawful q hv.tables.inducible.on.quotient)
      (dimension_in v.tables) (dimension_in u.tables) (matrix_in q v.tables) (matrix_in q u.tables) (multiplies v hv) (multiplies u hu)
      k24_laws from_real embedding real_part real_part-from_real (weights_by v) (weights_by u) (weight-is v hv) (weight-is u hu)
