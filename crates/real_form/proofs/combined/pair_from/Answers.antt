use Rattle.std.proofs.Common.{◌≡◌, ◌<◌, ◌≤◌, ◌+◌, ◌*◌, ◌/◌, ℕ, sym, ◌∙◌, ap, subst, arith, length, mul-le-mul, rules}
use Rattle.std.proofs.lemmas.Nat.{div_below}
use Rattle.cyclo24.specs.Z24.{exact_z24}
use Rattle.cyclo24.specs.ExactK24.{k24_laws}
use Rattle.cyclo24.specs.ExactZ24.{z24_laws}
use Rattle.lin_alg.specs.Rows.{vector}
use Rattle.super_group.specs.Quotient.{order_of}
use Rattle.super_group.specs.QuotientLaws.{row_below}
use Rattle.small_rep.specs.RepCheck.{CheckedView}
use Rattle.kstar.specs.Star.{WaveStar}
use Rattle.induce.specs.Tables.{dimension_in, matrix_in, size_in}
use Rattle.induce.specs.InducedView.{star_in}
use Rattle.real_form.specs.Parts.{orbit}
use Rattle.real_form.specs.Complexes.{z24_parts}
use Rattle.real_form.specs.Sparse.{AreAgain}
use Rattle.real_form.proofs.Factors.{block-end, some_translation}
use Rattle.real_form.proofs.SparseLemmas.{arm-end, first-inside}
use Rattle.real_form.proofs.CombinedLemmas.{again-at, translations_few}
use Rattle.real_form.proofs.combined.pair_from.Goals as goal

pub overflow_mul-element : goal.overflow_mul-element
overflow_mul-element c =
    let s = c.args.quotient.now in
    let b : c.args.r * length s.translations + length s.translations ≤ order_of s = block-end s c.order-order.ensures.quotient c.args.r c.requires.rotation in
    let e = ap (λ k. c.args.r * length k) c.translations-count.ensures in
    let v = c.order-order.ensures.value in
    let f = c.order-order.type_inv in
    omega (arith, b, e, v, f)

pub moved-arm-requires-clause-arm : goal.moved-arm-requires-clause-arm
moved-arm-requires-clause-arm c =
    let s = size_in c.args.induced.now.tables in
    let es = (c.size-size.ensures.value ∙ ap (λ (x : CheckedView). x.rep.size) c.rep.ensures) in
    let some = c.size-size.ensures.some in
    let a = c.requires.sparse.rises in
    let b = c.requires.sparse.inside in
    subst (λ (z : ℕ). c.args.places.first / z < length (star_in c.args.induced.now).by) (sym es) (div_below c.args.places.first s (length (star_in c.args.induced.now).by) (omega (arith, some, es)) (omega (arith, a, b)))

pub moved-arm-requires-clause-element : goal.moved-arm-requires-clause-element
moved-arm-requires-clause-element c =
    let s = c.args.quotient.now in
    let b : c.args.r * length s.translations + length s.translations ≤ order_of s = block-end s c.order-order.ensures.quotient c.args.r c.requires.rotation in
    let some : 0 < length s.translations = some_translation s c.order-order.ensures.quotient in
    let e = ap (λ k. c.args.r * length k) c.translations-count.ensures in
    omega (arith, b, e, some)

pub moved-other-requires-clause-arm : goal.moved-other-requires-clause-arm
moved-other-requires-clause-arm c =
    let s = size_in c.args.induced.now.tables in
    let es = (c.size-size.ensures.value ∙ ap (λ (x : CheckedView). x.rep.size) c.rep.ensures) in
    let some = c.size-size.ensures.some in
    let a = c.requires.sparse.rises in
    let b = c.requires.sparse.inside in
    subst (λ (z : ℕ). c.args.places.last / z < length (star_in c.args.induced.now).by) (sym es) (div_below c.args.places.last s (length (star_in c.args.induced.now).by) (omega (arith, some, es)) (omega (arith, a, b)))

pub moved-other-requires-clause-element : goal.moved-other-requires-clause-element
moved-other-requires-clause-element c =
    let s = c.args.quotient.now in
    let b : c.args.r * length s.translations + length s.translations ≤ order_of s = block-end s c.order-order.ensures.quotient c.args.r c.requires.rotation in
    let some : 0 < length s.translations = some_translation s c.order-order.ensures.quotient in
    let e = ap (λ k. c.args.r * length k) c.translations-count.ensures in
    omega (arith, b, e, some)

pub overflow_mul-result : goal.overflow_mul-result
overflow_mul-result c =
    let A = length (star_in c.args.induced.now).by in
    let few = c.arms-arms.ensures.few in
    let ea = (c.arms-arms.ensures.value ∙ ap (λ (x : WaveStar). length x.by) c.star.ensures) in
    let below = c.moved-arm.ensures.below in
    let l : c.moved-arm.result ≤ 48 = omega (arith, below, ea, few) in
    let m : c.moved-arm.result * c.arms-arms.result ≤ 48 * 48 = mul-le-mul l few in
    search rules

pub overflow_add-result : goal.overflow_add-result
overflow_add-result c =
    let A = length (star_in c.args.induced.now).by in
    let few = c.arms-arms.ensures.few in
    let ea = (c.arms-arms.ensures.value ∙ ap (λ (x : WaveStar). length x.by) c.star.ensures) in
    let below = c.moved-arm.ensures.below in
    let under = c.moved-other.ensures.below in
    let l : c.moved-arm.result ≤ 48 = omega (arith, below, ea, few) in
    let k : c.moved-other.result ≤ 48 = omega (arith, under, ea, few) in
    let m : c.moved-arm.result * c.arms-arms.result ≤ 48 * 48 = mul-le-mul l few in
    search rules

pub overflow_mul-result-2 : goal.overflow_mul-result-2
overflow_mul-result-2 c =
    let few = c.arms-arms.ensures.few in
    let ea = (c.arms-arms.ensures.value ∙ ap (λ (x : WaveStar). length x.by) c.star.ensures) in
    let below = c.moved-arm.ensures.below in
    let under = c.moved-other.ensures.below in
    let l : c.moved-arm.result ≤ 48 = omega (arith, below, ea, few) in
    let k : c.moved-other.result ≤ 48 = omega (arith, under, ea, few) in
    let m : c.moved-arm.result * c.arms-arms.result ≤ 48 * 48 = mul-le-mul l few in
    let p : c.moved-arm.result * c.arms-arms.result + c.moved-other.result ≤ 48 * 48 + 48 = omega (arith, m, k) in
    let t : length c.args.quotient.now.translations ≤ order_of c.args.quotient.now = translations_few c.args.quotient.now c.order-order.ensures.quotient in
    let u : order_of c.args.quotient.now ≤ 6144 = subst (λ (n : ℕ). n ≤ 6144) c.order-order.ensures.value c.order-order.ensures.few in
    let v : length c.args.quotient.now.translations ≤ 6144 = omega (arith, t, u) in
    let b : length c.translations-count.result.now ≤ 6144 = subst (λ (n : ℕ). n ≤ 6144) (sym (ap length c.translations-count.ensures)) v in
    let n : (c.moved-arm.result * c.arms-arms.result + c.moved-other.result) * length c.translations-count.result.now ≤ (48 * 48 + 48) * 6144 = mul-le-mul p b in
    search rules

pub returns-clause-inside : goal.returns-clause-inside
returns-clause-inside c =
    let s = c.args.quotient.now in
    let T = length s.translations in
    let A = length (star_in c.args.induced.now).by in
    let lp : c.moved-arm.result * A + c.moved-other.result < A * A = row_below A A c.moved-arm.result c.moved-other.result c.moved-arm.ensures.below c.moved-other.ensures.below in
    let b : (c.moved-arm.result * A + c.moved-other.result + 1) * T ≤ A * A * T = arm-end (A * A) T (c.moved-arm.result * A + c.moved-other.result) lp in
    let ea = (c.arms-arms.ensures.value ∙ ap (λ (x : WaveStar). length x.by) c.star.ensures) in
    let e : (c.moved-arm.result * c.arms-arms.result + c.moved-other.result) * length c.translations-count.result.now ≡ (c.moved-arm.result * A + c.moved-other.result) * T =
    λ i. (c.moved-arm.result * ea i + c.moved-other.result) * length (c.translations-count.ensures i) in
    let k = c.requires.combined.count in
    omega (arith, b, e, k)

pub returns-clause-again : goal.returns-clause-again
returns-clause-again c =
    let s = c.args.quotient.now in
    let R = length s.parent.ops in
    let T = length s.translations in
    let n = (dimension_in c.args.induced.now.tables) in
    let m = size_in c.args.induced.now.tables in
    let A = length (star_in c.args.induced.now).by in
    let D = matrix_in s c.args.induced.now.tables in
    let w = vector z24_laws exact_z24 c.args.w.now in
    let i = c.args.places.first in
    let j = c.args.places.last in
    let es = (c.size-size.ensures.value ∙ ap (λ (x : CheckedView). x.rep.size) c.rep.ensures) in
    let et = ap length c.translations-count.ensures in
    let zi : (x : ℕ) → x < n → (x / m ≡ c.moved-arm.result → ⊥) → D (c.args.r * T) x i ≡ z24_laws.nought = λ x l d. ap (λ k. D (c.args.r * k) x i) (sym et) ∙ c.moved-arm.ensures.zero x i l (first-inside n w i j c.requires.sparse) (ap (λ z. i / z) (sym es)) d in
    let zj : (x : ℕ) → x < n → (x / m ≡ c.moved-other.result → ⊥) → D (c.args.r * T) x j ≡ z24_laws.nought = λ x l d. ap (λ k. D (c.args.r * k) x j) (sym et) ∙ c.moved-other.ensures.zero x j l c.requires.sparse.inside (ap (λ z. j / z) (sym es)) d in
    let ea = (c.arms-arms.ensures.value ∙ ap (λ (x : WaveStar). length x.by) c.star.ensures) in
    let e : (c.moved-arm.result * A + c.moved-other.result) * T ≡ (c.moved-arm.result * c.arms-arms.result + c.moved-other.result) * length c.translations-count.result.now =
    sym (λ i. (c.moved-arm.result * ea i + c.moved-other.result) * length (c.translations-count.ensures i)) in
    subst (λ (k : ℕ). AreAgain k24_laws (orbit z24_parts n D w) (c.args.r * T) T c.args.combined.now k) e
    (again-at R T n m A D w i j c.requires.sparse c.args.combined.now c.requires.combined c.args.r c.moved-arm.result c.moved-other.result c.requires.rotation c.moved-arm.ensures.below c.moved-other.ensures.below zi zj)
