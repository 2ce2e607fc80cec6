use Rattle.std.proofs.Common.{◌≡◌, ◌<◌, ◌≤◌, ◌*◌, ◌/◌, ◌%◌, ℕ, sym, ◌∙◌, ap, subst, arith, length, mul-le-mul, rules}
use Rattle.super_group.specs.Quotient.{order_of}
use Rattle.kstar.specs.Star.{WaveStar}
use Rattle.induce.specs.Tables.{dimension_in, matrix_in, size_in}
use Rattle.induce.specs.InducedView.{star_in}
use Rattle.real_form.specs.Sparse.{IsPhase, ArePhases}
use Rattle.real_form.proofs.CombinedLemmas.{phases-none, phases-more, row_of, column_of, translations_few}
use Rattle.real_form.proofs.combined.phases_of.Goals as goal

pub overflow_mul-d-end : goal.overflow_mul-d-end
overflow_mul-d-end c =
    let t : length c.args.quotient.now.translations ≤ order_of c.args.quotient.now = translations_few c.args.quotient.now c.order-order.ensures.quotient in
    let u : order_of c.args.quotient.now ≤ 6144 = subst (λ (n : ℕ). n ≤ 6144) c.order-order.ensures.value c.order-order.ensures.few in
    let v : length c.args.quotient.now.translations ≤ 6144 = omega (arith, t, u) in
    let b : length c.translations-count.result.now ≤ 6144 = subst (λ (n : ℕ). n ≤ 6144) (sym (ap length c.translations-count.ensures)) v in
    let m : c.arms.result * length c.translations-count.result.now ≤ 48 * 6144 = mul-le-mul c.arms.ensures.few b in
    search rules

pub loop-d-init : goal.loop-d-init
loop-d-init c =
    let s = c.args.quotient.now in
    let R = length s.parent.ops in
    let T = length s.translations in
    let n = (dimension_in c.args.induced.now.tables) in
    let m = size_in c.args.induced.now.tables in
    let A = length (star_in c.args.induced.now).by in
    let D = matrix_in s c.args.induced.now.tables in
    phases-none R T n m A D c.new-phases.result.items c.new-phases.ensures.items

pub phase-requires-clause-translation : goal.phase-requires-clause-translation
phase-requires-clause-translation c =
    subst (λ (n : ℕ). c.loop-d.d % length c.translations-count.result.now < n) (ap length c.translations-count.ensures) (column_of c.loop-d.d c.arms.result (length c.translations-count.result.now) c.loop-d-test.true)

pub phase-requires-clause-arm : goal.phase-requires-clause-arm
phase-requires-clause-arm c =
    subst (λ (n : ℕ). c.loop-d.d / length c.translations-count.result.now < n) (c.arms.ensures.value ∙ ap (λ (x : WaveStar). length x.by) c.star.ensures) (row_of c.loop-d.d c.arms.result (length c.translations-count.result.now) c.loop-d-test.true)

pub loop-d-preserved : goal.loop-d-preserved
loop-d-preserved c =
    let s = c.args.quotient.now in
    let R = length s.parent.ops in
    let T = length s.translations in
    let n = (dimension_in c.args.induced.now.tables) in
    let m = size_in c.args.induced.now.tables in
    let A = length (star_in c.args.induced.now).by in
    let D = matrix_in s c.args.induced.now.tables in
    phases-more R T n m A D c.loop-d.phases.items c.push.new.self.items c.phase.result c.loop-d.d c.in-Ok.ensures.items c.loop-d.invariant c.phase.ensures.below
    (subst (λ (k : ℕ). IsPhase R T n m D c.phase.result (c.loop-d.d / k) (c.loop-d.d % k)) (ap length c.translations-count.ensures) c.phase.ensures.matrix)

pub returns : goal.returns
returns c =
    let s = c.args.quotient.now in
    let R = length s.parent.ops in
    let T = length s.translations in
    let n = (dimension_in c.args.induced.now.tables) in
    let m = size_in c.args.induced.now.tables in
    let A = length (star_in c.args.induced.now).by in
    let D = matrix_in s c.args.induced.now.tables in
    let e : c.loop-d.d ≡ A * T = search rules in
    subst (ArePhases R T n m D c.loop-d.phases.items) e c.loop-d.invariant
