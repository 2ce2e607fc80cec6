use Rattle.std.proofs.Common.{◌≡◌, ◌<◌, ◌≤◌, ◌+◌, ◌*◌, ◌/◌, ◌%◌, ℕ, List, refl, sym, ◌∙◌, ap, subst, arith, length, mul-le-mul, rules}
use Rattle.std.specs.Prelude.{slice_index}
use Rattle.cyclo24.specs.K24.{exact24}
use Rattle.cyclo24.specs.ExactK24.{k24_laws}
use Rattle.lin_alg.specs.Spans.{IsInSpan}
use Rattle.lin_alg.specs.Solving.{plain_rows}
use Rattle.super_group.specs.Quotient.{order_of}
use Rattle.small_rep.specs.RepCheck.{CheckedView}
use Rattle.kstar.specs.Star.{WaveStar}
use Rattle.induce.specs.Tables.{dimension_in, matrix_in, size_in}
use Rattle.induce.specs.InducedView.{star_in}
use Rattle.real_form.specs.Sparse.{pair_rows, AreCombined}
use Rattle.real_form.specs.Spanned.{HoldsPart}
use Rattle.real_form.proofs.Factors.{some_translation}
use Rattle.real_form.proofs.SpannedLemmas.{written-length}
use Rattle.real_form.proofs.CombinedLemmas.{combined-none, combined-more, pair_rows-by, part-following, first-column, zero-kept, column_of, pair-inside, translations_few}
use Rattle.real_form.proofs.combined.combined.Goals as goal

pub overflow_mul-d-end : goal.overflow_mul-d-end
overflow_mul-d-end c = let m : c.arms-arms.result * c.arms-arms.result ≤ 48 * 48 = mul-le-mul c.arms-arms.ensures.few c.arms-arms.ensures.few in search rules

pub overflow_mul-d-end-2 : goal.overflow_mul-d-end-2
overflow_mul-d-end-2 c =
    let t : length c.args.quotient.now.translations ≤ order_of c.args.quotient.now = translations_few c.args.quotient.now c.order-order.ensures.quotient in
    let u : order_of c.args.quotient.now ≤ 6144 = subst (λ (n : ℕ). n ≤ 6144) c.order-order.ensures.value c.order-order.ensures.few in
    let v : length c.args.quotient.now.translations ≤ 6144 = omega (arith, t, u) in
    let b : length c.translations-count.result.now ≤ 6144 = subst (λ (n : ℕ). n ≤ 6144) (sym (ap length c.translations-count.ensures)) v in
    let a : c.arms-arms.result * c.arms-arms.result ≤ 48 * 48 = mul-le-mul c.arms-arms.ensures.few c.arms-arms.ensures.few in
    let m : c.arms-arms.result * c.arms-arms.result * length c.translations-count.result.now ≤ 48 * 48 * 6144 = mul-le-mul a b in
    search rules

pub loop-d-init : goal.loop-d-init
loop-d-init c =
    let s = c.args.quotient.now in
    let R = length s.parent.ops in
    let T = length s.translations in
    let n = (dimension_in c.args.induced.now.tables) in
    let m = size_in c.args.induced.now.tables in
    let A = length (star_in c.args.induced.now).by in
    let D = matrix_in s c.args.induced.now.tables in
    let some = c.size-size.ensures.some in
    let es = (c.size-size.ensures.value ∙ ap (λ (x : CheckedView). x.rep.size) c.rep.ensures) in
    let ps = c.in_ok-phases.phases.items in (
      combined-none R T n m A D c.new-combined.result.items ps c.new-combined.ensures.items c.in_ok-phases.ensures (zero-kept R T n m A D ps c.in_ok-phases.ensures refl (omega (arith, some, es))),
      λ l. absurd (first-column T l),
      c.in_ok-row.ensures.len,
    )

pub is_combined-requires-clause-first : goal.is_combined-requires-clause-first
is_combined-requires-clause-first c =
    let s = c.args.quotient.now in
    let R = length s.parent.ops in
    let T = length s.translations in
    let n = (dimension_in c.args.induced.now.tables) in
    let m = size_in c.args.induced.now.tables in
    let A = length (star_in c.args.induced.now).by in
    let D = matrix_in s c.args.induced.now.tables in
    (pair-inside R T n m A D c.deref.result.now (length c.translations-count.result.now) c.arms-arms.result c.loop-d.d (ap length c.translations-count.ensures) (c.arms-arms.ensures.value ∙ ap (λ (x : WaveStar). length x.by) c.star.ensures) (ap length c.deref.ensures.value ∙ c.in_ok-phases.ensures.count) c.loop-d-test.true).0

pub is_combined-requires-clause-second : goal.is_combined-requires-clause-second
is_combined-requires-clause-second c =
    let s = c.args.quotient.now in
    let R = length s.parent.ops in
    let T = length s.translations in
    let n = (dimension_in c.args.induced.now.tables) in
    let m = size_in c.args.induced.now.tables in
    let A = length (star_in c.args.induced.now).by in
    let D = matrix_in s c.args.induced.now.tables in
    (pair-inside R T n m A D c.deref.result.now (length c.translations-count.result.now) c.arms-arms.result c.loop-d.d (ap length c.translations-count.ensures) (c.arms-arms.ensures.value ∙ ap (λ (x : WaveStar). length x.by) c.star.ensures) (ap length c.deref.ensures.value ∙ c.in_ok-phases.ensures.count) c.loop-d-test.true).1

pub is_combined-requires-clause-translation : goal.is_combined-requires-clause-translation
is_combined-requires-clause-translation c = column_of c.loop-d.d (c.arms-arms.result * c.arms-arms.result) (length c.translations-count.result.now) c.loop-d-test.true

pub is_combined-requires-clause-below : goal.is_combined-requires-clause-below
is_combined-requires-clause-below c =
    let s = c.args.quotient.now in
    let R = length s.parent.ops in
    let T = length s.translations in
    let n = (dimension_in c.args.induced.now.tables) in
    let m = size_in c.args.induced.now.tables in
    let A = length (star_in c.args.induced.now).by in
    let D = matrix_in s c.args.induced.now.tables in
    let ps = c.in_ok-phases.phases.items in
    let count = length c.translations-count.result.now in
    let et : count ≡ T = ap length c.translations-count.ensures in
    let ea : c.arms-arms.result ≡ A = (c.arms-arms.ensures.value ∙ ap (λ (x : WaveStar). length x.by) c.star.ensures) in
    let ed = c.deref.ensures.value in
    subst (λ (xs : List ℕ). (d : ℕ) → d < length xs → slice_index xs d < 24) (sym ed) (λ d l. c.in_ok-phases.ensures.below d (subst (λ (k : ℕ). d < k) c.in_ok-phases.ensures.count l))

pub is_combined-requires-clause-held : goal.is_combined-requires-clause-held
is_combined-requires-clause-held c =
    let s = c.args.quotient.now in
    let R = length s.parent.ops in
    let T = length s.translations in
    let n = (dimension_in c.args.induced.now.tables) in
    let m = size_in c.args.induced.now.tables in
    let A = length (star_in c.args.induced.now).by in
    let D = matrix_in s c.args.induced.now.tables in
    let ps = c.in_ok-phases.phases.items in
    let count = length c.translations-count.result.now in
    let et : count ≡ T = ap length c.translations-count.ensures in
    let ea : c.arms-arms.result ≡ A = (c.arms-arms.ensures.value ∙ ap (λ (x : WaveStar). length x.by) c.star.ensures) in
    let ed = c.deref.ensures.value in
    let d = c.loop-d.d in
    c.start_pair.ensures (pair_rows c.deref.result.now count (d / count / c.arms-arms.result) (d / count % c.arms-arms.result))
    (pair_rows-by ps c.deref.result.now T count A c.arms-arms.result d (sym ed) (sym et) (sym ea) (λ a t. 0 < t → HoldsPart k24_laws exact24 4 a t c.loop-d.form) c.loop-d.invariant.1)

pub loop-d-preserved : goal.loop-d-preserved
loop-d-preserved c =
    let s = c.args.quotient.now in
    let R = length s.parent.ops in
    let T = length s.translations in
    let n = (dimension_in c.args.induced.now.tables) in
    let m = size_in c.args.induced.now.tables in
    let A = length (star_in c.args.induced.now).by in
    let D = matrix_in s c.args.induced.now.tables in
    let ps = c.in_ok-phases.phases.items in
    let count = length c.translations-count.result.now in
    let et : count ≡ T = ap length c.translations-count.ensures in
    let ea : c.arms-arms.result ≡ A = (c.arms-arms.ensures.value ∙ ap (λ (x : WaveStar). length x.by) c.star.ensures) in
    let ed = c.deref.ensures.value in
    let d = c.loop-d.d in
    let h = c.loop-d.invariant.0 in
    let held = pair_rows-by c.deref.result.now ps count T c.arms-arms.result A d ed et ea (λ a t. HoldsPart k24_laws exact24 4 a (t + 1) c.is_combined.new.form) c.in_ok-mark.ensures.held in
    let next = combined-more R T n m A D c.loop-d.combined.items c.push.new.self.items c.in_ok-mark.mark d c.in-Ok.ensures.items h.0
    (λ e. pair_rows-by c.deref.result.now h.0.phases count T c.arms-arms.result A d (ed ∙ sym h.1) et ea (λ a t. IsInSpan k24_laws (plain_rows a t) (a t)) (c.in_ok-mark.ensures.combined e)) in (
      (next.0, next.1 ∙ h.1),
      part-following T A d ps c.is_combined.new.form (some_translation s c.order-order.ensures.quotient) held,
      written-length c.loop-d.row.items c.is_combined.new.row c.loop-d.row.len 4 (c.is_combined.auto.row ∙ ap length c.deref_mut.ensures.value) c.loop-d.row.ok.0 c.loop-d.invariant.2,
    )

pub returns : goal.returns
returns c =
    let s = c.args.quotient.now in
    let R = length s.parent.ops in
    let T = length s.translations in
    let n = (dimension_in c.args.induced.now.tables) in
    let m = size_in c.args.induced.now.tables in
    let A = length (star_in c.args.induced.now).by in
    let D = matrix_in s c.args.induced.now.tables in
    let e : c.loop-d.d ≡ A * A * T = search rules in
    subst (AreCombined R T n m A D c.loop-d.combined.items) e c.loop-d.invariant.0.0
