use Rattle.std.proofs.Common.{◌≡◌, ◌+◌, ◌*◌, ℕ, sym, ◌∙◌, ap, subst, arith, length}
use Rattle.cyclo24.specs.K24.{exact24}
use Rattle.cyclo24.specs.Z24.{exact_z24}
use Rattle.cyclo24.specs.ExactK24.{k24, k24_laws}
use Rattle.cyclo24.specs.ExactZ24.{z24_laws}
use Rattle.lin_alg.specs.Rows.{vector, HaveWidth}
use Rattle.super_group.specs.Quotient.{order_of}
use Rattle.induce.specs.Tables.{dimension_in, matrix_in}
use Rattle.real_form.specs.Parts.{orbit}
use Rattle.real_form.specs.Complexes.{z24_parts}
use Rattle.real_form.specs.Spanned.{HoldsSpan}
use Rattle.real_form.proofs.SpannedLemmas.{written-length, held-start, held-other, held-form, held-length}
use Rattle.real_form.proofs.span.span_of.Goals as goal

pub returns-else-len-n-clause-none : goal.returns-else-len-n-clause-none
returns-else-len-n-clause-none c =
    let s = c.args.quotient.now in
    let n = (dimension_in c.args.induced.now.tables) in
    let a = orbit z24_parts n (matrix_in s c.args.induced.now.tables) (vector z24_laws exact_z24 c.args.w.now) in
    let ends : c.loop-r.r ≡ c.len-r-end.result = omega (arith, c.loop-r-test.false, c.loop-r.auto.r-end) in
    let all : c.loop-r.r ≡ length s.parent.ops = ends ∙ c.len-r-end.ensures.value ∙ ap (λ g. length g.ops) c.group.ensures in
    let held : HoldsSpan k24_laws exact24 (n + n) a (order_of s) c.loop-r.form = subst (λ (k : ℕ). HoldsSpan k24_laws exact24 (n + n) a (k * length s.translations) c.loop-r.form) all c.loop-r.invariant.0 in
    held-other k24 exact24 (n + n) a (order_of s) n c.loop-r.form held (λ e. c.if-len-n.false (c.len.ensures ∙ e ∙ sym c.dim-n.ensures.value))

pub returns-then-len-n-clause-some : goal.returns-then-len-n-clause-some
returns-then-len-n-clause-some c =
    let s = c.args.quotient.now in
    let n = (dimension_in c.args.induced.now.tables) in
    let a = orbit z24_parts n (matrix_in s c.args.induced.now.tables) (vector z24_laws exact_z24 c.args.w.now) in
    let ends : c.loop-r.r ≡ c.len-r-end.result = omega (arith, c.loop-r-test.false, c.loop-r.auto.r-end) in
    let all : c.loop-r.r ≡ length s.parent.ops = ends ∙ c.len-r-end.ensures.value ∙ ap (λ g. length g.ops) c.group.ensures in
    let held : HoldsSpan k24_laws exact24 (n + n) a (order_of s) c.loop-r.form = subst (λ (k : ℕ). HoldsSpan k24_laws exact24 (n + n) a (k * length s.translations) c.loop-r.form) all c.loop-r.invariant.0 in
    (held-form k24 exact24 (n + n) a (order_of s) c.loop-r.form held, held-length k24 exact24 (n + n) a n c.loop-r.form (sym c.len.ensures ∙ c.if-len-n.true ∙ c.dim-n.ensures.value))

pub returns-then-len-n-clause-shape : goal.returns-then-len-n-clause-shape
returns-then-len-n-clause-shape c =
    let h = c.loop-r.invariant.0 in
    subst (λ (k : ℕ). HaveWidth k c.loop-r.form.rows) h.width h.shape.shape

pub loop-r-init : goal.loop-r-init
loop-r-init c =
    let s = c.args.quotient.now in
    let n = (dimension_in c.args.induced.now.tables) in
    let a = orbit z24_parts n (matrix_in s c.args.induced.now.tables) (vector z24_laws exact_z24 c.args.w.now) in
    let e = ap (λ k. k + k) c.dim-n.ensures.value in
    let zero : 0 ≡ 0 * length s.translations = omega arith in (
      subst (λ (k : ℕ). HoldsSpan k24_laws exact24 (n + n) a k c.reserve.new.self) zero
          (held-start k24 exact24 (n + n) a c.reserve.new.self (c.in_ok-reserve.ensures.width ∙ c.new-form.ensures.width ∙ e) (c.in_ok-reserve.ensures.whole ∙ c.new-form.ensures.whole) (c.in_ok-reserve.ensures.rows ∙ c.new-form.ensures.rows)
          c.in_ok-reserve.ensures.form),
      c.in_ok-row.ensures.len ∙ e,
    )

pub loop-r-preserved : goal.loop-r-preserved
loop-r-preserved c =
    let n = (dimension_in c.args.induced.now.tables) in (
      c.in-Ok-true.ensures.held c.in-Ok-true.field-0-test,
      written-length c.loop-r.row.items c.insert_block.new.row c.loop-r.row.len (n + n) (c.insert_block.auto.row ∙ ap length c.deref_mut.ensures.value) c.loop-r.row.ok.0 c.loop-r.invariant.1,
    )
