use Rattle.std.proofs.Common.{◌<◌, ◌*◌, ◌/◌, ◌%◌, ◌∙◌, ℕ, subst, arith, length, get_or}
use Rattle.std.proofs.lemmas.Nat.{mod_below}
use Rattle.cyclo24.specs.K24.{exact24}
use Rattle.cyclo24.specs.Z24.{exact_z24}
use Rattle.cyclo24.specs.ExactK24.{k24_laws}
use Rattle.cyclo24.specs.ExactZ24.{z24_laws}
use Rattle.lin_alg.specs.Rows.{vector}
use Rattle.lin_alg.specs.Matrix.{entry}
use Rattle.super_group.specs.Quotient.{order_of}
use Rattle.induce.specs.Tables.{dimension_in, matrix_in}
use Rattle.real_form.specs.Parts.{orbit}
use Rattle.real_form.specs.Complexes.{z24_parts}
use Rattle.real_form.specs.Wide.{IsWideImage}
use Rattle.real_form.proofs.ColumnLemmas.{column-next}
use Rattle.real_form.proofs.TermLemmas.{on-err}
use Rattle.real_form.proofs.matrices.fill_column.Goals as goal

pub loop-k-preserved : goal.loop-k-preserved
loop-k-preserved c = (
  c.set.ensures.rows ∙ c.loop-k.invariant.0,
  c.set.ensures.cols ∙ c.loop-k.invariant.1,
  column-next (entry k24_laws exact24 c.args.into.now) (entry k24_laws exact24 c.loop-k.into) (entry k24_laws exact24 c.set.new.self) c.args.m
      (λ k. orbit z24_parts (dimension_in c.args.induced.now.tables) (matrix_in c.args.quotient.now c.args.induced.now.tables) (vector z24_laws exact_z24 c.args.w.now) ((k / length c.args.pivots.now) * c.args.step) (get_or c.args.pivots.now (k % length c.args.pivots.now) 0))
      c.loop-k.k (exact24 c.in_ok-x.x) c.in_ok-x.ensures.exact c.set.ensures.entries c.loop-k.invariant.2,
)

pub overflow_mul-k : goal.overflow_mul-k
overflow_mul-k c =
    let k = c.loop-k.k in
    let lk : k < c.args.into.now.rows = subst (λ (n : ℕ). k < n) c.rows-k-end.ensures.value c.loop-k-test.true in
    let l = c.requires.elements k lk in
    let e = c.order-order.ensures.value in
    let few = c.order-order.ensures.few in
    omega (arith, l, e, few)

pub image_part-requires-clause-place : goal.image_part-requires-clause-place
image_part-requires-clause-place c =
    let d = length c.args.pivots.now in
    c.requires.pivots (c.loop-k.k % d) (mod_below c.loop-k.k d c.requires.some)

pub returns-in_err-x-clause-wide : goal.returns-in_err-x-clause-wide
returns-in_err-x-clause-wide c =
    let s = c.args.quotient.now in
    let n = dimension_in c.args.induced.now.tables in
    let k = c.loop-k.k in
    let lk : k < c.args.into.now.rows = subst (λ (n : ℕ). k < n) c.rows-k-end.ensures.value c.loop-k-test.true in
    on-err c.from_residual.result
    ((q : ℕ) × (q < order_of s) × IsWideImage n (matrix_in s c.args.induced.now.tables) q (vector z24_laws exact_z24 c.args.w.now))
    ((k / length c.args.pivots.now) * c.args.step, c.requires.elements k lk, c.in_err-x.ensures.wide)
