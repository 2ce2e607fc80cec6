use Rattle.std.proofs.Common.{◌≤◌, ◌+◌, ◌*◌, ℕ, sym, ◌∙◌, ap, subst, arith, length}
use Rattle.cyclo24.specs.K24.{exact24}
use Rattle.cyclo24.specs.Z24.{exact_z24}
use Rattle.cyclo24.specs.ExactK24.{k24}
use Rattle.cyclo24.specs.ExactZ24.{z24_laws}
use Rattle.lin_alg.specs.Rows.{vector}
use Rattle.small_rep.specs.RepCheck.{CheckedView}
use Rattle.induce.specs.Tables.{dimension_in, matrix_in, size_in}
use Rattle.real_form.specs.Parts.{orbit}
use Rattle.real_form.specs.Complexes.{z24_parts}
use Rattle.induce.specs.InducedView.{star_in}
use Rattle.real_form.proofs.SparseLemmas.{AreRight, right-start, right-next, arm-end, arm-row, row-arm}
use Rattle.real_form.proofs.sparse.write_arm.Goals as goal

pub loop-a-init : goal.loop-a-init
loop-a-init c =
    let n = (dimension_in c.args.induced.now.tables) in
    let D = matrix_in c.args.quotient.now c.args.induced.now.tables in
    let w = vector z24_laws exact_z24 c.args.w.now in
    let t = orbit z24_parts n D w c.args.q in
    subst (λ (k : ℕ). AreRight k24 exact24 t n (c.args.arm * size_in c.args.induced.now.tables) k c.args.row.now c.args.row.now) (ap (λ k. c.args.arm * k) (sym (c.size-size.ensures.value ∙ ap (λ (x : CheckedView). x.rep.size) c.rep.ensures)))
    (right-start k24 exact24 t n (c.args.arm * size_in c.args.induced.now.tables) c.args.row.now)

pub write_entry-requires-clause-row : goal.write_entry-requires-clause-row
write_entry-requires-clause-row c =
    let s = size_in c.args.induced.now.tables in
    let b : (c.args.arm + 1) * s ≤ length (star_in c.args.induced.now).by * s = arm-end (length (star_in c.args.induced.now).by) s c.args.arm c.requires.arm in
    let e = ap (λ k. (c.args.arm + 1) * k) (c.size-size.ensures.value ∙ ap (λ (x : CheckedView). x.rep.size) c.rep.ensures) in
    let test = c.loop-a-test.true in
    omega (arith, b, e, test)

pub write_entry-requires-clause-sparse : goal.write_entry-requires-clause-sparse
write_entry-requires-clause-sparse c =
    let s = size_in c.args.induced.now.tables in
    let b : (c.args.arm + 1) * s ≤ length (star_in c.args.induced.now).by * s = arm-end (length (star_in c.args.induced.now).by) s c.args.arm c.requires.arm in
    let es = (c.size-size.ensures.value ∙ ap (λ (x : CheckedView). x.rep.size) c.rep.ensures) in
    let e = ap (λ k. (c.args.arm + 1) * k) es in
    let f = ap (λ k. c.args.arm * k) es in
    let test = c.loop-a-test.true in
    let low = c.loop-a.auto.a in
    c.requires.sparse c.loop-a.a (omega (arith, b, e, test)) (row-arm s c.args.arm c.loop-a.a (omega (arith, f, low)) (omega (arith, e, test)))

pub loop-a-preserved : goal.loop-a-preserved
loop-a-preserved c =
    let n = (dimension_in c.args.induced.now.tables) in
    let D = matrix_in c.args.quotient.now c.args.induced.now.tables in
    let w = vector z24_laws exact_z24 c.args.w.now in
    let t = orbit z24_parts n D w c.args.q in
    right-next k24 exact24 t n (c.args.arm * size_in c.args.induced.now.tables) c.loop-a.a c.args.row.now c.loop-a.row c.write_entry.new.row c.loop-a.invariant c.in_ok-write_entry.ensures.first c.in_ok-write_entry.ensures.second c.in_ok-write_entry.ensures.kept

pub returns-clause-first : goal.returns-clause-first
returns-clause-first c k l at =
    let s = size_in c.args.induced.now.tables in
    let some = c.size-size.ensures.some in
    let es = (c.size-size.ensures.value ∙ ap (λ (x : CheckedView). x.rep.size) c.rep.ensures) in
    let r = arm-row s c.args.arm k (omega (arith, some, es)) at in
    let e = ap (λ z. (c.args.arm + 1) * z) es in
    let test = c.loop-a-test.false in
    let b = r.1 in
    c.loop-a.invariant.first k r.0 (omega (arith, b, e, test))

pub returns-clause-second : goal.returns-clause-second
returns-clause-second c k l at =
    let s = size_in c.args.induced.now.tables in
    let some = c.size-size.ensures.some in
    let es = (c.size-size.ensures.value ∙ ap (λ (x : CheckedView). x.rep.size) c.rep.ensures) in
    let r = arm-row s c.args.arm k (omega (arith, some, es)) at in
    let e = ap (λ z. (c.args.arm + 1) * z) es in
    let test = c.loop-a-test.false in
    let b = r.1 in
    c.loop-a.invariant.second k r.0 (omega (arith, b, e, test))

pub returns-clause-kept : goal.returns-clause-kept
returns-clause-kept c = c.loop-a.invariant.kept
