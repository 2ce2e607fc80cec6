use Rattle.std.proofs.Common.{◌≡◌, ◌<◌, ℕ, ◌∙◌, subst, arith, length}
use Rattle.cyclo24.specs.Z24.{exact_z24}
use Rattle.cyclo24.specs.ExactZ24.{z24, z24_laws}
use Rattle.lin_alg.specs.Rows.{vector}
use Rattle.lin_alg.specs.Matrix.{IsWideDot}
use Rattle.induce.specs.Tables.{dimension_in, matrix_in}
use Rattle.real_form.proofs.TermLemmas.{total-next, total-end, dot-wide, on-err}
use Rattle.real_form.proofs.image.image_entry.Goals as goal

pub loop-j-init : goal.loop-j-init
loop-j-init c = c.zero-sum.ensures

pub loop-j-preserved : goal.loop-j-preserved
loop-j-preserved c =
    total-next z24 c.loop-j.j (matrix_in c.args.quotient.now c.args.induced.now.tables c.args.q c.args.i) (vector z24_laws exact_z24 c.args.w.now) (exact_z24 c.loop-j.sum) (exact_z24 c.in_ok-sum.sum)
    c.loop-j.invariant c.in_ok-sum.ensures.exact

pub returns-in_err-sum-clause-wide : goal.returns-in_err-sum-clause-wide
returns-in_err-sum-clause-wide c =
    let n = (dimension_in c.args.induced.now.tables) in
    let x = matrix_in c.args.quotient.now c.args.induced.now.tables c.args.q c.args.i in
    let y = vector z24_laws exact_z24 c.args.w.now in
    let l : c.loop-j.j < n = subst (λ (k : ℕ). c.loop-j.j < k) c.requires.length c.loop-j-test.true in
    on-err c.from_residual.result (IsWideDot z24 n x y) (dot-wide z24 n c.loop-j.j x y (exact_z24 c.loop-j.sum) l c.loop-j.invariant c.in_err-sum.ensures.wide)

pub returns-clause-exact : goal.returns-clause-exact
returns-clause-exact c =
    let e : c.loop-j.j ≡ length c.args.w.now = omega (arith, c.loop-j-test.false, c.loop-j.auto.j-end) in
    total-end z24 c.loop-j.j (dimension_in c.args.induced.now.tables) (matrix_in c.args.quotient.now c.args.induced.now.tables c.args.q c.args.i) (vector z24_laws exact_z24 c.args.w.now) (exact_z24 c.loop-j.sum) c.loop-j.invariant (e ∙ c.requires.length)
