use Rattle.std.proofs.Common.{◌≡◌, ◌<◌, ◌≤◌, ◌+◌, ℕ, sym, ◌∙◌, subst, length, set}
use Rattle.cyclo24.specs.K24.{exact24}
use Rattle.cyclo24.specs.Z24.{exact_z24}
use Rattle.cyclo24.specs.ExactK24.{k24}
use Rattle.cyclo24.specs.ExactZ24.{z24_laws}
use Rattle.lin_alg.specs.Rows.{vector}
use Rattle.induce.specs.Tables.{dimension_in, matrix_in}
use Rattle.real_form.specs.Parts.{orbit}
use Rattle.real_form.specs.Complexes.{z24_parts}
use Rattle.real_form.specs.Wide.{IsWideImage}
use Rattle.real_form.proofs.TermLemmas.{on-err}
use Rattle.real_form.proofs.ImageLemmas.{IsFilled, filled-start, filled-next, filled-end, part-re, part-im, part-past, wide-dot, wide-re, wide-im}
use Rattle.real_form.proofs.image.fill_image.Goals as goal

pub loop-i-init : goal.loop-i-init
loop-i-init c =
    filled-start k24 exact24 (orbit z24_parts (dimension_in c.args.induced.now.tables) (matrix_in c.args.quotient.now c.args.induced.now.tables) (vector z24_laws exact_z24 c.args.w.now) c.args.q) (dimension_in c.args.induced.now.tables) c.args.row.now

pub returns-in_err-x-clause-wide : goal.returns-in_err-x-clause-wide
returns-in_err-x-clause-wide c =
    let n = (dimension_in c.args.induced.now.tables) in
    let D = matrix_in c.args.quotient.now c.args.induced.now.tables in
    let w = vector z24_laws exact_z24 c.args.w.now in
    let l : c.loop-i.i < n = subst (λ (k : ℕ). c.loop-i.i < k) c.requires.length c.loop-i-test.true in
    on-err c.from_residual.result (IsWideImage n D c.args.q w) (wide-dot n D w c.args.q c.loop-i.i l c.in_err-x.ensures.wide)

pub returns-in_err-row-clause-wide : goal.returns-in_err-row-clause-wide
returns-in_err-row-clause-wide c =
    let n = (dimension_in c.args.induced.now.tables) in
    let D = matrix_in c.args.quotient.now c.args.induced.now.tables in
    let w = vector z24_laws exact_z24 c.args.w.now in
    let l : c.loop-i.i < n = subst (λ (k : ℕ). c.loop-i.i < k) c.requires.length c.loop-i-test.true in
    on-err c.from_residual-in_err-row.result (IsWideImage n D c.args.q w)
    (wide-re n D w c.args.q c.loop-i.i l (exact_z24 c.in_ok-x.x) c.in_ok-x.ensures.exact c.in_err-row.ensures.wide)

pub returns-in_err-row-2-clause-wide : goal.returns-in_err-row-2-clause-wide
returns-in_err-row-2-clause-wide c =
    let n = (dimension_in c.args.induced.now.tables) in
    let D = matrix_in c.args.quotient.now c.args.induced.now.tables in
    let w = vector z24_laws exact_z24 c.args.w.now in
    let l : c.loop-i.i < n = subst (λ (k : ℕ). c.loop-i.i < k) c.requires.length c.loop-i-test.true in
    on-err c.from_residual-in_err-row-2.result (IsWideImage n D c.args.q w)
    (wide-im n D w c.args.q c.loop-i.i l (exact_z24 c.in_ok-x.x) c.in_ok-x.ensures.exact c.in_err-row-2.ensures.wide)

pub loop-i-preserved : goal.loop-i-preserved
loop-i-preserved c =
    let n = (dimension_in c.args.induced.now.tables) in
    let D = matrix_in c.args.quotient.now c.args.induced.now.tables in
    let w = vector z24_laws exact_z24 c.args.w.now in
    let t = orbit z24_parts n D w c.args.q in
    let en = c.requires.length in
    let l : c.loop-i.i < n = subst (λ (k : ℕ). c.loop-i.i < k) en c.loop-i-test.true in
    let len : length c.loop-i.row ≡ n + n = c.loop-i.auto.row ∙ c.requires.room in
    let x = c.in_ok-row.field-0 in
    let y = c.in_ok-row-2.field-0 in
    subst (λ (k : ℕ). IsFilled k24 exact24 t n (set (set c.loop-i.row c.loop-i.i x) (k + c.loop-i.i) y) (c.loop-i.i + 1)) (sym en)
    (filled-next k24 exact24 t n c.loop-i.row c.loop-i.i x y len l
    (c.in_ok-row.ensures.exact ∙ part-re n D w c.args.q c.loop-i.i l (exact_z24 c.in_ok-x.x) c.in_ok-x.ensures.exact)
    (c.in_ok-row-2.ensures.exact ∙ part-im n D w c.args.q c.loop-i.i l (exact_z24 c.in_ok-x.x) c.in_ok-x.ensures.exact)
    c.loop-i.invariant)

pub returns-clause-exact : goal.returns-clause-exact
returns-clause-exact c =
    let n = (dimension_in c.args.induced.now.tables) in
    let D = matrix_in c.args.quotient.now c.args.induced.now.tables in
    let w = vector z24_laws exact_z24 c.args.w.now in
    let t = orbit z24_parts n D w c.args.q in
    let len : length c.loop-i.row ≡ n + n = c.loop-i.auto.row ∙ c.requires.room in
    let past : n ≤ c.loop-i.i = subst (λ (k : ℕ). k ≤ c.loop-i.i) c.requires.length c.loop-i-test.false in
    filled-end k24 exact24 t n c.loop-i.row c.loop-i.i len past (λ j l. part-past n D w c.args.q j l) c.loop-i.invariant
