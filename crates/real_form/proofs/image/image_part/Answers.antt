use Rattle.std.proofs.Common.{◌≡◌, ◌<◌, ◌+◌, ◌-◌, ℕ, ◌∙◌, ap, subst, arith, IsTrue}
use Rattle.cyclo24.specs.K24.{exact24}
use Rattle.cyclo24.specs.Z24.{exact_z24}
use Rattle.cyclo24.specs.ExactZ24.{z24_laws, real_part, imag_part, is_wide_real_part, is_wide_imag_part}
use Rattle.lin_alg.specs.Rows.{vector}
use Rattle.induce.specs.Tables.{dimension_in, matrix_in}
use Rattle.real_form.specs.Parts.{orbit}
use Rattle.real_form.specs.Complexes.{z24_parts}
use Rattle.real_form.specs.Wide.{IsWideImage}
use Rattle.real_form.proofs.TermLemmas.{on-err}
use Rattle.real_form.proofs.ImageLemmas.{ok-map, err-map, part-re, part-im, wide-dot, wide-re, wide-im}
use Rattle.real_form.proofs.image.image_part.Goals as goal

pub returns-in_err-x-clause-wide : goal.returns-in_err-x-clause-wide
returns-in_err-x-clause-wide c =
    let n = (dimension_in c.args.induced.now.tables) in
    let D = matrix_in c.args.quotient.now c.args.induced.now.tables in
    let w = vector z24_laws exact_z24 c.args.w.now in
    let l : c.args.p < n = subst (λ (k : ℕ). c.args.p < k) c.dim-n.ensures.value c.if-p-n.true in
    on-err c.from_residual.result (IsWideImage n D c.args.q w) (wide-dot n D w c.args.q c.args.p l c.in_err-x.ensures.wide)

pub returns-in_err-x-2-clause-wide : goal.returns-in_err-x-2-clause-wide
returns-in_err-x-2-clause-wide c =
    let n = (dimension_in c.args.induced.now.tables) in
    let D = matrix_in c.args.quotient.now c.args.induced.now.tables in
    let w = vector z24_laws exact_z24 c.args.w.now in
    let e = c.dim-n.ensures.value in
    let past = c.if-p-n.false in
    let room = c.requires.place in
    let l : c.args.p - c.dim-n.result < n = omega (arith, e, past, room) in
    on-err c.from_residual-in_err-x-2.result (IsWideImage n D c.args.q w) (wide-dot n D w c.args.q (c.args.p - c.dim-n.result) l c.in_err-x-2.ensures.wide)

pub returns-in_ok-x-clause-exact : goal.returns-in_ok-x-clause-exact
returns-in_ok-x-clause-exact c =
    let n = (dimension_in c.args.induced.now.tables) in
    let D = matrix_in c.args.quotient.now c.args.induced.now.tables in
    let w = vector z24_laws exact_z24 c.args.w.now in
    let l : c.args.p < n = subst (λ (k : ℕ). c.args.p < k) c.dim-n.ensures.value c.if-p-n.true in
    ok-map c.real_of.result (λ x. exact24 x ≡ real_part (exact_z24 c.in_ok-x.x)) (λ x. exact24 x ≡ orbit z24_parts n D w c.args.q c.args.p)
    (λ x h. h ∙ part-re n D w c.args.q c.args.p l (exact_z24 c.in_ok-x.x) c.in_ok-x.ensures.exact) c.real_of.ensures.exact

pub returns-in_ok-x-clause-wide : goal.returns-in_ok-x-clause-wide
returns-in_ok-x-clause-wide c =
    let n = (dimension_in c.args.induced.now.tables) in
    let D = matrix_in c.args.quotient.now c.args.induced.now.tables in
    let w = vector z24_laws exact_z24 c.args.w.now in
    let l : c.args.p < n = subst (λ (k : ℕ). c.args.p < k) c.dim-n.ensures.value c.if-p-n.true in
    err-map c.real_of.result (IsTrue (is_wide_real_part (exact_z24 c.in_ok-x.x))) (IsWideImage n D c.args.q w)
    (wide-re n D w c.args.q c.args.p l (exact_z24 c.in_ok-x.x) c.in_ok-x.ensures.exact) c.real_of.ensures.wide

pub returns-in_ok-x-2-clause-exact : goal.returns-in_ok-x-2-clause-exact
returns-in_ok-x-2-clause-exact c =
    let n = (dimension_in c.args.induced.now.tables) in
    let D = matrix_in c.args.quotient.now c.args.induced.now.tables in
    let w = vector z24_laws exact_z24 c.args.w.now in
    let e = c.dim-n.ensures.value in
    let past = c.if-p-n.false in
    let room = c.requires.place in
    let i = c.args.p - c.dim-n.result in
    let l : i < n = omega (arith, e, past, room) in
    let at : n + i ≡ c.args.p = omega (arith, e, past) in
    ok-map c.imag_of.result (λ x. exact24 x ≡ imag_part (exact_z24 c.in_ok-x-2.x)) (λ x. exact24 x ≡ orbit z24_parts n D w c.args.q c.args.p)
    (λ x h. h ∙ part-im n D w c.args.q i l (exact_z24 c.in_ok-x-2.x) c.in_ok-x-2.ensures.exact ∙ ap (orbit z24_parts n D w c.args.q) at) c.imag_of.ensures.exact

pub returns-in_ok-x-2-clause-wide : goal.returns-in_ok-x-2-clause-wide
returns-in_ok-x-2-clause-wide c =
    let n = (dimension_in c.args.induced.now.tables) in
    let D = matrix_in c.args.quotient.now c.args.induced.now.tables in
    let w = vector z24_laws exact_z24 c.args.w.now in
    let e = c.dim-n.ensures.value in
    let past = c.if-p-n.false in
    let room = c.requires.place in
    let i = c.args.p - c.dim-n.result in
    let l : i < n = omega (arith, e, past, room) in
    err-map c.imag_of.result (IsTrue (is_wide_imag_part (exact_z24 c.in_ok-x-2.x))) (IsWideImage n D c.args.q w)
    (wide-im n D w c.args.q i l (exact_z24 c.in_ok-x-2.x) c.in_ok-x-2.ensures.exact) c.imag_of.ensures.wide
