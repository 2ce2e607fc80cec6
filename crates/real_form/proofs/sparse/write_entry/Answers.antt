use Rattle.std.proofs.Common.{◌≡◌, ◌<◌, ◌+◌, ℕ, sym, ◌∙◌, ap, subst, arith, length, set}
use Rattle.cyclo24.specs.K24.{exact24}
use Rattle.cyclo24.specs.Z24.{exact_z24}
use Rattle.cyclo24.specs.ExactK24.{k24, k24_laws}
use Rattle.cyclo24.specs.ExactZ24.{z24_laws}
use Rattle.lin_alg.specs.Rows.{vector}
use Rattle.induce.specs.Tables.{dimension_in, matrix_in}
use Rattle.real_form.specs.Parts.{orbit}
use Rattle.real_form.specs.Complexes.{z24_parts}
use Rattle.real_form.specs.Wide.{IsWideImage}
use Rattle.real_form.proofs.TermLemmas.{on-err}
use Rattle.real_form.proofs.ImageLemmas.{part-re, part-im, wide-dot, wide-re, wide-im}
use Rattle.real_form.proofs.SparseLemmas.{pair-first, pair-second, pair-kept}
use Rattle.real_form.proofs.sparse.write_entry.Goals as goal

pub returns-in_err-x-clause-wide : goal.returns-in_err-x-clause-wide
returns-in_err-x-clause-wide c =
    let n = (dimension_in c.args.induced.now.tables) in
    let D = matrix_in c.args.quotient.now c.args.induced.now.tables in
    let w = vector z24_laws exact_z24 c.args.w.now in
    on-err c.from_residual.result (IsWideImage n D c.args.q w) (wide-dot n D w c.args.q c.args.a c.requires.row c.in_err-x.ensures.wide)

pub returns-in_err-row-clause-wide : goal.returns-in_err-row-clause-wide
returns-in_err-row-clause-wide c =
    let n = (dimension_in c.args.induced.now.tables) in
    let D = matrix_in c.args.quotient.now c.args.induced.now.tables in
    let w = vector z24_laws exact_z24 c.args.w.now in
    on-err c.from_residual-in_err-row.result (IsWideImage n D c.args.q w)
    (wide-re n D w c.args.q c.args.a c.requires.row (exact_z24 c.in_ok-x.x) c.in_ok-x.ensures.exact c.in_err-row.ensures.wide)

pub returns-in_err-row-2-clause-wide : goal.returns-in_err-row-2-clause-wide
returns-in_err-row-2-clause-wide c =
    let n = (dimension_in c.args.induced.now.tables) in
    let D = matrix_in c.args.quotient.now c.args.induced.now.tables in
    let w = vector z24_laws exact_z24 c.args.w.now in
    on-err c.from_residual-in_err-row-2.result (IsWideImage n D c.args.q w)
    (wide-im n D w c.args.q c.args.a c.requires.row (exact_z24 c.in_ok-x.x) c.in_ok-x.ensures.exact c.in_err-row-2.ensures.wide)

pub returns-clause-first : goal.returns-clause-first
returns-clause-first c =
    let n = (dimension_in c.args.induced.now.tables) in
    let D = matrix_in c.args.quotient.now c.args.induced.now.tables in
    let w = vector z24_laws exact_z24 c.args.w.now in
    let t = orbit z24_parts n D w c.args.q in
    let a = c.args.a in
    let m = length c.args.w.now + a in
    let row = c.args.row.now in
    let x = c.in_ok-row.field-0 in
    let y = c.in_ok-row-2.field-0 in
    let en = c.requires.length in
    let er = c.requires.room in
    let l = c.requires.row in
    let la : a < length row = omega (arith, er, l) in
    let lm : m < length row = omega (arith, en, er, l) in
    let em : m ≡ n + a = ap (λ k. k + a) en in
    let ex : exact24 x ≡ t a = c.in_ok-row.ensures.exact ∙ part-re n D w c.args.q a l (exact_z24 c.in_ok-x.x) c.in_ok-x.ensures.exact in
    let ey : exact24 y ≡ t m = c.in_ok-row-2.ensures.exact ∙ part-im n D w c.args.q a l (exact_z24 c.in_ok-x.x) c.in_ok-x.ensures.exact ∙ sym (ap t em) in
    pair-first k24 exact24 t row a m x y la lm ex ey

pub returns-clause-second : goal.returns-clause-second
returns-clause-second c =
    let n = (dimension_in c.args.induced.now.tables) in
    let D = matrix_in c.args.quotient.now c.args.induced.now.tables in
    let w = vector z24_laws exact_z24 c.args.w.now in
    let t = orbit z24_parts n D w c.args.q in
    let a = c.args.a in
    let m = length c.args.w.now + a in
    let row = c.args.row.now in
    let x = c.in_ok-row.field-0 in
    let y = c.in_ok-row-2.field-0 in
    let en = c.requires.length in
    let er = c.requires.room in
    let l = c.requires.row in
    let la : a < length row = omega (arith, er, l) in
    let lm : m < length row = omega (arith, en, er, l) in
    let em : m ≡ n + a = ap (λ k. k + a) en in
    let ex : exact24 x ≡ t a = c.in_ok-row.ensures.exact ∙ part-re n D w c.args.q a l (exact_z24 c.in_ok-x.x) c.in_ok-x.ensures.exact in
    let ey : exact24 y ≡ t m = c.in_ok-row-2.ensures.exact ∙ part-im n D w c.args.q a l (exact_z24 c.in_ok-x.x) c.in_ok-x.ensures.exact ∙ sym (ap t em) in
    subst (λ (k : ℕ). vector k24_laws exact24 (set (set row a x) m y) k ≡ t k) em (pair-second k24 exact24 t row a m x y lm ey)

pub returns-clause-kept : goal.returns-clause-kept
returns-clause-kept c =
    let n = (dimension_in c.args.induced.now.tables) in
    let D = matrix_in c.args.quotient.now c.args.induced.now.tables in
    let w = vector z24_laws exact_z24 c.args.w.now in
    let t = orbit z24_parts n D w c.args.q in
    let a = c.args.a in
    let m = length c.args.w.now + a in
    let row = c.args.row.now in
    let x = c.in_ok-row.field-0 in
    let y = c.in_ok-row-2.field-0 in
    let en = c.requires.length in
    let er = c.requires.room in
    let l = c.requires.row in
    let la : a < length row = omega (arith, er, l) in
    let lm : m < length row = omega (arith, en, er, l) in
    let em : m ≡ n + a = ap (λ k. k + a) en in
    let ex : exact24 x ≡ t a = c.in_ok-row.ensures.exact ∙ part-re n D w c.args.q a l (exact_z24 c.in_ok-x.x) c.in_ok-x.ensures.exact in
    let ey : exact24 y ≡ t m = c.in_ok-row-2.ensures.exact ∙ part-im n D w c.args.q a l (exact_z24 c.in_ok-x.x) c.in_ok-x.ensures.exact ∙ sym (ap t em) in
    pair-kept k24 exact24 t row a m x y la lm ex ey
