use Rattle.std.proofs.Common.{◌≡◌, ◌+◌, refl, sym, ◌∙◌, ap, arith, IsTrue}
use Rattle.cyclo24.specs.K24.{exact24}
use Rattle.cyclo24.specs.Z24.{exact_z24}
use Rattle.cyclo24.specs.ExactK24.{k24, k24_laws}
use Rattle.cyclo24.specs.ExactZ24.{z24_laws, from_real, imaginary, is_wide_sum_z24}
use Rattle.cyclo24.specs.Z24RootsLaws.{power-6}
use Rattle.lin_alg.specs.Rows.{vector}
use Rattle.real_form.specs.Parts.{lifted}
use Rattle.real_form.specs.Complexes.{z24_parts}
use Rattle.real_form.specs.Wide.{IsWideLifted}
use Rattle.real_form.proofs.VectorLemmas.{vector-at}
use Rattle.real_form.proofs.TermLemmas.{on-err}
use Rattle.real_form.proofs.ImageLemmas.{ok-map, err-by}
use Rattle.real_form.proofs.LiftedLemmas.{wide-real, wide-imaginary, wide-turned, wide-sum, lifted-is}
use Rattle.real_form.proofs.lifting.lifted_entry.Goals as goal

pub returns-in_err-real-clause-wide : goal.returns-in_err-real-clause-wide
returns-in_err-real-clause-wide c =
    let n = c.args.n in
    let v = vector k24_laws exact24 c.args.row.now in
    let e = c.requires.length in
    let p = c.requires.place in
    let a = vector-at k24 exact24 c.args.row.now c.args.j c.index-row-j.result (omega (arith, e, p)) c.index-row-j.is in
    on-err c.from_residual.result (IsWideLifted n v) (wide-real n v c.args.j p (exact24 c.index-row-j.result) (sym a) (c.in_err-real.ensures.wide.0 refl))

pub returns-in_err-imaginary-clause-wide : goal.returns-in_err-imaginary-clause-wide
returns-in_err-imaginary-clause-wide c =
    let n = c.args.n in
    let v = vector k24_laws exact24 c.args.row.now in
    let e = c.requires.length in
    let p = c.requires.place in
    let b = vector-at k24 exact24 c.args.row.now (n + c.args.j) c.index-row-n.result (omega (arith, e, p)) c.index-row-n.is in
    on-err c.from_residual-in_err-imaginary.result (IsWideLifted n v) (wide-imaginary n v c.args.j p (exact24 c.index-row-n.result) (sym b) (c.in_err-imaginary.ensures.wide.0 refl))

pub returns-in_err-turned-clause-wide : goal.returns-in_err-turned-clause-wide
returns-in_err-turned-clause-wide c =
    let n = c.args.n in
    let v = vector k24_laws exact24 c.args.row.now in
    let e = c.requires.length in
    let p = c.requires.place in
    let b = vector-at k24 exact24 c.args.row.now (n + c.args.j) c.index-row-n.result (omega (arith, e, p)) c.index-row-n.is in
    on-err c.from_residual-in_err-turned.result (IsWideLifted n v)
    (wide-turned n v c.args.j p (exact_z24 c.root.result) (exact_z24 c.in_ok-imaginary.imaginary) (c.root.ensures ∙ power-6) (c.in_ok-imaginary.ensures.exact ∙ ap from_real (sym b)) (c.in_err-turned.ensures.wide.0 refl))

pub returns-clause-exact : goal.returns-clause-exact
returns-clause-exact c =
    let n = c.args.n in
    let v = vector k24_laws exact24 c.args.row.now in
    let e = c.requires.length in
    let p = c.requires.place in
    let a = vector-at k24 exact24 c.args.row.now c.args.j c.index-row-j.result (omega (arith, e, p)) c.index-row-j.is in
    let b = vector-at k24 exact24 c.args.row.now (n + c.args.j) c.index-row-n.result (omega (arith, e, p)) c.index-row-n.is in
    let x = exact_z24 c.in_ok-real.real in
    let y = exact_z24 c.in_ok-turned.turned in
    let ex : x ≡ from_real (v c.args.j) = c.in_ok-real.ensures.exact ∙ ap from_real (sym a) in
    let ey : y ≡ z24_laws.times imaginary (from_real (v (n + c.args.j))) =
    c.in_ok-turned.ensures.exact ∙ (λ t. z24_laws.times ((c.root.ensures ∙ power-6) t) ((c.in_ok-imaginary.ensures.exact ∙ ap from_real (sym b)) t)) in
    ok-map c.add.result (λ z. exact_z24 z ≡ z24_laws.plus x y) (λ z. exact_z24 z ≡ lifted z24_parts n v c.args.j) (λ z h. lifted-is n v c.args.j p x y (exact_z24 z) h ex ey) c.add.ensures.exact

pub returns-clause-wide : goal.returns-clause-wide
returns-clause-wide c =
    let n = c.args.n in
    let v = vector k24_laws exact24 c.args.row.now in
    let e = c.requires.length in
    let p = c.requires.place in
    let a = vector-at k24 exact24 c.args.row.now c.args.j c.index-row-j.result (omega (arith, e, p)) c.index-row-j.is in
    let b = vector-at k24 exact24 c.args.row.now (n + c.args.j) c.index-row-n.result (omega (arith, e, p)) c.index-row-n.is in
    let x = exact_z24 c.in_ok-real.real in
    let y = exact_z24 c.in_ok-turned.turned in
    let ex : x ≡ from_real (v c.args.j) = c.in_ok-real.ensures.exact ∙ ap from_real (sym a) in
    let ey : y ≡ z24_laws.times imaginary (from_real (v (n + c.args.j))) =
    c.in_ok-turned.ensures.exact ∙ (λ t. z24_laws.times ((c.root.ensures ∙ power-6) t) ((c.in_ok-imaginary.ensures.exact ∙ ap from_real (sym b)) t)) in
    err-by c.add.result (IsTrue (is_wide_sum_z24 x y)) (IsWideLifted n v) c.add.ensures.wide (wide-sum n v c.args.j p x y ex ey)
