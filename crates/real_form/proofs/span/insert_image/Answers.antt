use Rattle.std.proofs.Common.{◌+◌, inl, inr}
use Rattle.cyclo24.specs.K24.{exact24}
use Rattle.cyclo24.specs.Z24.{exact_z24}
use Rattle.cyclo24.specs.ExactK24.{k24, k24_laws}
use Rattle.cyclo24.specs.ExactZ24.{z24_laws}
use Rattle.lin_alg.specs.Rows.{vector}
use Rattle.super_group.specs.Quotient.{order_of}
use Rattle.induce.specs.Tables.{dimension_in, matrix_in}
use Rattle.real_form.specs.Parts.{orbit}
use Rattle.real_form.specs.Complexes.{z24_parts}
use Rattle.real_form.proofs.SpannedLemmas.{held-next, held-member, held-wide}
use Rattle.real_form.proofs.span.insert_image.Goals as goal

pub returns-in-Err-clause-wide : goal.returns-in-Err-clause-wide
returns-in-Err-clause-wide c e = inl (c.args.q, c.requires.element, c.in-Err.ensures.wide)

pub returns-in-Ok-insert-clause-held : goal.returns-in-Ok-insert-clause-held
returns-in-Ok-insert-clause-held c =
    let n = (dimension_in c.args.induced.now.tables) in
    let a = orbit z24_parts n (matrix_in c.args.quotient.now c.args.induced.now.tables) (vector z24_laws exact_z24 c.args.w.now) in
    let ok = c.in-Ok-insert.ensures in
    held-next k24 exact24 (n + n) a c.args.q c.args.form.now c.insert.new.form (vector k24_laws exact24 c.form_image.new.row) c.requires.held c.in-Ok.ensures.exact ok.width ok.whole ok.form ok.span

pub returns-in-Ok-insert-clause-member : goal.returns-in-Ok-insert-clause-member
returns-in-Ok-insert-clause-member c stayed =
    let n = (dimension_in c.args.induced.now.tables) in
    let a = orbit z24_parts n (matrix_in c.args.quotient.now c.args.induced.now.tables) (vector z24_laws exact_z24 c.args.w.now) in
    let ok = c.in-Ok-insert.ensures in
    held-member k24 exact24 (n + n) a c.args.q c.args.form.now c.insert.new.form (vector k24_laws exact24 c.form_image.new.row) c.requires.held c.in-Ok.ensures.exact (ok.stays stayed) ok.span

pub returns-in-Err-insert-clause-wide : goal.returns-in-Err-insert-clause-wide
returns-in-Err-insert-clause-wide c e =
    let n = (dimension_in c.args.induced.now.tables) in
    let a = orbit z24_parts n (matrix_in c.args.quotient.now c.args.induced.now.tables) (vector z24_laws exact_z24 c.args.w.now) in
    inr (held-wide k24 exact24 (n + n) a c.args.q (order_of c.args.quotient.now) c.args.form.now (vector k24_laws exact24 c.form_image.new.row) c.requires.held c.in-Ok.ensures.exact c.requires.element (c.in-Err-insert.ensures.wide e))
