use Rattle.std.proofs.Common.{◌≡◌, true, refl, sym, ◌∙◌, ap}
use Rattle.mode_project.specs.WideParts.{IsWideOne}
use Rattle.mode_project.proofs.TermLemmas.{nought-add, on-err}
use Rattle.mode_project.proofs.space.add_one.Goals as goal

pub returns-then-is_zero-clause-exact : goal.returns-then-is_zero-clause-exact
returns-then-is_zero-clause-exact g c =
    let f = g.F.Field.field.laws in
    let s = g.F.Field.value c.args.sum in
    let y = g.F.Field.value c.args.y in
    let z : f.is_nought y ≡ true = sym c.is_zero.ensures ∙ c.if-is_zero.true in
    sym (ap (f.plus s) (f.is_nought-true y z) ∙ f.plus-nought s)

pub returns-then-is_zero-2-clause-exact : goal.returns-then-is_zero-2-clause-exact
returns-then-is_zero-2-clause-exact g c =
    let f = g.F.Field.field.laws in
    let s = g.F.Field.value c.args.sum in
    let z : f.is_nought s ≡ true = sym c.is_zero-2.ensures ∙ c.if-is_zero-2.true in
    nought-add f s (g.F.Field.value c.args.y) z

pub returns-in_err-more-clause-wide : goal.returns-in_err-more-clause-wide
returns-in_err-more-clause-wide g c =
    let s = g.F.Field.value c.args.sum in
    let y = g.F.Field.value c.args.y in
    on-err c.from_residual.result (IsWideOne g.F.Field.field s y)
    (sym c.is_zero-2.ensures ∙ c.if-is_zero-2.false, sym c.is_zero.ensures ∙ c.if-is_zero.false, c.in_err-more.ensures.wide.0 refl)
