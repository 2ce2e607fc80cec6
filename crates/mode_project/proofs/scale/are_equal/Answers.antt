use Rattle.std.proofs.Common.{sym, ◌∙◌}
use Rattle.mode_project.proofs.ScaleLemmas.{same-by_difference}
use Rattle.mode_project.proofs.scale.are_equal.Goals as goal

pub returns-in-Ok : goal.returns-in-Ok
returns-in-Ok g c h =
    let value = g.F.Field.value in
    same-by_difference g.F.Field.field.laws (value c.args.x) (value c.args.y) (value c.in-Ok.rest) c.in-Ok.ensures.exact (sym c.is_zero.ensures ∙ h)
