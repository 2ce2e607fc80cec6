use Rattle.std.proofs.Common.{◌≡◌, ap, inl, inr, sym, ◌∙◌}
use Rattle.lin_alg.specs.Rows.{exact_rows}
use Rattle.std.specs.Prelude.{Err}
use Rattle.lin_alg.specs.declared.errors.LinError.TheVariants.{Wide}
use Rattle.mode_project.proofs.irreps.with_irrep.Goals as goal

pub returns-in-Err-clause-wide : goal.returns-in-Err-clause-wide
returns-in-Err-clause-wide g c w = inl (c.in-Err.ensures.wide (ap Err (let k : c.in-Err.error ≡ Wide = cc in k)))

pub with_range-requires-clause-width : goal.with_range-requires-clause-width
with_range-requires-clause-width g c = c.in-Ok.ensures.width ∙ sym c.requires.width

pub returns-in-Ok-with_range-clause-width : goal.returns-in-Ok-with_range-clause-width
returns-in-Ok-with_range-clause-width g c = c.in-Ok-with_range.ensures.width ∙ c.requires.width

pub returns-in-Ok-with_range-clause-kept : goal.returns-in-Ok-with_range-clause-kept
returns-in-Ok-with_range-clause-kept g c =
    (exact_rows g.F.Field.field.laws g.F.Field.value c.in-Ok.range.rows, c.in-Ok.ensures.range, c.in-Ok-with_range.ensures.kept)

pub returns-clause-wide : goal.returns-clause-wide
returns-clause-wide g c w =
    inr (exact_rows g.F.Field.field.laws g.F.Field.value c.in-Ok.range.rows, c.in-Ok.ensures.range, c.in-Err-with_range.ensures.wide w)
