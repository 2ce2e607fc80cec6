use Rattle.mode_project.specs.AtomSpaceLaws.{matrices-multiply}
use Rattle.mode_project.specs.ProjectionLaws.{projection-commutes, range-columns}
use Rattle.mode_project.proofs.laws.law_of_projections.Goals as goal

pub returns-clause-multiplies : goal.returns-clause-multiplies
returns-clause-multiplies g c = matrices-multiply g.F.Field.field.laws

pub returns-clause-commutes : goal.returns-clause-commutes
returns-clause-commutes g c s w law class = projection-commutes g.F.Field.field.laws s law w class

pub returns-clause-range : goal.returns-clause-range
returns-clause-range g c = range-columns g.F.Field.field.laws
