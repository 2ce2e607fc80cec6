use Rattle.mode_project.specs.OneBasisLaws.{modes-unique, direction-unique}
use Rattle.mode_project.proofs.laws.law_of_one_basis.Goals as goal

pub returns-clause-modes : goal.returns-clause-modes
returns-clause-modes g c s t ws ms ns sites columns a = modes-unique g.F.Field.field.laws s t a ws ms ns sites columns

pub returns-clause-direction : goal.returns-clause-direction
returns-clause-direction g c s t w h rs ts a = direction-unique g.F.Field.field.laws s t a w h rs ts
