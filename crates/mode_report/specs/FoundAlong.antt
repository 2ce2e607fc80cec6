-- What is found for a direction, by the program's answer.
--
-- along_text m: the report that is written of modes along a direction
-- IsAlongHeld m: it can be written
-- FindsAlong next answer: the finding is one of next, and modes that passed are held
-- AreSubgroups q ds: the stabilisers of directions are subgroups
use Rattle.std.specs.Prelude.{ℕ, List}
use Rattle.std.specs.List.{All}
use Rattle.algebra.specs.Subgroup.{IsSubgroup}
use Rattle.cyclo24.specs.declared.k24.K24.{K24}
use Rattle.class_list.specs.Seen.{DirectionView}
use Rattle.super_group.specs.Quotient.{SupercellGroup, quotient_group}
use Rattle.report_steps.specs.declared.step.Step.{Step}
use Rattle.report_steps.specs.Finding.{Finding}
use Rattle.report_steps.specs.FoundBy.{FindsBy}
use Rattle.report_steps.specs.IrrepSteps.{Each}
use Rattle.mode_report.specs.DirectionHeld.{AreFit, along_in}
use Rattle.mode_report.specs.ModesReport.{direction_modes_text}
use Rattle.mode_report.specs.declared.along.ModesAlong.{ModesAlong}

-- the report that is written of modes along a direction
abbrev pub along_text : ModesAlong → List ℕ
along_text m = direction_modes_text m.file.divided.file.format m.name m.number (along_in m.file.divided.file.irreps m.orbits m.rows.items)

-- a matrix for each irrep on each orbit
abbrev pub IsAlongHeld : ModesAlong → Type 0
IsAlongHeld m = Each (AreFit m.file.divided.file.irreps) m.orbits m.rows.items

-- the finding is one of next, and modes that passed are held
abbrev pub FindsAlong : (Finding → Type 0) → Step ModesAlong → Type 0
FindsAlong = FindsBy along_text IsAlongHeld

-- the stabilisers are subgroups of the quotient
abbrev pub AreSubgroups : SupercellGroup → List (DirectionView K24) → Type 0
AreSubgroups q ds = All (λ (d : DirectionView K24). IsSubgroup (quotient_group q) d.stabiliser) ds
