-- What the program holds of a file behind each step over its irreps.
--
-- IsStarred p s: the file with the stars of its irreps
-- IsCelled p c: divided, with stars that are whole on the supercell
-- IsRepresentedFile d r: with the small representations
-- IsInducedFile d f: with the matrices that they induce
use Rattle.report_steps.specs.declared.context.Starred.{Starred}
use Rattle.report_steps.specs.declared.context.Celled.{Celled}
use Rattle.report_steps.specs.declared.context.Represented.{Represented}
use Rattle.report_steps.specs.declared.context.InducedFile.{InducedFile}
use Rattle.report_steps.specs.Contexts.{Parented, Divided}
use Rattle.report_steps.specs.Held.{IsStarHeld, IsCellHeld, IsRepHeld, IsInducedHeld}
use Rattle.report_steps.specs.IrrepSteps.{Each}
use Rattle.report_steps.specs.Stages.{HavePhases, IsDivided, HaveReps, HaveInduced}

abbrev pub AreStarsHeld : Starred → Type 0
AreStarsHeld s = Each (IsStarHeld s.parented.parent) s.parented.file.irreps s.stars.items

abbrev pub IsStarred : Parented → Starred → Type 0
IsStarred p s = HavePhases p s.parented × AreStarsHeld s

abbrev pub AreCellsHeld : Celled → Type 0
AreCellsHeld c = Each (IsCellHeld c.divided.quotient) c.divided.file.irreps c.stars.items

abbrev pub IsCelled : Parented → Celled → Type 0
IsCelled p c = IsDivided p c.divided × AreCellsHeld c

abbrev pub AreRepsHeld : Represented → Type 0
AreRepsHeld r = Each (IsRepHeld r.divided.quotient) r.divided.file.irreps r.reps.items

abbrev pub IsRepresentedFile : Divided → Represented → Type 0
IsRepresentedFile d r = HaveReps d r.divided × AreRepsHeld r

abbrev pub AreInducedHeld : InducedFile → Type 0
AreInducedHeld f = Each (IsInducedHeld f.divided.quotient) f.divided.file.irreps f.irreps.items

abbrev pub IsInducedFile : Divided → InducedFile → Type 0
IsInducedFile d f = HaveInduced d f.divided × AreInducedHeld f
