use Rattle.std.proofs.Common.{◌∙◌, sym}
use Rattle.extra_modes.specs.ExtraSpace.{extra_space}
use Rattle.report_steps.specs.StepLaws.{After-single-at}
use Rattle.mode_report.specs.Atoms.{RefusesAtoms}
use Rattle.mode_report.specs.ModesFound.{AreWideAllBy, AreToldBy}
use Rattle.extra_report.specs.ExtraFound.{IsReported}
use Rattle.extra_report.proofs.laws.law_of_extra_found.Goals as goal

pub returns : goal.returns
returns c nature d q =
    After-single-at RefusesAtoms (AreWideAllBy (extra_space nature) 8) (AreToldBy (extra_space nature)) (IsReported nature d.file.format) d
    (c.law_of_modes_in_spaces.ensures (extra_space nature) d q (λ atom o u. c.law_of_extra_spaces.ensures.alike nature d.quotient atom o u q))
    (λ told h f g e k u v. e ∙ sym k)
