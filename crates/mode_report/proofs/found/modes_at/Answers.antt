use Rattle.std.proofs.Common.{refl}
use Rattle.mode_project.specs.AtomSpace.{displacements}
use Rattle.mode_report.specs.ModesHeldLaws.{found-modes, found-wide}
use Rattle.mode_report.proofs.found.modes_at.Goals as goal

pub returns-in-Passed : goal.returns-in-Passed
returns-in-Passed c =
    found-modes displacements 5 3 (λ q o. refl) c.args.file.now.divided c.quotient.result.now c.args.orbits c.in-Passed.modes.items _ c.quotient.ensures c.requires.orbits c.in_ok-weights.ensures.of (rw c.in-Passed.is at c.in_ok-modes.ensures)

pub returns-in-Refused : goal.returns-in-Refused
returns-in-Refused c =
    found-wide displacements 5 3 c.args.file.now.divided c.quotient.result.now c.args.orbits _ c.in-Refused.refusal c.quotient.ensures c.requires.orbits c.in_ok-weights.ensures.of (rw c.in-Refused.is at c.in_ok-modes.ensures)
