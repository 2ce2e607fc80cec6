-- What is found for `demo`, by the program's answer.
--
-- summary_of x: the report that is written of what was found
-- IsDemoHeld x: it can be written
-- FindsDemo next answer: the finding is one of next, and what passed is held
use Rattle.std.specs.Prelude.{ℕ, List}
use Rattle.cyclo24.specs.ExactK24.{k24_laws}
use Rattle.cyclo24.specs.K24.{exact24}
use Rattle.class_list.specs.Seen.{directions_of}
use Rattle.super_group.specs.Quotient.{order_of}
use Rattle.report_steps.specs.Finding.{Finding}
use Rattle.report_steps.specs.FoundBy.{FindsBy}
use Rattle.report_steps.specs.IrrepSteps.{Each}
use Rattle.report_steps.specs.declared.step.Step.{Step}
use Rattle.mode_report.specs.Held.{HasSizeOf, told_in}
use Rattle.demo_report.specs.DemoReport.{orders_of, summary_text}
use Rattle.demo_report.specs.declared.found.FoundDemo.{FoundDemo}

-- the report that is written of what was found
abbrev pub summary_of : FoundDemo → List ℕ
summary_of x =
    let d = x.file.divided in
    summary_text d.file.format x.number (order_of d.quotient) x.dim (orders_of (directions_of k24_laws exact24 x.listing)) (told_in d.file.irreps x.modes.orbits x.modes.modes.items)

-- modes for each orbit
abbrev pub IsDemoHeld : FoundDemo → Type 0
IsDemoHeld x = Each HasSizeOf x.modes.orbits x.modes.modes.items

-- the finding is one of next, and what passed is held
abbrev pub FindsDemo : (Finding → Type 0) → Step FoundDemo → Type 0
FindsDemo = FindsBy summary_of IsDemoHeld
