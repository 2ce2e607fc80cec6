use Rattle.std.proofs.Common.{None}
use Rattle.demo_report.proofs.UniqueLemmas.{demo-one}
use Rattle.demo_report.proofs.laws.law_of_demo_found.Goals as goal

pub returns : goal.returns
returns c d q number =
    let steps = c.law_of_listing_steps.ensures in
    demo-one d number (c.law_of_modes_found.ensures d q) steps.subspaces steps.directions steps.form steps.twins (steps.choice None d) q
