use Rattle.list_report.specs.FoundListing.{listed_text, IsTheOne}
use Rattle.list_report.specs.HeldListings.{formed_in, IsListingHeld}
use Rattle.list_report.specs.ListingLaws.{found-unlisted}
use Rattle.report_steps.specs.declared.step.Step.TheVariants as step
use Rattle.list_report.proofs.ListingLemmas.{listed-found}
use Rattle.list_report.proofs.listing.after_form.Goals as goal

pub listed-requires-clause-directions : goal.listed-requires-clause-directions
listed-requires-clause-directions g c = (rw c.in-Passed.is at c.in_ok-listing.ensures).1

pub listed-requires-clause-few : goal.listed-requires-clause-few
listed-requires-clause-few g c = (rw c.in-Passed.is at c.in_ok-listing.ensures).0

pub returns-in-Passed : goal.returns-in-Passed
returns-in-Passed g c =
    let listed = c.listed.ensures in
    let passed = rw c.in-Passed.is at c.in_ok-listing.ensures in
    listed-found (formed_in c.args.formed) c.args.after c.args.count c.listed.result passed.0 listed.listed listed.held listed.after listed.count

pub returns-in-Refused : goal.returns-in-Refused
returns-in-Refused g c =
    found-unlisted listed_text IsListingHeld (IsTheOne c.args.after c.args.count (step.Refused c.in-Refused.refusal)) (formed_in c.args.formed) c.in-Refused.refusal (rw c.in-Refused.is at c.in_ok-listing.ensures)
