use Rattle.std.proofs.Common.{refl, sym}
use Rattle.list_report.specs.HeldListings.{formed_in}
use Rattle.list_report.specs.ListingLaws.{found-unlisted, found-listed}
use Rattle.demo_report.specs.DemoFound.{AfterClasses}
use Rattle.demo_report.specs.FoundDemo.{summary_of, IsDemoHeld}
use Rattle.demo_report.proofs.ListingLemmas.{listing_in, is-listing-in}
use Rattle.demo_report.proofs.found.after_form.Goals as goal

pub returns-in-Passed : goal.returns-in-Passed
returns-in-Passed g c =
    let x = c.args.formed in
    let ds = c.in-Passed.listing in
    let passed = rw c.in-Passed.is at c.in_ok-listing.ensures in
    found-listed summary_of IsDemoHeld (AfterClasses c.args.number c.args.file.divided) (formed_in x) (listing_in x ds) passed.0 (is-listing-in x ds passed.1) c.after_classes.result (c.after_classes.ensures (listing_in x ds) (sym c.dim.ensures) refl)

pub returns-in-Refused : goal.returns-in-Refused
returns-in-Refused g c =
    found-unlisted summary_of IsDemoHeld (AfterClasses c.args.number c.args.file.divided) (formed_in c.args.formed) c.in-Refused.refusal (rw c.in-Refused.is at c.in_ok-listing.ensures)
