use Rattle.std.proofs.Common.{refl}
use Rattle.list_report.specs.HeldListings.{formed_in}
use Rattle.list_report.specs.ListingLaws.{found-unlisted, found-listed}
use Rattle.mode_report.specs.DirectionFound.{AfterClasses}
use Rattle.mode_report.specs.FoundAlong.{along_text, IsAlongHeld}
use Rattle.mode_report.proofs.DirectionStepLemmas.{listing-subgroups, listing_along, is-listing-along}
use Rattle.mode_report.proofs.direction.after_form.Goals as goal

pub after_classes-requires-clause-stabilisers : goal.after_classes-requires-clause-stabilisers
after_classes-requires-clause-stabilisers g c =
    listing-subgroups c.args.formed c.args.file.divided.quotient c.in-Passed.listing c.requires.held c.requires.quotient (rw c.in-Passed.is at c.in_ok-listing.ensures).1

pub returns-in-Passed : goal.returns-in-Passed
returns-in-Passed g c =
    let x = c.args.formed in
    let ds = c.in-Passed.listing in
    let passed = rw c.in-Passed.is at c.in_ok-listing.ensures in
    found-listed along_text IsAlongHeld (AfterClasses c.args.file.divided c.args.number) (formed_in x) (listing_along x ds) passed.0 (is-listing-along x ds passed.1) c.after_classes.result (c.after_classes.ensures (listing_along x ds) refl refl)

pub returns-in-Refused : goal.returns-in-Refused
returns-in-Refused g c =
    found-unlisted along_text IsAlongHeld (AfterClasses c.args.file.divided c.args.number) (formed_in c.args.formed) c.in-Refused.refusal (rw c.in-Refused.is at c.in_ok-listing.ensures)
