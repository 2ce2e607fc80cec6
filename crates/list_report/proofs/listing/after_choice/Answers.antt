use Rattle.std.proofs.Common.{subst, IfOk}
use Rattle.list_report.specs.Choice.{chosen_of}
use Rattle.list_report.specs.Contexts.{Formed}
use Rattle.list_report.specs.FoundListing.{listed_text, IsTheOne, FindsListing}
use Rattle.list_report.specs.HeldListings.{formed_by, IsListingHeld}
use Rattle.list_report.specs.Listings.{AfterForm}
use Rattle.list_report.specs.RealForms.{RefusesForm, IsWideFormOf, IsFormed}
use Rattle.report_steps.specs.FindingLaws.{found-wide}
use Rattle.report_steps.specs.declared.step.Step.TheVariants as step
use Rattle.list_report.proofs.ListingLemmas.{listing-next}
use Rattle.list_report.proofs.listing.after_choice.Goals as goal

pub returns-in-Passed : goal.returns-in-Passed
returns-in-Passed c i e =
    let d = chosen_of c.args.file.divided i in
    let form = c.in-Passed.form in
    let passed = rw c.in-Passed.is at (c.in_ok-form.ensures.answer i e) in
    let P : Formed → Type 0 = λ x. IfOk c.after_form.result (FindsListing c.args.after c.args.count (λ next. AfterForm next x)) in
    listing-next RefusesForm IsWideFormOf IsFormed AfterForm d (formed_by d form) passed c.args.after c.args.count c.after_form.result (subst P (c.formed-formed.ensures.formed i e) c.after_form.ensures)

pub returns-in-Refused : goal.returns-in-Refused
returns-in-Refused c i e =
    found-wide listed_text IsListingHeld RefusesForm IsWideFormOf IsFormed (AfterForm (IsTheOne c.args.after c.args.count (step.Refused c.in-Refused.refusal))) (chosen_of c.args.file.divided i) c.in-Refused.refusal (rw c.in-Refused.is at (c.in_ok-form.ensures.answer i e))
