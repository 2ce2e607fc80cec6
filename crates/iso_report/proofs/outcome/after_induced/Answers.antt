use Rattle.amp_report.specs.AmpsFound.{AreAmpsFound}
use Rattle.apart_report.specs.ApartFound.{AreApartFound}
use Rattle.couple_report.specs.CoupleFound.{IsCoupleFound}
use Rattle.couple_report.specs.LinkFound.{IsLinkFound}
use Rattle.demo_report.specs.DemoFound.{IsDemoFound}
use Rattle.iso_report.specs.declared.job.Job.TheVariants as job
use Rattle.iso_report.specs.Outcome.{IsChecked}
use Rattle.iso_report.proofs.FoundLemmas.{job-ends, alone-ends, parts-ends, modes-found, extra-found}
use Rattle.iso_report.proofs.outcome.after_induced.Goals as goal

pub returns-in-Check-clause-answer : goal.returns-in-Check-clause-answer
returns-in-Check-clause-answer g c =
    let x = c.in-Check in
    alone-ends c.args.job.now job.Check IsChecked _ c.args.file.divided _ c.found_checked.result x.is (λ f h. h) c.found_checked.ensures.answer

pub returns-in-Amps-clause-answer : goal.returns-in-Amps-clause-answer
returns-in-Amps-clause-answer g c =
    let x = c.in-Amps in
    alone-ends c.args.job.now job.Amps AreAmpsFound _ c.args.file.divided _ c.found_amplitudes.result x.is (λ f h. h) c.found_amplitudes.ensures.answer

pub returns-in-Couple-clause-answer : goal.returns-in-Couple-clause-answer
returns-in-Couple-clause-answer g c =
    let x = c.in-Couple in
    alone-ends c.args.job.now (job.Couple x.irrep x.other x.after x.count) (IsCoupleFound x.irrep x.other x.after x.count) _ c.args.file.divided _ c.found_couple.result x.is (λ f h. h) c.found_couple.ensures.answer

pub returns-in-Link-clause-answer : goal.returns-in-Link-clause-answer
returns-in-Link-clause-answer g c =
    let x = c.in-Link in
    alone-ends c.args.job.now (job.Link x.irrep x.other) (IsLinkFound x.irrep x.other) _ c.args.file.divided _ c.found_link.result x.is (λ f h. h) c.found_link.ensures.answer

pub returns-in-Apart-clause-answer : goal.returns-in-Apart-clause-answer
returns-in-Apart-clause-answer g c =
    let x = c.in-Apart in
    alone-ends c.args.job.now job.Apart AreApartFound _ c.args.file.divided _ c.found_apart.result x.is (λ f h. h) c.found_apart.ensures.answer

pub returns-in-Demo-clause-answer : goal.returns-in-Demo-clause-answer
returns-in-Demo-clause-answer g c =
    let x = c.in-Demo in
    alone-ends c.args.job.now (job.Demo x.number) (IsDemoFound x.number) _ c.args.file.divided _ c.found_demo.result x.is (λ f h. h) c.found_demo.ensures.answer

pub returns-in-List-clause-answer : goal.returns-in-List-clause-answer
returns-in-List-clause-answer g c =
    let x = c.in-List in
    job-ends c.args.job.now (job.List x.irrep x.after x.count x.tally) _ _ c.args.file.divided _ c.found_listing.result x.is c.found_listing.ensures.answer

pub returns-in-Modes-clause-answer : goal.returns-in-Modes-clause-answer
returns-in-Modes-clause-answer g c =
    let x = c.in-Modes in
    parts-ends c.args.job.now (job.Modes x.direction) _ c.args.file.divided _ c.after_modes.result x.is (λ f h. modes-found x.direction _ c.args.file.divided f h) c.after_modes.ensures.answer

pub returns-in-Extra-clause-answer : goal.returns-in-Extra-clause-answer
returns-in-Extra-clause-answer g c =
    let x = c.in-Extra in
    parts-ends c.args.job.now (job.Extra x.nature x.amps) _ c.args.file.divided _ c.after_extra.result x.is (λ f h. extra-found x.nature x.amps _ c.args.file.divided f h) c.after_extra.ensures.answer
