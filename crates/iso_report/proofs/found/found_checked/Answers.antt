use Rattle.std.proofs.Common.{map}
use Rattle.std.specs.List.{concat}
use Rattle.report_steps.specs.Held.{facts_in}
use Rattle.iso_report.specs.Check.{check_text, check_pieces}
use Rattle.iso_report.specs.declared.check.CheckReport.{CheckReport}
use Rattle.iso_report.specs.Outcome.{IsChecked}
use Rattle.iso_report.proofs.EndingLemmas.{ends-written}
use Rattle.iso_report.proofs.FoundLemmas.{checked-found}
use Rattle.iso_report.proofs.found.found_checked.Goals as goal

pub returns-clause-answer : goal.returns-clause-answer
returns-clause-answer g c =
    let file = c.args.file in
    let text = check_text file.divided (map facts_in file.irreps.items) in
    let report : CheckReport = record { file = file } in
    ends-written (IsChecked file.divided) text (concat (check_pieces report)) _ c.written.result (checked-found file c.requires) (c.law_of_check_pieces.ensures report) c.written.ensures.answer
