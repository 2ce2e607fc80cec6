use Rattle.list_report.proofs.TellingLemmas.{on-err, told-or-not, told-found, untold-found}
use Rattle.list_report.proofs.telling.list_told.Goals as goal

pub returns-in_err-tell-in-Passed-clause-memory : goal.returns-in_err-tell-in-Passed-clause-memory
returns-in_err-tell-in-Passed-clause-memory g c =
    let a = c.args in
    on-err c.from_residual-in_err-tell-in-Passed.result _
    (told-or-not a.wanted a.after a.count a.tally _ _ a.file.divided c.in-Passed.listed (rw c.in-Passed.is at c.in_ok-listed.ensures) c.in_err-tell-in-Passed.ensures.memory)

pub returns-in_ok-tell-in-Passed-clause-found : goal.returns-in_ok-tell-in-Passed-clause-found
returns-in_ok-tell-in-Passed-clause-found g c =
    let a = c.args in
    let told = c.in_ok-tell-in-Passed.ensures in
    told-found a.wanted a.after a.count a.tally _ _ a.file.divided c.in-Passed.listed c.in_ok-tell-in-Passed.field-0 (rw c.in-Passed.is at c.in_ok-listed.ensures) told.told told.held

pub returns-in-Refused-clause-found : goal.returns-in-Refused-clause-found
returns-in-Refused-clause-found g c =
    let a = c.args in
    untold-found a.wanted a.after a.count a.tally _ a.file.divided c.in-Refused.refusal (rw c.in-Refused.is at c.in_ok-listed.ensures)
