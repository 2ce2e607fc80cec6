use Rattle.amp_report.specs.OneAmplitudesLaws.{one-list}
use Rattle.amp_report.proofs.OneAmpsLemmas.{amps-one}
use Rattle.amp_report.proofs.laws.law_of_amps_found.Goals as goal

pub returns : goal.returns
returns c d q small =
    let matches = c.law_of_matches.ensures in
    let amplitudes = c.law_of_amplitudes.ensures in
    amps-one d q small (c.law_of_modes_found.ensures d q) (c.law_of_irreps.ensures.induced d.quotient q) (λ atom o u. c.law_of_one_orbit.ensures d.quotient atom o u q) c.law_of_one_basis.ensures.modes matches.one matches.once
    (one-list amplitudes.basis amplitudes.one)
