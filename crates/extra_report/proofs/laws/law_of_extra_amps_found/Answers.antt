use Rattle.extra_modes.specs.ExtraSpace.{extra_space}
use Rattle.amp_report.specs.OneAmplitudesLaws.{one-list}
use Rattle.mode_report.specs.OneWeightLaws.{HaveOneSpace}
use Rattle.extra_report.proofs.OneAmpsLemmas.{amps-one}
use Rattle.extra_report.proofs.laws.law_of_extra_amps_found.Goals as goal

pub returns : goal.returns
returns c nature d q =
    let amplitudes = c.law_of_amplitudes.ensures in
    let amounts = c.law_of_amounts.ensures in
    let alike : HaveOneSpace (extra_space nature) d.quotient = λ atom o u. c.law_of_extra_spaces.ensures.alike nature d.quotient atom o u q in
    amps-one nature d (c.law_of_modes_in_spaces.ensures (extra_space nature) d q alike) (c.law_of_irreps.ensures.induced d.quotient q) alike c.law_of_one_basis.ensures.modes amounts.one amounts.cause amounts.apart
    (one-list amplitudes.basis amplitudes.one)
