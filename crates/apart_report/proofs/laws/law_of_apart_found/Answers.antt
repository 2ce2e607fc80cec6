use Rattle.apart_report.proofs.OneWeightLemmas.{pairs-one}
use Rattle.apart_report.proofs.laws.law_of_apart_found.Goals as goal

pub returns : goal.returns
returns c d q = pairs-one d (c.law_of_irreps.ensures.induced d.quotient q)
