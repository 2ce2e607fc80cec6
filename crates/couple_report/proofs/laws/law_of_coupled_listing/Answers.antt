use Rattle.couple_report.proofs.PairListingLemmas.{listing-pairs}
use Rattle.couple_report.proofs.laws.law_of_coupled_listing.Goals as goal

pub returns : goal.returns
returns c = let laws = c.law_of_pairs.ensures in listing-pairs laws.fixed laws.each laws.stabiliser
