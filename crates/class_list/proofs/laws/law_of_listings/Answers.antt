use Rattle.class_list.proofs.UniqueLemmas.{listing-one}
use Rattle.class_list.proofs.laws.law_of_listings.Goals as goal

pub returns : goal.returns
returns g c = listing-one g.F.Field.field
