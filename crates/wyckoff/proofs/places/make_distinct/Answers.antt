use Rattle.std.proofs.lemmas.List.Filters.{dedup_is}
use Rattle.wyckoff.proofs.DistinctLemmas.{distinct, places_ties}
use Rattle.wyckoff.proofs.places.make_distinct.Goals as goal

pub returns : goal.returns
returns c = distinct _ places_ties _ _ _ c.sort_unstable.ensures.permutation c.sort_unstable.ensures.sorted (dedup_is _ _ _ c.dedup.ensures.filtered)
