-- The modules, each behind those that it stands on.

-- the two irreps that are taken together, and their real forms
pub mod Pairs
-- the report of `couple`
pub mod CoupleReport
-- what `couple` finds, step by step
pub mod CoupleFound
-- what the program holds of two irreps
pub mod HeldPairs
-- what is found for `couple`, by the program's answer
pub mod FoundCouple
-- what a listing of the directions of pairs obeys
pub mod PairListings
-- the report of `link`
pub mod LinkReport
-- what `link` finds
pub mod LinkFound
-- what is found for `link`, by the program's answer
pub mod FoundLink
-- the pieces of the report of `couple`
pub mod CouplePieces
-- the pieces of the report of `link`
pub mod LinkPieces
