-- The modules, each behind those that it stands on.

-- the report of `apart`
pub mod ApartReport
-- what `apart` finds
pub mod ApartFound
-- what the program holds of pairs
pub mod Held
-- what is found for `apart`, by the program's answer
pub mod FoundPairs
-- the pieces of the report of `apart`
pub mod ApartPieces
