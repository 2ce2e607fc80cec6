-- The modules, each behind those that it stands on.

-- the reports of occupations and axial vectors
pub mod ExtraReport
-- what `occ` and `axial` find in a file
pub mod ExtraFound
-- what is found for them, by the program's answer
pub mod FoundExtra
-- the pieces of the report of `occ` and `axial`
pub mod ExtraPieces
-- what `occ-amps` and `axial-amps` find in a file
pub mod ExtraAmpsFound
-- what is found for them, by the program's answer
pub mod FoundExtraAmps
-- the pieces of the reports of `occ-amps` and `axial-amps`
pub mod ExtraAmpsPieces
