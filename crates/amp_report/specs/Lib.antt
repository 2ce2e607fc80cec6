-- The modules, each behind those that it stands on.

-- the report of `amps`
pub mod AmpsReport
-- what `amps` finds in a file
pub mod AmpsFound
-- what the program holds of amplitudes
pub mod Held
-- lists by their elements
pub mod AmpListLaws
-- what the program holds of modes and amplitudes, as the definitions name it
pub mod AmpsHeldLaws
-- the orbits of a file and the modes of each are one
pub mod OneModesLaws
-- what is told of amplitudes is one
pub mod OneAmplitudesLaws
-- what is found for `amps`, by the program's answer
pub mod FoundAmps
-- the pieces of the report of `amps`
pub mod AmpsPieces
