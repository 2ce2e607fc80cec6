-- The modules, each behind those that it stands on.

-- what is told of an orbit
pub mod Told
-- the report of `modes`
pub mod ModesReport
-- what the parts of the code that writes moves give
pub mod MoveParts
-- the texts of a list with one more at the end
pub mod ReportLaws
-- the orbits of the atoms of a file
pub mod Atoms
-- the weights of the irreps of a file
pub mod IrrepWeights
-- the modes of the orbits of a file
pub mod AllModes
-- what the program holds of orbits and modes
pub mod Held
-- what `modes` finds in a file
pub mod ModesFound
-- what the program holds of weights and modes, as the definitions name it
pub mod ModesHeldLaws
-- the modes that a direction allows
pub mod DirectionModes
-- what is found for a direction
pub mod DirectionFound
-- what the program holds of the modes that a stabiliser leaves
pub mod DirectionHeld
-- what is found for a direction, by the program's answer
pub mod FoundAlong
-- the pieces of the reports of `modes`
pub mod ModesPieces
-- which piece is which
pub mod Parts
-- piece number n is the text of part number n; the pieces are the whole report
pub mod PartLaws
-- how many orbits and modes are told of
pub mod ToldLaws
-- the pieces, by the program's values
pub mod ReportPieces
-- the weights of the irreps of a file are one, and what is known of orbits and modes
pub mod OneWeightLaws
