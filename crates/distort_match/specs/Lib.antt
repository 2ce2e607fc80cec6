-- The modules, each behind those that it stands on.

-- the cell of the listed places
pub mod ListedCells
-- places of listed atoms, and the atoms of the supercell that they match
pub mod Matches
-- the displacements of the atoms, or the line or atom that is refused
pub mod Outcomes
-- what the search for the atoms of a place takes and gives
pub mod FoundParts
-- the displacements found so far
pub mod MarkParts
-- the frame of the listed places
pub mod FrameParts
-- the parts of a cell
pub mod CellPieces
-- the atoms of an orbit that may be near a place
pub mod WindowParts
