-- The modules, each behind those that it stands on.

-- wave vectors that are whole on a supercell
pub mod CellPhase
-- the matrices that a small representation induces, their characters and weights
pub mod Induced
-- the kind of an induced representation, and its real dimension
pub mod Kinds
-- the representatives of arms, as numbers of a quotient
pub mod Arms
-- the tables that give every block of every induced matrix
pub mod Tables
-- the weights of a list of characters
pub mod Weights
-- why there are no induced matrices
pub mod Wide
-- induced matrices as contracts see them
pub mod InducedView
-- weights that are apart
pub mod Apart
pub mod InsideView
-- phases of the translations of a supercell
pub mod CellPhaseLaws
-- what members that differ by a translation of a supercell have in common
pub mod CellLaws
-- induced matrices multiply; characters and weights are constant on classes
pub mod InducedLaws
