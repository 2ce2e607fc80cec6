-- The modules, each behind those that it stands on.

-- the fixed subspaces of an action by their equations, and how many there are
pub mod Lattice
-- what contracts see of held forms
pub mod Subspaces
-- the written numbers of fixed subspaces
pub mod Wide
-- what fixed subspaces and their equations obey
pub mod LatticeLaws
-- what held forms and their exact rows obey
pub mod FormLaws
-- lists of forms of fixed subspaces, and how they grow
pub mod Held
-- the memory of cuts: a row of small numbers for each form
pub mod Cuts
-- closing by classes: one form of each class is cut, the others are its images
pub mod Classes
