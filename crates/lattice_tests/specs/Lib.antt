-- The modules, each behind those that it stands on.

-- the action of all sign changes of coordinates
pub mod Flips
-- it is lawful
pub mod FlipLaws
-- groups by tables, that act by matrices of small whole numbers
pub mod Tables
-- what their tests tell
pub mod TableTests
-- what actions by tables obey
pub mod TableLaws
-- the group of the triangular prism
pub mod Prisms
-- its action is lawful
pub mod PrismLaws
-- the rotations of the tetrahedron
pub mod Tetrahedra
-- their action is lawful
pub mod TetrahedronLaws
-- the group of the octahedron
pub mod Octahedra
-- its action is lawful
pub mod OctahedronLaws
