-- The modules, each behind those that it stands on.

-- places of atoms modulo a supercell, and their images under the elements of its group
pub mod Places
-- the orbit of an atom in a supercell
pub mod Orbit
-- numbered points that a group permutes
pub mod Permutations
-- the elements that leave an atom in its place
pub mod Sites
-- the orbits of the atom lines of a file, or the line that is refused
pub mod AtomLines
-- what contracts see of an orbit's fields
pub mod OrbitTables
-- what the parts of an orbit's code take and give
pub mod OrbitParts
-- laws of places modulo a supercell, and of their images
pub mod PlaceLaws
-- a rising list of places is fixed by its members
pub mod OrderedPlaceLaws
-- laws of the orbit of an atom
pub mod OrbitLaws
