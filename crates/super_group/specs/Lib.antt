-- The modules, each behind those that it stands on.

-- supercells of a group
pub mod Supercell
-- a space group modulo the translations of a supercell, with numbered elements
pub mod Quotient
-- what the parts of a quotient's code take and give
pub mod QuotientParts
-- laws of the places of translations in a rising list
pub mod PlaceLaws
-- laws of lattice vectors as centring vectors and whole cell edges
pub mod TranslationLaws
-- the number of lattice translations inside a supercell
pub mod CountLaws
-- elements of a quotient by their rotation and translation
pub mod Elements
-- laws of supercells
pub mod SupercellLaws
-- laws of a group modulo a supercell
pub mod QuotientLaws
-- laws of elements of a quotient by their rotation and translation
pub mod ElementLaws
-- the multipliers of a group for the denominators of wave vectors
pub mod Multipliers
-- the axes that a group joins, by the first axis of each set of joined axes
pub mod FirstAxes
-- laws of joined axes
pub mod JoinedLaws
-- the first axes that links give
pub mod FirstAxesLaws
-- the motions that generate a quotient
pub mod MotionLaws
-- the generators of a quotient generate it
pub mod GeneratorLaws
-- laws of multipliers
pub mod MultiplierLaws
-- the table of the products of rotations
pub mod RotationTable
-- what contracts see of a numbering's fields
pub mod NumberingView
-- the squares of the elements of a quotient
pub mod Squares
-- what contracts see of a quotient's fields
pub mod QuotientView
-- the lattice translations inside a supercell that come before a point, in order of coordinates
pub mod TranslationsBefore
