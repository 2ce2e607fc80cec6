-- The modules, each behind those that it stands on.

-- columns of three numbers, and 3 by 3 matrices, over a ring
pub mod Matrix
-- laws of matrices and columns over a commutative ring
pub mod MatrixLaws
-- Seitz operations {R|t}, x' = R x + t, over a ring
pub mod Seitz
-- operations as Seitz operations over the whole numbers, translations in twelfths
pub mod Op
-- bounds on the absolute values of whole numbers
pub mod WithinLaws
-- laws of the product and the inverse of operations
pub mod OpLaws
-- the printed text of an operation, as `-x+y,-x,z+2/3`
pub mod OpText
-- the lattices of the Hall symbols, by their letters and by their centring vectors in twelfths of a cell edge
pub mod Lattice
-- lattices and their letters belong to each other
pub mod LetterLaws
-- words over generators, their inverses and lattice translations
pub mod Words
-- lattice vectors are a group under addition
pub mod LatticeLaws
-- words are a group
pub mod WordLaws
-- the least translation of a rotation, modulo the lattice
pub mod LeastShift
-- laws of least translations
pub mod LeastShiftLaws
-- the order of a group's operations
pub mod Order
-- the parent group of a list of generators and a lattice, as the list of its operations
pub mod Group
-- how the operations of a group are found
pub mod Closing
-- what contracts see of a group's fields
pub mod GroupView
-- laws of a listed group
pub mod GroupLaws
-- a group has one list
pub mod ListUniqueLaws
-- members of a listed group
pub mod Member
-- laws of members of a listed group
pub mod MemberLaws
-- operations as a group
pub mod OpGroup
-- laws of operations as a group
pub mod OpGroupLaws
