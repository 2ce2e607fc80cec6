-- The modules, each behind those that it stands on.

-- small representations of the little group of a wave vector k
pub mod SmallRep
-- the matrices of the members of the little group
pub mod LittleMatrixLaws
-- why matrices of a little group are no small representation
pub mod Check
-- how the `mat` lines of an irrep block give the matrices of a little group
pub mod Reading
-- errors of linear algebra as errors of small representations
pub mod Errors
-- the products of ordered pairs of rotations of the little group, as a table
pub mod Pairs
-- a small representation as it was read
pub mod Rep
-- what contracts see of a small representation's fields
pub mod RepView
-- a product of square matrices compared with a multiple of a third one, entry by entry
pub mod Products
-- lines that were read so far, as lists of rotations and matrices
pub mod LinesRead
-- the conditions of a small representation, by its table of pairs
pub mod RepCheck
-- the conditions by the table of pairs are those of the group and the star
pub mod RepCheckLaws
-- what contracts see of an accepted representation's fields
pub mod CheckedView
