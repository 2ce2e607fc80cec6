-- The modules, each behind those that it stands on.

-- complex vectors as real ones of twice as many entries
pub mod Parts
-- the span of an orbit, and the first candidate whose span has a dimension
pub mod Orbits
-- bases of real forms, and matrices in them
pub mod Bases
-- the 24th cyclotomic field as complex numbers over its real subfield
pub mod Complexes
-- the vectors whose orbits are tried
pub mod Candidates
-- where the numbers of a real form are wide
pub mod Wide
-- rows of products of matrices that stand one below the other
pub mod Products
-- the basis of a real form, and where its numbers are wide
pub mod RealBasis
-- what a form holds while the images of an orbit are inserted
pub mod Spanned
-- rows as a real form holds them
pub mod Vectors
-- vectors that are 0 but at two places, and translations whose images of them are combinations of others
pub mod Sparse
-- candidates of which a translation moves one to a multiple of the other
pub mod Shifts
-- the group that acts by kept matrices
pub mod Actions
-- what a real form keeps
pub mod Held
-- bases of spaces that a quotient keeps, as programs hold them
pub mod KeptBasis
-- what contracts see of a real form
pub mod RealForm
