-- The modules, each behind those that it stands on.

-- numbers at the atoms of an orbit, and how the elements of a group move them
pub mod AtomSpace
-- projections by weights, their ranges, and sums of ranges
pub mod Projection
-- the modes of an orbit
pub mod Modes
-- what the matrices of a space obey
pub mod AtomSpaceLaws
-- what projections obey
pub mod ProjectionLaws
-- spans of lists of vectors
pub mod ListLaws
-- what rows that are kept where they are new obey
pub mod KeptLaws
-- the matrices of elements multiply as the quotient does
pub mod QuantityLaws
-- the modes of an orbit are a basis
pub mod ModeLaws
-- the modes of an irrep for a direction
pub mod DirectionModes
-- two tables of one group that moves numbers at atoms
pub mod OneBasis
-- the modes of an orbit, and those of an irrep for a direction, are one answer
pub mod OneBasisLaws
-- where the numbers of the modes of an orbit are wide
pub mod Wide
-- weights of the irreps
pub mod Weights
-- what contracts see of the modes of an orbit
pub mod ModesView
-- what the code of modes holds of a space
pub mod Turns
-- what the parts of the code of modes give
pub mod Parts
-- weights whose projection is idempotent but for a factor, and the rank that its trace tells
pub mod Scaled
-- modes as the code holds them, with the reduced form of their span
pub mod Joined
-- where the parts of the code of modes are wide
pub mod WideParts
-- what contracts see of the fields of modes
pub mod ModesInside
-- what the parts of the code of a direction's modes give
pub mod DirectionParts
-- amplitudes: the factors of modes whose sum is a given vector
pub mod Amplitudes
-- what amplitudes obey
pub mod AmplitudeLaws
-- what the parts of the code of amplitudes give
pub mod AmplitudeParts
-- amplitudes of the modes of an orbit
pub mod OrbitAmplitudes
-- modes of irreps that are apart
pub mod ApartModes
-- the form that the elements of a group keep, and projections by even weights
pub mod InvariantFormLaws
-- what modes of irreps that are apart obey
pub mod ApartLaws
