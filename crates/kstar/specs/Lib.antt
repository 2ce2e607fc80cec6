-- The modules, each behind those that it stands on.

-- wave vectors as rows of whole numbers
pub mod WaveVector
-- expressions for three rows, a column and two matrices, for the ring solver
pub mod RowExpressions
-- laws of wave vectors
pub mod WaveVectorLaws
-- fractions of wave vectors, and their rows in twelfths
pub mod Fraction
-- the little group and the star of a wave vector
pub mod Star
-- the rows from which a star is made
pub mod Rows
-- laws of phases
pub mod PhaseLaws
-- laws of images
pub mod ImageLaws
-- laws of the little group
pub mod LittleLaws
-- what can be decided of rows, and first numbers
pub mod DecisionLaws
-- laws of the arms of a star, by the numbers of their representatives
pub mod ArmLaws
-- how operations move the arms of a star
pub mod Moves
-- the orders of little group and star multiply to the number of rotations
pub mod OrderLaws
-- laws of the star of a wave vector
pub mod StarLaws
-- laws of the moves of arms
pub mod MoveLaws
-- what contracts see of a star's fields
pub mod StarView
