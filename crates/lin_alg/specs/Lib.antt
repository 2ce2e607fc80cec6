-- The modules, each behind those that it stands on.

-- vectors over a field as functions of the column, and the spans of rows
pub mod Spans
-- reduced echelon forms with the pivot last
pub mod Reduced
-- rows as programs hold them, and the exact rows that they stand for
pub mod Rows
-- the written numbers of an insertion
pub mod Insertion
-- a row as an equation, and the equations of a subspace
pub mod Equations
-- forms compared, and fed to a hasher, by the entries of their rows alone
pub mod Compared
-- what contracts see of an echelon form
pub mod Echelon
-- what spans and reduced forms obey
pub mod SpanLaws
-- what the steps of an insertion do to spans and reduced forms
pub mod InsertLaws
-- a space over a field where no sum of ones is 0 is no finite union of proper subspaces
pub mod UnionLaws
-- what rows as equations obey
pub mod EquationLaws
-- what forms obey as equations
pub mod FormLaws
-- what free vectors obey
pub mod FreeLaws
-- what rows of a program obey as exact rows
pub mod RowLaws
-- what contracts see of a matrix, and the written numbers of a product
pub mod Matrix
-- matrices over a field as functions of row and column, both from 0
pub mod Matrices
-- matrices of blocks, where a test says which blocks aren't 0
pub mod Blocks
-- laws of traces
pub mod TraceLaws
-- what matrices of blocks obey
pub mod BlockLaws
-- products of matrices with factors
pub mod PhasedLaws
-- systems of linear equations
pub mod Solving
-- what solving rests on
pub mod SolvingLaws
-- finite groups that act by matrices of exact values
pub mod Action
-- fixed vectors and stabilisers, for any relation between elements and vectors, and for actions
pub mod Fixed
-- numbered groups that move the members of a type
pub mod Moves
-- images of vectors and of equations under an action
pub mod Images
-- what actions obey
pub mod ActionLaws
-- a subspace has a vector whose stabiliser is the pointwise stabiliser of the subspace
pub mod StabiliserLaws
-- fixed vectors and stabilisers are a Galois connection, for any relation between elements and vectors
pub mod FixedLaws
-- the rows of A(q) - 1 as equations of what q fixes
pub mod MoverLaws
-- what an element does to the vectors on which a form vanishes
pub mod WitnessLaws
-- what groups that move the members of a type obey
pub mod MoveLaws
-- what images of vectors and of equations obey
pub mod ImageLaws
-- how many rows a form has
pub mod LengthLaws
-- what comparing forms by the entries of their rows obeys
pub mod CompareLaws
-- independent rows
pub mod IndependenceLaws
