-- The modules, each behind those that it stands on.

-- links between two representations
pub mod Links
-- representations whose entries are the lists of exact values
pub mod Listed
-- two actions of one group as one on pairs
pub mod Coupled
-- what the coupled action of two actions of one group obeys
pub mod CoupledLaws
-- what averages of matrices over a group obey
pub mod LinkLaws
-- square matrices of full rank
pub mod RankLaws
-- where the numbers of a link are wide
pub mod Wide
-- what the parts of the code of averages hold
pub mod AddedRows
-- averages whose rows are some of the first tell all
pub mod SpreadLaws
-- what a link between induced representations is
pub mod Found
