-- The modules, each behind those that it stands on.

-- places and rows of a table of matrices
pub mod TableLemmas
