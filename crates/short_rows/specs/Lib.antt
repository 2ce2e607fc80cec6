-- The modules, each behind those that it stands on.

-- what holds in a short type holds over K24
pub mod CarriedLaws
-- rows with one entry written
pub mod RowLaws
