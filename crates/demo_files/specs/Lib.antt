-- The modules, each behind those that it stands on.

-- the demo file of a number
pub mod Demo
