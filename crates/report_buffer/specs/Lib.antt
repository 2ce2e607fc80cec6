-- The modules, each behind those that it stands on.

-- what a buffer passes on to a sink
pub mod Passing
-- the pieces of a report that are made of a list
pub mod PieceLaws
