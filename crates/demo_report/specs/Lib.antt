-- The modules, each behind those that it stands on.

-- the report of `demo`
pub mod DemoReport
-- what `demo` finds
pub mod DemoFound
-- what is found for `demo`, by the program's answer
pub mod FoundDemo
-- the pieces of the report of `demo`
pub mod DemoPieces
