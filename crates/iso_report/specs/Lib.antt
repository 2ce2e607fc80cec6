-- The modules, each behind those that it stands on.

-- the file that each job is about
pub mod Jobs
-- the report of `check`
pub mod Check
-- what the definitions say for a job, watchers and the bytes of a source, step by step in the order of refusals
pub mod Outcome
-- what the definition of an outcome settles, for any bytes of a source
pub mod OutcomeLaws
-- how work on a file ends, and what it then leaves
pub mod Endings
