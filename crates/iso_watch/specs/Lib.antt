-- The modules, each behind those that it stands on.

-- watchers as contracts see them, and what they are told
pub mod Watchers
-- counts of directions by their dimension
pub mod Tally
-- counts of directions up to a limit
pub mod Upto
-- what pages that are told obey
pub mod WatchersLaws
