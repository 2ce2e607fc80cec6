-- The modules, each behind those that it stands on.

-- what is found for a job and a file's bytes
pub mod Finding
-- the steps of the work on a file, one after the other
pub mod Steps
-- the law of a step
pub mod StepLaws
-- what is found by the program's answer at a step
pub mod FoundBy
-- what is found behind a step, by the program's answers
pub mod FindingLaws
-- what the steps of the work have found of a file so far, each with all that came before
pub mod Contexts
-- the lattice and the generators that a file gives its parent group, by a Hall symbol or by operations
pub mod Generators
-- how every irrep of a file is judged
pub mod IrrepSteps
-- what is known of two lists whose items at one place are related
pub mod EachLaws
-- the numbered steps over the irreps of a file
pub mod Irreps
-- the wave vector of an irrep is its row of twelfths
pub mod WaveLaws
-- what an irrep of a file induces is one
pub mod InducedLaws
-- the numbered steps of the work on a file
pub mod Stages
-- the texts of fractions
pub mod Fractions
-- the texts of places
pub mod Places
-- the lines of operations in a report
pub mod OpLines
-- what is told of an irrep
pub mod IrrepReport
-- what the program holds of a file
pub mod Held
pub mod HeldFiles
-- the texts of refusals
pub mod Report
