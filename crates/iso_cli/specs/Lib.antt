-- The modules, each behind those that it stands on.

-- the table of the options, and what each of them wants
pub mod Options
-- what the words of the command line give, read from left to right
pub mod Given
-- the table of the commands, each with the job that it makes of what was given
pub mod Commands
-- the job of the words of the command line, or usage
pub mod JobOf
-- what a word looks like, by the rules of reading
pub mod LookLaws
-- the words have one job at most, and `job_of` works it out
pub mod ReadingLaws
-- usage, cause by cause
pub mod Usage
-- the line that says how the program is used
pub mod UsageLine
-- the command line as `clap` is told of it
pub mod CommandLine
-- what the options of a command line give, read
pub mod Values
-- what the job of the words reads of the source
pub mod Reading
-- what a call of the program leaves on its streams, by its status
pub mod Answers
-- the exit statuses
pub mod Status
