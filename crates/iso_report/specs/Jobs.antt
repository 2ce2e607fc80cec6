-- The file that each job is about.
--
-- generated job: the number of the generated file that it is about, none where it is about the file of the source
-- HasNumber job: there is a generated file of that number
use Rattle.std.specs.Prelude.{ℕ, ◌<◌, Option, Some, None}
use Rattle.iso_report.specs.declared.job.Job.{Job}
use Rattle.iso_report.specs.declared.job.Job.TheVariants as job

-- `demo` is about a generated file
abbrev pub generated : Job → Option ℕ
generated job.Check = None
generated (job.List irrep after count tally) = None
generated (job.Modes direction) = None
generated job.Amps = None
generated (job.Couple irrep other after count) = None
generated (job.Link irrep other) = None
generated (job.Extra nature amps) = None
generated job.Apart = None
generated (job.Demo number) = Some number

-- their numbers are below 64
abbrev pub HasNumber : Job → Type 0
HasNumber job.Check = Unit {0}
HasNumber (job.List irrep after count tally) = Unit {0}
HasNumber (job.Modes direction) = Unit {0}
HasNumber job.Amps = Unit {0}
HasNumber (job.Couple irrep other after count) = Unit {0}
HasNumber (job.Link irrep other) = Unit {0}
HasNumber (job.Extra nature amps) = Unit {0}
HasNumber job.Apart = Unit {0}
HasNumber (job.Demo number) = number < 64
