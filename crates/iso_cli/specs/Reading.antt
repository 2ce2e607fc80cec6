-- What the job of the words reads of the source.
--
-- reading_job_of words: the job of the words, where it is about the file of the source
-- taken_by job left: all the bytes that a job takes of those that are left, where the source tells them
use Rattle.std.specs.Prelude.{ℕ, List, [], Option, Some, None, is_some, if◌then◌else◌, option_and_then}
use Rattle.iso_report.specs.declared.job.Job.{Job}
use Rattle.iso_report.specs.Jobs.{generated}
use Rattle.iso_cli.specs.Options.{Text}
use Rattle.iso_cli.specs.JobOf.{job_of}

-- a job about a generated file reads nothing
abbrev pub if_reading : Job → Option Job
if_reading job = if is_some (generated job) then None else Some job

abbrev pub reading_job_of : List Text → Option Job
reading_job_of words = option_and_then if_reading (job_of words)

-- none, for a job about a generated file
abbrev pub taken_by : Job → Option (List ℕ) → Option (List ℕ)
taken_by job left = if is_some (generated job) then Some [] else left
