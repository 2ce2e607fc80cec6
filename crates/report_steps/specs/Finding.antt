-- What is found for a job and a file's bytes.
--
-- Finding: a report's bytes, or a refusal
use Rattle.std.specs.Prelude.{ℕ, List}
use Rattle.report_steps.specs.declared.refusal.Refusal.{Refusal}

pub data Finding : Type 0 where
  report : (bytes : List ℕ) → Finding
  refused : (cause : Refusal) → Finding
