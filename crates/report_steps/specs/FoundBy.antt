-- What is found by the program's answer at a step.
--
-- finding_by text step: the report that text writes of a value that passed, or the refusal
-- FindsBy text held next step: the finding is one of next, and what passed is held
use Rattle.std.specs.Prelude.{ℕ, List}
use Rattle.report_steps.specs.declared.step.Step.{Step}
use Rattle.report_steps.specs.declared.step.Step.TheVariants as step
use Rattle.report_steps.specs.Finding.{Finding, report, refused}
use Rattle.report_steps.specs.Steps.{IfPassed}

-- the report of a value that passed, or the refusal
abbrev pub finding_by : {T : Type 0} → (T → List ℕ) → Step T → Finding
finding_by text (step.Passed x) = report (text x)
finding_by text (step.Refused r) = refused r

-- the finding is one of next, and what passed is held
abbrev pub FindsBy : {T : Type 0} → (T → List ℕ) → (T → Type 0) → (Finding → Type 0) → Step T → Type 0
FindsBy text held next answer = next (finding_by text answer) × IfPassed answer held
