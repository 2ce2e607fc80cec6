-- The steps of the work on a file, one after the other.
--
-- After refuses wide passes next a f: a step at a, and behind it what comes next
-- never: no family of numbers is wide
-- OrWide refuses wide a r: the step refuses with r, or a number of a family passes its bound and r says so
-- Answers refuses passes step: the program's answer at a step
-- IfPassed step P: what holds of a value that passed
use Rattle.std.specs.Prelude.{◌≡◌, ◌⊎◌, ℕ}
use Rattle.report_steps.specs.declared.refusal.Refusal.{Refusal}
use Rattle.report_steps.specs.declared.refusal.Refusal.TheVariants as refusal
use Rattle.report_steps.specs.declared.step.Step.{Step}
use Rattle.report_steps.specs.declared.step.Step.TheVariants as step
use Rattle.report_steps.specs.Finding.{Finding, refused}

-- the step refuses a, or a number of a family passes its bound, or a value passes and the next step finds f
abbrev pub After : {A B : Type 0} → (A → Refusal → Type 0) → (A → ℕ → Type 0) → (A → B → Type 0) → (B → Finding → Type 0) → A → Finding → Type 0
After {A} {B} refuses wide passes next a f =
    ((r : Refusal) × refuses a r × (f ≡ refused r)) ⊎ (((k : ℕ) × wide a k × (f ≡ refused (refusal.Wide k))) ⊎ ((b : B) × passes a b × next b f))

-- no family of numbers is wide
abbrev pub never : {A : Type 0} → A → ℕ → Type 0
never a k = ⊥

-- a refusal of the step, or that a number of a family passes its bound
abbrev pub OrWide : {A : Type 0} → (A → Refusal → Type 0) → (A → ℕ → Type 0) → A → Refusal → Type 0
OrWide refuses wide a r = refuses a r ⊎ ((k : ℕ) × wide a k × (r ≡ refusal.Wide k))

-- the program's answer at a step: a refusal that the step gives, or a value that passes it
abbrev pub Answers : {B : Type 0} → (Refusal → Type 0) → (B → Type 0) → Step B → Type 0
Answers refuses passes (step.Passed b) = passes b
Answers refuses passes (step.Refused r) = refuses r

-- what holds of a value that passed
abbrev pub IfPassed : {B : Type 0} → Step B → (B → Type 0) → Type 0
IfPassed (step.Passed b) P = P b
IfPassed (step.Refused r) P = Unit {0}
