-- The commands, with the job that each makes of what its options were given.
--
-- commands: a row for each command
-- job_by given: the job, where what was given is as the tables say
use Rattle.std.specs.Prelude.{ℕ, Bool, true, false, List, [], ◌∷◌, Option, Some, None, is_some, nat_lt, codes, find, if◌then◌else◌, option_and_then, unwrap_or}
use Rattle.std.specs.List.{list_all}
use Rattle.std.specs.Option.{option_map}
use Rattle.std.specs.Str.{bytes_eq}
use Rattle.iso_text.specs.Digits.{decimal}
use Rattle.iso_cli.specs.Options.{Text, options, suits}
use Rattle.iso_cli.specs.Given.{command}
use Rattle.extra_modes.specs.declared.nature.Nature.TheVariants as nature
use Rattle.iso_report.specs.declared.job.Job.{Job}
use Rattle.iso_report.specs.declared.job.Job.TheVariants as job

-- the texts that were given, by name
abbrev pub Texts : Type 0
Texts = Text → Option Text

abbrev pub number_of : Texts → Text → Option ℕ
number_of given x = option_map decimal (given x)

abbrev pub is_tallied : Texts → Bool
is_tallied given = is_some (given (codes "tally"))

-- `--irrep` wants `--direction` beside it
abbrev pub modes_job : Option Text → Option ℕ → Option Job
modes_job irrep (Some n) = Some (job.Modes (Some (irrep, n)))
modes_job (Some name) None = None
modes_job None None = Some (job.Modes None)

abbrev pub demo_job : ℕ → Option Job
demo_job n = if nat_lt n 64 then Some (job.Demo n) else None

pub record Row : Type 0 where
  pub word : Text
  pub job : Texts → Option Job

abbrev pub row : Text → (Texts → Option Job) → Row
row word make = record { word = word; job = make }

abbrev pub commands : List Row
commands =
    row (codes "check") (λ given. Some job.Check)
    ∷ row (codes "list") (λ given. Some (job.List (given (codes "irrep")) (unwrap_or (number_of given (codes "after")) 0) (number_of given (codes "count")) (is_tallied given)))
    ∷ row (codes "modes") (λ given. modes_job (given (codes "irrep")) (number_of given (codes "direction")))
    ∷ row (codes "amps") (λ given. Some job.Amps)
    ∷ row (codes "demo") (λ given. option_and_then demo_job (number_of given (codes "number")))
    ∷ row (codes "couple") (λ given. option_map (λ other. job.Couple (given (codes "irrep")) other (unwrap_or (number_of given (codes "after")) 0) (number_of given (codes "count"))) (given (codes "with")))
    ∷ row (codes "link") (λ given. option_map (job.Link (given (codes "irrep"))) (given (codes "with")))
    ∷ row (codes "occ") (λ given. Some (job.Extra nature.Occupation false))
    ∷ row (codes "axial") (λ given. Some (job.Extra nature.Axial false))
    ∷ row (codes "occ-amps") (λ given. Some (job.Extra nature.Occupation true))
    ∷ row (codes "axial-amps") (λ given. Some (job.Extra nature.Axial true))
    ∷ row (codes "apart") (λ given. Some job.Apart)
    ∷ []

-- the job of the command in its row
abbrev pub job_named : Texts → Text → Option Job
job_named given word = option_and_then (λ r. r.job given) (find (λ r. bytes_eq word r.word) commands)

-- the job of a command, where each option suits it
abbrev pub job_of_command : Texts → Text → Option Job
job_of_command given word = if list_all (suits word given) options then job_named given word else None

-- the job that the texts make, where a command is among them
abbrev pub job_by : Texts → Option Job
job_by given = option_and_then (job_of_command given) (given command)
