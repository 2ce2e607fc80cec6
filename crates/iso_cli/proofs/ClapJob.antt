-- The job of what `clap` finds is the job of the words.
use Rattle.std.proofs.Common.{◌≡◌, ◌∙◌, inl, inr, true, List, [], ◌∷◌, Option, Some, None, refl, ap, sym, subst, true≢false}
use Rattle.std.specs.Prelude.{option_and_then}
use Rattle.clap.specs.Simple.{App, matches_of}
use Rattle.clap.specs.Faults.{fault_of}
use Rattle.clap.specs.Kinds.{HasKind, IsAmong, Kinds}
use Rattle.clap.specs.Values.{kind_of}
use Rattle.clap.specs.declared.error.Error.{Error}
use Rattle.clap.specs.declared.error.kind.ErrorKind.{ErrorKind}
use Rattle.clap.specs.declared.error.kind.ErrorKind.TheVariants as kind
use Rattle.iso_cli.specs.Options.{Text}
use Rattle.iso_cli.specs.Given.{Given}
use Rattle.iso_cli.specs.Commands.{job_by}
use Rattle.iso_cli.specs.JobOf.{IsMeaning, job_of}
use Rattle.iso_cli.specs.CommandLine.{declared, program, texts_found}
use Rattle.iso_report.specs.declared.job.Job.{Job}
use Rattle.iso_cli.proofs.Agree.{done_job, machine_job}
use Rattle.iso_cli.proofs.Finish.{Answered, clap_answers}
use Rattle.iso_cli.specs.ReadingLaws.{job_of-IsMeaning}
use Rattle.iso_cli.proofs.Machine.{run, start}
use Rattle.iso_cli.proofs.Settling.{fails}

clash : {A : Type 0} (kinds : Kinds) → kinds ≡ [] → fails kinds ≡ true → A
clash kinds none some = absurd (true≢false (sym some ∙ ap fails none))

-- where `clap` finds no fault, what it found makes the job of the words
abbrev FoundJob : App → Type 0
FoundJob app = (words : List Text) → fault_of app words ≡ [] → job_by (texts_found (matches_of app words)) ≡ job_of words

-- where it finds one, the words are usage
abbrev FaultUsage : App → Type 0
FaultUsage app = (words : List Text) → fails (fault_of app words) ≡ true → job_of words ≡ None

declared_job : FoundJob declared
declared_job words none = go (run start words) (clap_answers words) (machine_job words)
  where
    go : (o : Option (List Given)) → Answered words o → option_and_then done_job o ≡ job_of words → job_by (texts_found (matches_of declared words)) ≡ job_of words
    go None some e = clash (fault_of declared words) none some
    go (Some gives) h e = ap job_by h.1 ∙ e

declared_usage : FaultUsage declared
declared_usage words some = go (run start words) (clap_answers words) (machine_job words)
  where
    go : (o : Option (List Given)) → Answered words o → option_and_then done_job o ≡ job_of words → job_of words ≡ None
    go None h e = sym e
    go (Some gives) h e = clash (fault_of declared words) h.0 some

program_is : program ≡ declared
unfolding program
program_is = refl

pub found_job : FoundJob program
found_job = subst FoundJob (sym program_is) declared_job

pub fault_usage : FaultUsage program
fault_usage = subst FaultUsage (sym program_is) declared_usage

among_some : (k : ErrorKind) (kinds : Kinds) → IsAmong k kinds → fails kinds ≡ true
among_some k [] h = absurd h
among_some k (x ∷ kinds) h = refl

pub usage_job : (words : List Text) (e : Error) → HasKind (fault_of program words) e → (kind_of e ≡ kind.OutOfMemory → ⊥) → None ≡ job_of words
usage_job words e (inl memory) other = absurd (other memory)
usage_job words e (inr among) other = sym (fault_usage words (among_some (kind_of e) (fault_of program words) among))

-- the job of the words is their answer
pub meaning : (words : List Text) (job : Option Job) → job ≡ job_of words → IsMeaning words job
meaning words job is = subst (IsMeaning words) (sym is) (job_of-IsMeaning words)
