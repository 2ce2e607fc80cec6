-- What `clap` does on this command line, as a machine over what was given: it takes up an option that has its text only when the next thing comes.
--
-- run st words: what the words give from this state on, or none where `clap` refuses them
use Rattle.std.proofs.Common.{Bool, true, false, List, [], ◌∷◌, ◌++◌, map, Option, Some, None, codes}
use Rattle.std.specs.Prelude.{if◌then◌else◌, option_and_then, option_map, is_some, slice_get}
use Rattle.std.specs.Str.{chars}
use Rattle.clap.specs.Walk.{Held, Row, Walk, Waiting, idle, option}
use Rattle.clap.specs.Lexer.{short_of}
use Rattle.clap.specs.declared.builder.value_parser.Reading.TheVariants.{AsWritten}
use Rattle.clap.specs.declared.parser.matches.ValueSource.TheVariants.{CommandLine}
use Rattle.iso_cli.specs.Options.{Text, takes_text, stands_alone}
use Rattle.iso_cli.specs.Given.{Given, command, is_given}
use Rattle.iso_cli.specs.JobOf.{Look, ends, joined, named, hyphen, plain, look}

-- what was given last, and isn't taken up: an option without its text, or a thing with it
pub data Pending : Type 0 where
  none : Pending
  waits : Text → Pending
  holds : Given → Pending

pub record State : Type 0 where
  pub done : List Given
  pub pend : Pending
  -- the command was given
  pub taken : Bool
  pub trailing : Bool

abbrev pub settle_in : List Given → Pending → Option (List Given)
settle_in done none = Some done
settle_in done (waits x) = None
settle_in done (holds g) = if is_given g.0 done then None else Some (done ++ g ∷ [])

abbrev pub settle : State → Option (List Given)
settle st = settle_in st.done st.pend

abbrev pub use_in : State → Given → List Given → Option State
use_in st g done = if is_given g.0 done then None else Some (record st { done = done ++ g ∷ []; pend = none })

abbrev pub wait_in : State → Text → List Given → State
wait_in st x done = record st { done = done; pend = waits x }

abbrev pub operand_in : State → Text → List Given → State
operand_in st word done = record st { done = done; pend = holds (command, word); taken = true }

abbrev pub operand : State → Text → Option State
operand st word = if st.taken then None else option_map (operand_in st word) (settle st)

abbrev pub plain_in : Pending → State → Text → Option State
plain_in (waits x) st word = Some (record st { pend = holds (x, word) })
plain_in _ st word = operand st word

-- `clap` sees a flag behind a hyphen; in bytes that aren't UTF-8 it may see none
abbrev pub has_flag : Option Text → Bool
has_flag None = false
has_flag (Some flags) = is_some (slice_get (chars flags) 0)

abbrev pub step_by : Look → State → Text → Option State
step_by ends st word = Some (record st { trailing = true })
step_by (joined x v) st word = if takes_text x then option_and_then (use_in st (x, v)) (settle st) else None
step_by (named x) st word = if takes_text x then option_map (wait_in st x) (settle st) else (if stands_alone x then option_and_then (use_in st (x, codes "true")) (settle st) else None)
step_by hyphen st word = if has_flag (short_of word) then None else plain_in st.pend st word
step_by plain st word = plain_in st.pend st word

abbrev pub step : State → Text → Option State
step st word = if st.trailing then operand st word else step_by (look word) st word

unfoldable pub run : State → List Text → Option (List Given)
run st [] = settle st
run st (word ∷ rest) = option_and_then (λ n. run n rest) (step st word)

abbrev pub start : State
start = record { done = []; pend = none; taken = false; trailing = false }

-- ---- where `clap` stands

abbrev pub row_of_given : Given → Row
row_of_given g = record { id = g.0; values = g.1 ∷ []; count = None; source = Some CommandLine; reading = AsWritten }

abbrev pub rows_of_given : List Given → List Row
rows_of_given = map row_of_given

abbrev pub pending_in : Pending → Option (Text × List Text)
pending_in none = None
pending_in (waits x) = Some (x, [])
pending_in (holds g) = Some (g.0, g.1 ∷ [])

abbrev pub waiting_in : Pending → Waiting
waiting_in (waits x) = option x
waiting_in _ = idle

abbrev pub held_in : List Given → Pending → Held
held_in done pend = record { rows = rows_of_given done; pending = pending_in pend; skip = 0 }

abbrev pub walk_at : State → Walk
walk_at st = record { held = held_in st.done st.pend; waiting = waiting_in st.pend; position = if st.taken then 2 else 1; is_trailing = st.trailing; stopped = None }
