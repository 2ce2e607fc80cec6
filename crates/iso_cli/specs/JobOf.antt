-- The job of the words of the command line, or usage.
--
-- IsJob words job: the words have this job
-- IsMeaning words answer: the answer is their job, or none where they have none: usage
-- job_of words: the answer
-- texts_of words, command_words arguments: the words, and those behind the program's name, as texts
use Rattle.std.specs.Prelude.{◌≡◌, ◌==◌, ℕ, Bool, List, [], ◌∷◌, map, Option, Some, None, if◌then◌else◌, option_and_then, codes, String, drop, string_bytes}
use Rattle.std.specs.List.{before_first, after_first, list_any}
use Rattle.std.specs.Option.{option_map}
use Rattle.std.specs.Borrow.{Bor}
use Rattle.iso_cli.specs.Options.{Text, takes_text, stands_alone}
use Rattle.iso_cli.specs.Given.{Given, Reads, command, is_once, text_given, to_command}
use Rattle.iso_cli.specs.Commands.{job_by}
use Rattle.iso_report.specs.declared.job.Job.{Job}

-- the job of what the words give
abbrev pub job_from : List Given → Option Job
job_from gives = if is_once gives then job_by (text_given gives) else None

-- the words have this job
abbrev pub IsJob : List Text → Job → Type 0
IsJob words job = (gives : List Given) × Reads words gives × (job_from gives ≡ Some job)

-- the answer is the job of the words, or none where they have none: usage
abbrev pub IsMeaning : List Text → Option Job → Type 0
IsMeaning words (Some job) = IsJob words job
IsMeaning words None = (job : Job) → IsJob words job → ⊥

-- ---- the same, worked out

-- what a word looks like: `--`, `--x=v`, `--x`, another that begins with `-`, or none of these
pub data Look : Type 0 where
  ends : Look
  joined : Text → Text → Look
  named : Text → Look
  hyphen : Look
  plain : Look

-- 61 is `=`
abbrev pub is_equals : ℕ → Bool
is_equals c = c == 61

-- what follows `--`
abbrev pub long_look : Text → Look
long_look [] = ends
long_look (c ∷ cs) = if list_any is_equals (c ∷ cs) then joined (before_first is_equals (c ∷ cs)) (after_first is_equals (c ∷ cs)) else named (c ∷ cs)

-- what follows `-`
abbrev pub short_look : Text → Look
short_look [] = hyphen
short_look (c ∷ cs) = if c == 45 then long_look cs else hyphen

abbrev pub look : Text → Look
look [] = plain
look (c ∷ cs) = if c == 45 then short_look cs else plain

abbrev pub before : Given → Option (List Given) → Option (List Given)
before g gives = option_map (λ gs. g ∷ gs) gives

-- a word by its look, and then the words behind it, with the option that waits for the next one
abbrev pub read_word : Look → Text → List Given → (Option Text → Option (List Given)) → Option (List Given)
read_word ends word rest next = Some rest
read_word (joined x v) word rest next = if takes_text x then before (x, v) (next None) else None
read_word (named x) word rest next = if takes_text x then next (Some x) else (if stands_alone x then before (x, codes "true") (next None) else None)
read_word hyphen word rest next = None
read_word plain word rest next = before (command, word) (next None)

-- what the words give, with the option that waits for its text
abbrev pub reading : Option Text → List Text → Option (List Given)
reading None [] = Some []
reading (Some x) [] = None
reading None (word ∷ rest) = read_word (look word) word (map to_command rest) (λ waiting. reading waiting rest)
reading (Some x) (word ∷ rest) = before (x, word) (reading None rest)

-- the job of the words, or none: usage
unfoldable pub job_of : List Text → Option Job
job_of words = option_and_then job_from (reading None words)

abbrev pub texts_of : List (Bor Text) → List Text
texts_of = map (λ word. word.now)

-- the words behind the program's name, which is the first argument
abbrev pub command_words : {A : Type 0} → List (String A) → List Text
command_words arguments = map string_bytes (drop 1 arguments)
