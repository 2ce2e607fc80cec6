-- The machine's job is the job of the words.
use Rattle.std.proofs.Common.{◌≡◌, ◌∙◌, Bool, true, false, List, [], ◌∷◌, ◌++◌, map, Option, Some, None, codes, refl, ap, sym, subst, append-nil, append_assoc, true≢false}
use Rattle.std.specs.Prelude.{◌==◌, if◌then◌else◌, option_and_then, option_map}
use Rattle.std.specs.Str.{bytes_eq}
use Rattle.clap.specs.Lexer.{short_of}
use Rattle.iso_cli.specs.Options.{Text, stands_alone, takes_text}
use Rattle.iso_cli.specs.Given.{Given, begins_with_hyphen, command, is_given, is_once, text_given, to_command}
use Rattle.iso_cli.specs.Commands.{job_by}
use Rattle.iso_cli.specs.JobOf.{Look, ends, joined, named, hyphen, plain, before, job_from, job_of, look, read_word, reading, short_look}
use Rattle.iso_report.specs.declared.job.Job.{Job}
use Rattle.iso_cli.proofs.Machine.{Pending, none, waits, holds, State, has_flag, operand, plain_in, run, settle_in, start, step_by, use_in, wait_in}
use Rattle.iso_cli.proofs.NoJob.{IsNoJob, given_last, given_later, if_same, no_job_command, no_job_twice, no_job_value, once_more, same_text}
use Rattle.iso_cli.proofs.Steps.{state}

-- ---- the machine

abbrev given_in : List Given → Pending → List Given
given_in done (holds g) = done ++ g ∷ []
given_in done _ = done

-- the job of what was given and of what the words behind give
abbrev after : List Given → Option (List Given) → Option Job
after gives more = option_and_then (λ m. job_from (gives ++ m)) more

abbrev rest_in : Pending → Bool → List Text → Option (List Given)
rest_in (waits x) true words = None
rest_in (waits x) false words = reading (Some x) words
rest_in _ true words = Some (map to_command words)
rest_in _ false words = reading None words

abbrev pub done_job : List Given → Option Job
done_job gives = job_by (text_given gives)

-- nothing is given twice, and a command is taken where it is given
record IsSound (done : List Given) (pend : Pending) (taken : Bool) : Type 0 where
  once : is_once done ≡ true
  has_command : taken ≡ is_given command (given_in done pend)
  known : (x : Text) → pend ≡ waits x → takes_text x ≡ true

after_dead : (gives : List Given) → ((more : List Given) → IsNoJob (gives ++ more)) → (o : Option (List Given)) → after gives o ≡ None
after_dead gives d None = refl
after_dead gives d (Some more) = d more

after_before : (gives : List Given) (g : Given) (o : Option (List Given)) → after gives (before g o) ≡ after (gives ++ g ∷ []) o
after_before gives g None = refl
after_before gives g (Some more) = ap job_from (sym (append_assoc gives (g ∷ []) more))

after_twice : (gives : List Given) (g : Given) (o : Option (List Given)) → is_given g.0 gives ≡ true → after gives (before g o) ≡ None
after_twice gives g None e = refl
after_twice gives g (Some more) e = no_job_twice gives g more e

after_value : (gives : List Given) (x v : Text) (o : Option (List Given)) → takes_text x ≡ true → begins_with_hyphen v ≡ true → after gives (before (x, v) o) ≡ None
after_value gives x v None known e = refl
after_value gives x v (Some more) known e = no_job_value gives x v more known e

after_command : (gives : List Given) (word : Text) (o : Option (List Given)) → begins_with_hyphen word ≡ true → after gives (before (command, word) o) ≡ None
after_command gives word None e = refl
after_command gives word (Some more) e = no_job_command gives word more e

-- what was given last is taken up, or stands twice
data Turn (done : List Given) (pend : Pending) : Type 0 where
  up : settle_in done pend ≡ Some (given_in done pend) → is_once (given_in done pend) ≡ true → Turn done pend
  dead : settle_in done pend ≡ None → ((more : List Given) → IsNoJob (given_in done pend ++ more)) → Turn done pend

abbrev is_waiting : Pending → Bool
is_waiting (waits x) = true
is_waiting _ = false

turn : (done : List Given) (pend : Pending) → is_once done ≡ true → is_waiting pend ≡ false → Turn done pend
turn done none once idle = up refl once
turn done (waits x) once idle = absurd (cc)
turn done (holds g) once idle = go (is_given g.0 done) refl
  where
    go : (b : Bool) → is_given g.0 done ≡ b → Turn done (holds g)
    go true e = dead (rw e refl) (λ more. ap job_from (append_assoc done (g ∷ []) more) ∙ no_job_twice done g more e)
    go false e = up (rw e refl) (once_more done g once e)

waits_same : (x y : Text) → waits x ≡ waits y → x ≡ y
waits_same x y e = cc

abbrev is_plain : Look → Bool
is_plain plain = true
is_plain _ = false

rest_idle : (pend : Pending) (rest : List Text) → is_waiting pend ≡ false → rest_in pend true rest ≡ Some (map to_command rest)
rest_idle none rest idle = refl
rest_idle (holds g) rest idle = refl
rest_idle (waits x) rest idle = absurd (cc)

plain_idle : (pend : Pending) (st : State) (word : Text) → is_waiting pend ≡ false → plain_in pend st word ≡ operand st word
plain_idle none st word idle = refl
plain_idle (holds g) st word idle = refl
plain_idle (waits x) st word idle = absurd (cc)

-- no option is called `command`
no_option_is_command : (test : Text → Bool) → test command ≡ false → (x : Text) → test x ≡ true → bytes_eq x command ≡ false
no_option_is_command test free x e = go (bytes_eq x command) refl
  where
    go : (b : Bool) → bytes_eq x command ≡ b → b ≡ false
    go true same = absurd (true≢false (sym e ∙ ap test (same_text x command same) ∙ free))
    go false same = refl

text_is_no_command : (x : Text) → takes_text x ≡ true → bytes_eq x command ≡ false
text_is_no_command = no_option_is_command takes_text refl

flag_is_no_command : (x : Text) → stands_alone x ≡ true → bytes_eq x command ≡ false
flag_is_no_command = no_option_is_command stands_alone refl

-- what the machine's job is from a state on
abbrev from : List Text → Option State → Option Job
from rest o = option_and_then done_job (option_and_then (λ n. run n rest) o)

-- ---- one word, where the words behind it agree

abbrev Agrees : List Text → Type 0
Agrees words = (done : List Given) (pend : Pending) (taken trailing : Bool) → IsSound done pend taken → option_and_then done_job (run (state done pend taken trailing) words) ≡ after (given_in done pend) (rest_in pend trailing words)

module _ (rest : List Text) (behind : Agrees rest) where
  operand_agrees : (done : List Given) (pend : Pending) (taken trailing : Bool) (word : Text) → IsSound done pend taken → Turn done pend
      → from rest (operand (state done pend taken trailing) word) ≡ after (given_in done pend) (before (command, word) (rest_in (holds (command, word)) trailing rest))
  operand_agrees done pend true trailing word sound t = sym (after_twice (given_in done pend) (command, word) _ (sym sound.has_command))
  operand_agrees done pend false trailing word sound (dead e d) = rw e (sym (after_dead (given_in done pend) d _))
  operand_agrees done pend false trailing word sound (up e once) =
      let next : IsSound (given_in done pend) (holds (command, word)) true = record { once = once; has_command = sym (given_later command (given_in done pend) (command, word) [] refl); known = λ x e. absurd (cc) } in
      rw e (behind (given_in done pend) (holds (command, word)) true trailing next ∙ sym (after_before (given_in done pend) (command, word) _))

  use_agrees : (done : List Given) (pend : Pending) (taken : Bool) (g : Given) → IsSound done pend taken → bytes_eq g.0 command ≡ false → Turn done pend
      → from rest (option_and_then (use_in (state done pend taken false) g) (settle_in done pend)) ≡ after (given_in done pend) (before g (reading None rest))
  use_agrees done pend taken g sound other (dead e d) = rw e (sym (after_dead (given_in done pend) d _))
  use_agrees done pend taken g sound other (up e once) = rw e (go (is_given g.0 (given_in done pend)) refl)
    where
      gives : List Given
      gives = given_in done pend

      go : (b : Bool) → is_given g.0 gives ≡ b → from rest (if b then None else Some (state (gives ++ g ∷ []) none taken false)) ≡ after gives (before g (reading None rest))
      go true twice = sym (after_twice gives g _ twice)
      go false new =
          let next : IsSound (gives ++ g ∷ []) none taken = record { once = once_more gives g once new; has_command = sound.has_command ∙ sym (given_last command gives g other); known = λ x e. absurd (cc) } in
          behind (gives ++ g ∷ []) none taken false next ∙ sym (after_before gives g _)

  wait_agrees : (done : List Given) (pend : Pending) (taken : Bool) (x : Text) → takes_text x ≡ true → IsSound done pend taken → Turn done pend
      → from rest (option_map (wait_in (state done pend taken false) x) (settle_in done pend)) ≡ after (given_in done pend) (reading (Some x) rest)
  wait_agrees done pend taken x known sound (dead e d) = rw e (sym (after_dead (given_in done pend) d _))
  wait_agrees done pend taken x known sound (up e once) =
      let next : IsSound (given_in done pend) (waits x) taken = record { once = once; has_command = sound.has_command; known = λ y e. subst (λ z. takes_text z ≡ true) (waits_same x y e) known } in
      rw e (behind (given_in done pend) (waits x) taken false next)

  text_agrees : (done : List Given) (x : Text) (taken : Bool) (word : Text) → IsSound done (waits x) taken
      → from rest (Some (state done (holds (x, word)) taken false)) ≡ after done (before (x, word) (reading None rest))
  text_agrees done x taken word sound =
      let next : IsSound done (holds (x, word)) taken = record { once = sound.once; has_command = sound.has_command ∙ sym (given_last command done (x, word) (text_is_no_command x (sound.known x refl))); known = λ y e. absurd (cc) } in
      behind done (holds (x, word)) taken false next ∙ sym (after_before done (x, word) _)

  -- a word where an option waits for its text
  waiting_word : (l : Look) (done : List Given) (x : Text) (taken : Bool) (word : Text) → IsSound done (waits x) taken → (is_plain l ≡ false → begins_with_hyphen word ≡ true)
      → from rest (step_by l (state done (waits x) taken false) word) ≡ after done (before (x, word) (reading None rest))
  waiting_word ends done x taken word sound h = behind done (waits x) taken true sound ∙ sym (after_value done x word _ (sound.known x refl) (h refl))
  waiting_word (joined y v) done x taken word sound h = ap (from rest) (if_same (takes_text y) None) ∙ sym (after_value done x word _ (sound.known x refl) (h refl))
  waiting_word (named y) done x taken word sound h = ap (from rest) (ap (λ o. if takes_text y then None else o) (if_same (stands_alone y) None) ∙ if_same (takes_text y) None) ∙ sym (after_value done x word _ (sound.known x refl) (h refl))
  waiting_word hyphen done x taken word sound h = go (has_flag (short_of word))
    where
      go : (b : Bool) → from rest (if b then None else Some (state done (holds (x, word)) taken false)) ≡ after done (before (x, word) (reading None rest))
      go true = sym (after_value done x word _ (sound.known x refl) (h refl))
      go false = text_agrees done x taken word sound
  waiting_word plain done x taken word sound h = text_agrees done x taken word sound

  -- a word where none waits
  idle_word : (l : Look) (done : List Given) (pend : Pending) (taken : Bool) (word : Text) → is_waiting pend ≡ false → IsSound done pend taken → (is_plain l ≡ false → begins_with_hyphen word ≡ true)
      → from rest (step_by l (state done pend taken false) word) ≡ after (given_in done pend) (read_word l word (map to_command rest) (λ waiting. reading waiting rest))
  idle_word ends done pend taken word idle sound h = behind done pend taken true sound ∙ ap (after (given_in done pend)) (rest_idle pend rest idle)
  idle_word (joined x v) done pend taken word idle sound h = go (takes_text x) refl
    where
      go : (b : Bool) → takes_text x ≡ b → from rest (if b then option_and_then (use_in (state done pend taken false) (x, v)) (settle_in done pend) else None) ≡ after (given_in done pend) (if b then before (x, v) (reading None rest) else None)
      go true known = use_agrees done pend taken (x, v) sound (text_is_no_command x known) (turn done pend sound.once idle)
      go false known = refl
  idle_word (named x) done pend taken word idle sound h = go (takes_text x) refl (stands_alone x) refl
    where
      go : (b : Bool) → takes_text x ≡ b → (c : Bool) → stands_alone x ≡ c
          → from rest (if b then option_map (wait_in (state done pend taken false) x) (settle_in done pend) else (if c then option_and_then (use_in (state done pend taken false) (x, codes "true")) (settle_in done pend) else None))
          ≡ after (given_in done pend) (if b then reading (Some x) rest else (if c then before (x, codes "true") (reading None rest) else None))
      go true known c alone = wait_agrees done pend taken x known sound (turn done pend sound.once idle)
      go false known true alone = use_agrees done pend taken (x, codes "true") sound (flag_is_no_command x alone) (turn done pend sound.once idle)
      go false known false alone = refl
  idle_word hyphen done pend taken word idle sound h = go (has_flag (short_of word))
    where
      go : (b : Bool) → from rest (if b then None else plain_in pend (state done pend taken false) word) ≡ None
      go true = refl
      go false = ap (from rest) (plain_idle pend (state done pend taken false) word idle) ∙ operand_agrees done pend taken false word sound (turn done pend sound.once idle) ∙ after_command (given_in done pend) word _ (h refl)
  idle_word plain done pend taken word idle sound h = ap (from rest) (plain_idle pend (state done pend taken false) word idle) ∙ operand_agrees done pend taken false word sound (turn done pend sound.once idle)

  trailing_word : (done : List Given) (pend : Pending) (taken : Bool) (word : Text) → IsSound done pend taken → from rest (operand (state done pend taken true) word) ≡ after (given_in done pend) (rest_in pend true (word ∷ rest))
  trailing_word done none taken word sound = operand_agrees done none taken true word sound (turn done none sound.once refl)
  trailing_word done (holds g) taken word sound = operand_agrees done (holds g) taken true word sound (turn done (holds g) sound.once refl)
  trailing_word done (waits x) taken word sound = ap (from rest) (if_same taken None)

-- ---- all words

end_agrees : (done : List Given) (pend : Pending) → is_once done ≡ true → is_waiting pend ≡ false → option_and_then done_job (settle_in done pend) ≡ job_from (given_in done pend ++ [])
end_agrees done pend once idle = elim (turn done pend once idle) [
  | up e sure ↦ rw e (sym (ap job_from (append-nil (given_in done pend)) ∙ rw sure refl))
  | dead e d ↦ rw e (sym (d []))
]

look_hyphen : (word : Text) → is_plain (look word) ≡ false → begins_with_hyphen word ≡ true
look_hyphen [] e = absurd (cc)
look_hyphen (c ∷ cs) e = go (c == 45) e
  where
    go : (b : Bool) → is_plain (if b then short_look cs else plain) ≡ false → b ≡ true
    go true e = refl
    go false e = absurd (cc)

agrees : (words : List Text) → Agrees words
unfolding run
agrees [] done none taken true sound = end_agrees done none sound.once refl
agrees [] done none taken false sound = end_agrees done none sound.once refl
agrees [] done (holds g) taken true sound = end_agrees done (holds g) sound.once refl
agrees [] done (holds g) taken false sound = end_agrees done (holds g) sound.once refl
agrees [] done (waits x) taken true sound = refl
agrees [] done (waits x) taken false sound = refl
agrees (word ∷ rest) done pend taken true sound = trailing_word rest (agrees rest) done pend taken word sound
agrees (word ∷ rest) done none taken false sound = idle_word rest (agrees rest) (look word) done none taken word refl sound (look_hyphen word)
agrees (word ∷ rest) done (holds g) taken false sound = idle_word rest (agrees rest) (look word) done (holds g) taken word refl sound (look_hyphen word)
agrees (word ∷ rest) done (waits x) taken false sound = waiting_word rest (agrees rest) (look word) done x taken word sound (look_hyphen word)

pub machine_job : (words : List Text) → option_and_then done_job (run start words) ≡ job_of words
unfolding job_of
machine_job words = agrees words [] none false false (record { once = refl; has_command = refl; known = λ x e. absurd (cc) })
