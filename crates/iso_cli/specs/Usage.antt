-- Usage, cause by cause.
--
-- IsUsage words: the words have no job, by one of these causes
-- usage-sound, usage-complete: exactly then they have none
use Rattle.std.specs.Prelude.{◌≡◌, Bool, true, false, List, Option, Some, None, find, if◌then◌else◌, option_and_then}
use Rattle.std.proofs.Common.{◌∙◌, ap, refl, sym}
use Rattle.std.specs.List.{list_all}
use Rattle.std.specs.Str.{bytes_eq}
use Rattle.iso_cli.specs.Options.{Text, options, suits}
use Rattle.iso_cli.specs.Given.{Given, Reads, command, is_once, text_given}
use Rattle.iso_cli.specs.Commands.{Row, commands, job_by, job_named, job_of_command}
use Rattle.iso_cli.specs.JobOf.{job_from, job_of, reading}
use Rattle.iso_cli.specs.ReadingLaws.{reading-complete, reading-sound}
use Rattle.iso_report.specs.declared.job.Job.{Job}

-- the row of a command
abbrev pub row_of : Text → Option Row
row_of word = find (λ r. bytes_eq word r.word) commands

pub data IsUsage (words : List Text) : Type 0 where
  -- the words can't be read: one that begins with `-` is no option as it stands, or an option lacks its text
  unread : ((gives : List Given) → Reads words gives → ⊥) → IsUsage words
  -- an option is repeated, or a second word is positional
  repeated : (gives : List Given) → Reads words gives → is_once gives ≡ false → IsUsage words
  -- no word is positional
  no_command : (gives : List Given) → Reads words gives → text_given gives command ≡ None → IsUsage words
  -- the positional word is no command
  unknown : (gives : List Given) (word : Text) → Reads words gives → text_given gives command ≡ Some word → row_of word ≡ None → IsUsage words
  -- an option isn't the command's, or its text is no name or number as said
  unsuited : (gives : List Given) (word : Text) → Reads words gives → text_given gives command ≡ Some word → list_all (suits word (text_given gives)) options ≡ false → IsUsage words
  -- the row makes no job of what is given: an irrep without a direction, no number below 64
  incomplete : (gives : List Given) (word : Text) (row : Row) → Reads words gives → text_given gives command ≡ Some word → row_of word ≡ Some row → row.job (text_given gives) ≡ None → IsUsage words

if_same : {A : Type 0} (b : Bool) (x : A) → (if b then x else x) ≡ x
if_same true x = refl
if_same false x = refl

-- what is read, and no job from it
no_job : (words : List Text) (gives : List Given) → Reads words gives → job_from gives ≡ None → job_of words ≡ None
unfolding job_of
no_job words gives reads none = ap (option_and_then job_from) (reading-complete gives words reads) ∙ none

by_command : (gives : List Given) (o : Option Text) → text_given gives command ≡ o → option_and_then (job_of_command (text_given gives)) o ≡ None → job_from gives ≡ None
by_command gives o is none = ap (λ (j : Option Job). if is_once gives then j else None) (ap (option_and_then (job_of_command (text_given gives))) is ∙ none) ∙ if_same (is_once gives) None

by_row : (gives : List Given) (word : Text) → job_named (text_given gives) word ≡ None → job_of_command (text_given gives) word ≡ None
by_row gives word none = ap (λ (j : Option Job). if list_all (suits word (text_given gives)) options then j else None) none ∙ if_same (list_all (suits word (text_given gives)) options) None

pub usage-sound : (words : List Text) → IsUsage words → job_of words ≡ None
unfolding job_of
usage-sound words (unread h) = go (reading None words) refl
  where
    go : (o : Option (List Given)) → reading None words ≡ o → option_and_then job_from o ≡ None
    go None e = refl
    go (Some gives) e = absurd (h gives (reading-sound words gives e))
usage-sound words (repeated gives reads twice) = no_job words gives reads (rw twice refl)
usage-sound words (no_command gives reads none) = no_job words gives reads (by_command gives None none refl)
usage-sound words (unknown gives word reads is none) = no_job words gives reads (by_command gives (Some word) is (by_row gives word (rw none refl)))
usage-sound words (unsuited gives word reads is fails) = no_job words gives reads (by_command gives (Some word) is (rw fails refl))
usage-sound words (incomplete gives word row reads is found none) = no_job words gives reads (by_command gives (Some word) is (by_row gives word (rw found none)))

pub usage-complete : (words : List Text) → job_of words ≡ None → IsUsage words
unfolding job_of
usage-complete words none = go (reading None words) refl none
  where
    named : (gives : List Given) (word : Text) → Reads words gives → text_given gives command ≡ Some word → (o : Option Row) → row_of word ≡ o → option_and_then (λ r. r.job (text_given gives)) o ≡ None → IsUsage words
    named gives word reads is None found e = unknown gives word reads is found
    named gives word reads is (Some row) found e = incomplete gives word row reads is found e

    suited : (gives : List Given) (word : Text) → Reads words gives → text_given gives command ≡ Some word → (b : Bool) → list_all (suits word (text_given gives)) options ≡ b → (if b then job_named (text_given gives) word else None) ≡ None → IsUsage words
    suited gives word reads is false fit e = unsuited gives word reads is fit
    suited gives word reads is true fit e = named gives word reads is (row_of word) refl e

    at_command : (gives : List Given) → Reads words gives → (o : Option Text) → text_given gives command ≡ o → option_and_then (job_of_command (text_given gives)) o ≡ None → IsUsage words
    at_command gives reads None is e = no_command gives reads is
    at_command gives reads (Some word) is e = suited gives word reads is (list_all (suits word (text_given gives)) options) refl e

    once : (gives : List Given) → Reads words gives → (b : Bool) → is_once gives ≡ b → (if b then job_by (text_given gives) else None) ≡ None → IsUsage words
    once gives reads false is e = repeated gives reads is
    once gives reads true is e = at_command gives reads (text_given gives command) refl e

    go : (o : Option (List Given)) → reading None words ≡ o → option_and_then job_from o ≡ None → IsUsage words
    go None e h = unread (λ gives reads. no_reading gives (sym e ∙ reading-complete gives words reads))
      where
        no_reading : (gives : List Given) → None ≡ Some gives → ⊥
        no_reading gives e = absurd (cc)
    go (Some gives) e h = once gives (reading-sound words gives e) (is_once gives) refl h
