-- The options of the command line.
--
-- options: each option's kind, its name, and the commands that take it
-- text_names, flag_names: the names of those that take a text, and of those that stand alone
-- takes_text x, stands_alone x: `--x` wants a text; it stands alone
-- is_number text: one to nine decimal digits
-- suits command given o: what was given to the option, if anything, is as its row says
use Rattle.std.specs.Prelude.{ℕ, Bool, true, false, not, List, [], ◌∷◌, length, Option, nat_le, ◌&&◌, codes, map}
use Rattle.std.specs.List.{filter, list_all, list_any}
use Rattle.std.specs.Option.{option_map_or}
use Rattle.std.specs.Str.{bytes_eq}
use Rattle.std.specs.Char.{is_ascii_digit}
use Rattle.iso_text.specs.Name.{is_name}

abbrev pub Text : Type 0
Text = List ℕ

-- what an option wants
pub data Kind : Type 0 where
  name : Kind
  number : Kind
  nothing : Kind

pub record OptionRow : Type 0 where
  pub word : Text
  pub kind : Kind
  pub commands : List Text

-- a row of the table
abbrev pub option_row : Kind → Text → List Text → OptionRow
option_row kind word commands = record { word = word; kind = kind; commands = commands }

abbrev pub options : List OptionRow
options =
    option_row name (codes "irrep") (codes "list" ∷ codes "modes" ∷ codes "couple" ∷ codes "link" ∷ [])
    ∷ option_row number (codes "direction") (codes "modes" ∷ [])
    ∷ option_row number (codes "after") (codes "list" ∷ codes "couple" ∷ [])
    ∷ option_row number (codes "count") (codes "list" ∷ codes "couple" ∷ [])
    ∷ option_row nothing (codes "tally") (codes "list" ∷ [])
    ∷ option_row number (codes "number") (codes "demo" ∷ [])
    ∷ option_row name (codes "with") (codes "couple" ∷ codes "link" ∷ [])
    ∷ []

abbrev pub wants_text : Kind → Bool
wants_text nothing = false
wants_text _ = true

-- the names of the options of each kind
abbrev pub text_names : List Text
text_names = map (λ o. o.word) (filter (λ o. wants_text o.kind) options)

abbrev pub flag_names : List Text
flag_names = map (λ o. o.word) (filter (λ o. not (wants_text o.kind)) options)

-- `--x` is followed by a text
abbrev pub takes_text : Text → Bool
takes_text x = list_any (λ o. wants_text o.kind && bytes_eq o.word x) options

-- `--x` stands alone
abbrev pub stands_alone : Text → Bool
stands_alone x = list_any (λ o. not (wants_text o.kind) && bytes_eq o.word x) options

-- one to nine decimal digits
abbrev pub is_number : Text → Bool
is_number text = list_all is_ascii_digit text && (nat_le 1 (length text) && nat_le (length text) 9)

abbrev pub fits : Kind → Text → Bool
fits name text = is_name text
fits number text = is_number text
fits nothing text = true

-- the command is one of these
abbrev pub is_among : Text → List Text → Bool
is_among command commands = list_any (λ known. bytes_eq known command) commands

-- what was given to an option, if anything, is given to a command that takes it, and fits
abbrev pub is_right : Kind → Bool → Option Text → Bool
is_right kind is_taken given = option_map_or (λ text. is_taken && fits kind text) given true

abbrev pub suits : Text → (Text → Option Text) → OptionRow → Bool
suits command given o = is_right o.kind (is_among command o.commands) (given o.word)
