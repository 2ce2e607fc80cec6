-- How `clap` takes up what was given last.
use Rattle.std.proofs.Common.{◌≡◌, ◌∙◌, Bool, true, false, List, [], ◌∷◌, ◌++◌, Option, Some, None, codes, refl, ap, sym, append-nil}
use Rattle.std.specs.Prelude.{◌||◌, ◌&&◌, if◌then◌else◌}
use Rattle.std.specs.Str.{bytes_eq}
use Rattle.std.proofs.lemmas.List.{map-append}
use Rattle.clap.specs.Walk.{Held, Row, Rule, arg_by_id, at_row, has_row, more_values, settled, used, with_values, without}
use Rattle.clap.specs.Simple.{Shape}
use Rattle.clap.specs.Faults.{settle_fault, use_fault}
use Rattle.clap.specs.Kinds.{Kinds, or_else}
use Rattle.clap.specs.declared.error.kind.ErrorKind.TheVariants as kind
use Rattle.clap.specs.declared.builder.value_parser.Reading.TheVariants.{AsWritten}
use Rattle.clap.specs.declared.parser.matches.ValueSource.TheVariants.{CommandLine}
use Rattle.iso_cli.specs.Options.{Text, takes_text}
use Rattle.iso_cli.specs.Given.{Given, command, is_given}
use Rattle.iso_cli.proofs.Facts.{Facts, text_option, flag, positional}
use Rattle.iso_cli.proofs.Machine.{Pending, none, waits, holds, settle_in, row_of_given, rows_of_given, held_in}

-- there is a fault
abbrev pub fails : Kinds → Bool
fails [] = false
fails (k ∷ kinds) = true

-- ---- rows

or_false : (a b : Bool) → (a || b) ≡ false → (a ≡ false) × (b ≡ false)
or_false true b e = absurd (cc)
or_false false b e = (refl, e)

pub has_row_given : (x : Text) (done : List Given) → has_row x (rows_of_given done) ≡ is_given x done
has_row_given x [] = refl
has_row_given x (g ∷ done) = ap (λ b. bytes_eq g.0 x || b) (has_row_given x done)

-- what isn't given yet comes last
pub at_row_new : (x : Text) (change : Row → List Row) (missing : List Row) (done : List Given) → is_given x done ≡ false → at_row x change missing (rows_of_given done) ≡ rows_of_given done ++ missing
at_row_new x change missing [] e = refl
at_row_new x change missing (g ∷ done) e =
    let apart = or_false (bytes_eq g.0 x) (is_given x done) e in
    rw apart.0 (ap (λ rs. row_of_given g ∷ rs) (at_row_new x change missing done apart.1))

abbrev pub put : Given → List Row → List Row
put g rows = with_values g.0 AsWritten CommandLine (g.1 ∷ []) (without g.0 rows)

pub put_new : (g : Given) (done : List Given) → is_given g.0 done ≡ false → put g (rows_of_given done) ≡ rows_of_given (done ++ g ∷ [])
put_new g done e =
    let gone : without g.0 (rows_of_given done) ≡ rows_of_given done = at_row_new g.0 (λ _. []) [] done e ∙ append-nil (rows_of_given done) in
    ap (λ rs. with_values g.0 AsWritten CommandLine (g.1 ∷ []) rs) gone ∙ at_row_new g.0 (more_values CommandLine (g.1 ∷ [])) (row_of_given g ∷ []) done e ∙ sym (map-append row_of_given done (g ∷ []))

-- ---- one use

abbrev pub repeat : Bool → Kinds
repeat again = if again then kind.ArgumentConflict ∷ [] else []

-- a use of the argument with these values gives g
pub record Uses (r : Rule) (values : List Text) (g : Given) : Type 0 where
  pub fault : (rows : List Row) → use_fault false r values rows ≡ repeat (has_row g.0 rows)
  pub rows : (rows : List Row) → used r values rows ≡ put g rows

repeated : (b : Bool) → or_else (or_else (if b && true then kind.ArgumentConflict ∷ [] else []) []) [] ≡ repeat b
repeated true = refl
repeated false = refl

repeated_once : (b : Bool) → or_else (if b && true then kind.ArgumentConflict ∷ [] else []) [] ≡ repeat b
repeated_once true = refl
repeated_once false = refl

pub uses_opt : (x v : Text) → Uses (text_option x) (v ∷ []) (x, v)
uses_opt x v = record { fault = λ rows. repeated_once (has_row x rows); rows = λ rows. refl }

pub uses_flag : (x : Text) → Uses (flag x) [] (x, codes "true")
uses_flag x = record { fault = λ rows. repeated_once (has_row x rows); rows = λ rows. refl }

pub uses_positional : (v : Text) → Uses positional (v ∷ []) (command, v)
uses_positional v = record { fault = λ rows. repeated_once (has_row command rows); rows = λ rows. refl }

-- ---- what is pending

pub record IsRule (s : Shape) (g : Given) (r : Rule) : Type 0 where
  pub found : arg_by_id s.rules g.0 ≡ Some r
  pub uses : Uses r (g.1 ∷ []) g

abbrev pub Known : Shape → Pending → Type 0
Known s none = Unit {0}
Known s (waits x) = takes_text x ≡ true
Known s (holds g) = (r : Rule) × IsRule s g r

abbrev pub IsTakenUp : Shape → Held → List Given → Type 0
IsTakenUp s h done = (settle_fault s.rules false h ≡ []) × (settled s.rules h ≡ held_in done none)

-- taking it up gives these, or fails
abbrev pub Settles : Shape → Held → Option (List Given) → Type 0
Settles s h (Some done) = IsTakenUp s h done
Settles s h None = fails (settle_fault s.rules false h) ≡ true

pub settles : (s : Shape) → Facts s → (done : List Given) (pend : Pending) → Known s pend → Settles s (held_in done pend) (settle_in done pend)
settles s f done none known = (refl, refl)
settles s f done (waits x) known = rw (f.text_id x known) refl
settles s f done (holds g) known = go (is_given g.0 done) refl
  where
    r : Rule
    r = known.0

    fault : settle_fault s.rules false (held_in done (holds g)) ≡ repeat (is_given g.0 done)
    fault = rw known.1.found (known.1.uses.fault (rows_of_given done) ∙ ap repeat (has_row_given g.0 done))

    rows : (settled s.rules (held_in done (holds g))).rows ≡ put g (rows_of_given done)
    rows = rw known.1.found (known.1.uses.rows (rows_of_given done))

    go : (b : Bool) → is_given g.0 done ≡ b → Settles s (held_in done (holds g)) (if b then None else Some (done ++ g ∷ []))
    go true e = ap fails (fault ∙ ap repeat e)
    go false e = (fault ∙ ap repeat e, ap (λ rs. let h : Held = record { rows = rs; pending = None; skip = 0 } in h) (rows ∙ put_new g done e))
