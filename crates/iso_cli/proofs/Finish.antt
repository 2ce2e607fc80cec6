-- What `clap` answers on the words, by what the machine gives.
use Rattle.std.proofs.Common.{◌≡◌, ◌∙◌, Bool, cond, true, false, List, [], ◌∷◌, ◌++◌, map, Option, Some, None, codes, refl, ap, ap₂, fold}
use Rattle.std.specs.Prelude.{◌||◌, find, if◌then◌else◌, is_some, option_and_then, option_map}
use Rattle.std.specs.Str.{bytes_eq}
use Rattle.clap.specs.Walk.{Row, Rule, Walk, at_row, default_rows, finished, has_row, is_empty, more_values, settled, with_default}
use Rattle.clap.specs.Simple.{built, entered, matches_of}
use Rattle.clap.specs.Faults.{check_fault, defaults_fault, entered_fault, fault_of, given_default_fault, settle_fault, walk_fault}
use Rattle.clap.specs.Kinds.{Kinds, or_else}
use Rattle.iso_cli.specs.Options.{Text, flag_names, text_names}
use Rattle.iso_cli.specs.Given.{Given, text_given}
use Rattle.iso_cli.specs.LookLaws.{or_neither}
use Rattle.iso_cli.specs.CommandLine.{declared, row_text, texts_found}
use Rattle.iso_cli.proofs.Facts.{facts, flag, text_option, others, positional, top}
use Rattle.iso_cli.proofs.Machine.{row_of_given, rows_of_given, run, start, walk_at}
use Rattle.iso_cli.proofs.Runs.{RunsTo, end_of, runs}
use Rattle.iso_cli.proofs.Settling.{fails}
use Rattle.iso_cli.proofs.Steps.{or_else_fails}
use Rattle.clap.specs.declared.builder.value_parser.Reading.TheVariants.{AsWritten}
use Rattle.clap.specs.declared.parser.matches.ValueSource.TheVariants.{DefaultValue}

-- ---- defaults

if_same : {A : Type 0} (b : Bool) (x : A) → (if b then x else x) ≡ x
if_same true x = refl
if_same false x = refl

or_true : {A : Type 0} (b : Bool) (x y : A) → (if b || true then x else y) ≡ x
or_true true x y = refl
or_true false x y = refl

opt_defaults : (names : List Text) (more : List Rule) (rows : List Row) → fold with_default rows (map text_option names ++ more) ≡ fold with_default rows more
opt_defaults [] more rows = refl
opt_defaults (n ∷ names) more rows = ap (λ rs. fold with_default rs (map text_option names ++ more)) (if_same (has_row n rows) rows) ∙ opt_defaults names more rows

opt_faults : (names : List Text) (more : List Rule) (rows : List Row) → defaults_fault rows (map text_option names ++ more) ≡ defaults_fault rows more
unfolding defaults_fault
opt_faults [] more rows = refl
opt_faults (n ∷ names) more rows =
    ap₂ or_else (or_true (has_row n rows) [] _) (ap (λ rs. defaults_fault rs (map text_option names ++ more)) (if_same (has_row n rows) rows) ∙ opt_faults names more rows)

flag_faults : (names : List Text) (more : List Rule) (rows : List Row) → ((rs : List Row) → defaults_fault rs more ≡ []) → defaults_fault rows (map flag names ++ more) ≡ []
unfolding defaults_fault
flag_faults [] more rows none = none rows
flag_faults (n ∷ names) more rows none = ap₂ or_else (if_same (has_row n rows || is_empty (flag n).defaults) []) (flag_faults names more (with_default rows (flag n)) none)

no_faults : (rows : List Row) → defaults_fault rows top.rules ≡ []
unfolding defaults_fault
no_faults rows = opt_faults text_names others rows ∙ flag_faults flag_names (positional ∷ []) rows (λ rs. ap₂ or_else (or_true (has_row positional.id rs) [] (given_default_fault positional positional.defaults)) refl)

-- ---- the texts that the matches give

texts_of_given : (done : List Given) (x : Text) → texts_found (rows_of_given done) x ≡ text_given done x
texts_of_given [] x = refl
texts_of_given (g ∷ done) x = go (bytes_eq g.0 x) (texts_of_given done x)
  where
    go : (b : Bool) → texts_found (rows_of_given done) x ≡ text_given done x → option_and_then row_text (cond b (Some (row_of_given g)) (find (λ r. bytes_eq r.id x) (rows_of_given done))) ≡ option_map (λ (p : Given). p.1) (cond b (Some g) (find (λ p. bytes_eq p.0 x) done))
    go true behind = refl
    go false behind = behind

-- a flag's default
abbrev default_row : Text → Row
default_row n = record { id = n; values = codes "false" ∷ []; count = None; source = Some DefaultValue; reading = AsWritten }

default_added : (n x : Text) (change : Row → List Row) (rows : List Row) → has_row n rows ≡ false → texts_found (at_row n change (default_row n ∷ []) rows) x ≡ texts_found rows x
default_added n x change [] e = go (bytes_eq n x)
  where
    go : (b : Bool) → option_and_then row_text (cond b (Some (default_row n)) None) ≡ None
    go true = refl
    go false = refl
default_added n x change (r ∷ rows) e =
    let apart = or_neither (bytes_eq r.id n) (has_row n rows) e in
    rw apart.0 (go (bytes_eq r.id x) (default_added n x change rows apart.1))
  where
    go : (b : Bool) → texts_found (at_row n change (default_row n ∷ []) rows) x ≡ texts_found rows x
        → option_and_then row_text (cond b (Some r) (find (λ p. bytes_eq p.id x) (at_row n change (default_row n ∷ []) rows))) ≡ option_and_then row_text (cond b (Some r) (find (λ p. bytes_eq p.id x) rows))
    go true behind = refl
    go false behind = behind

-- a default is no text of the words
default_unseen : (n x : Text) (rows : List Row) → texts_found (with_default rows (flag n)) x ≡ texts_found rows x
default_unseen n x rows = go (has_row n rows) refl
  where
    go : (b : Bool) → has_row n rows ≡ b → texts_found (if b then rows else default_rows (flag n).id AsWritten (flag n).defaults rows) x ≡ texts_found rows x
    go true e = refl
    go false e = default_added n x (more_values DefaultValue (codes "false" ∷ [])) rows e

defaults_unseen : (names : List Text) (x : Text) (rows : List Row) → texts_found (fold with_default rows (map flag names ++ positional ∷ [])) x ≡ texts_found rows x
defaults_unseen [] x rows = ap (λ rs. texts_found rs x) (if_same (has_row positional.id rows) rows)
defaults_unseen (n ∷ names) x rows = defaults_unseen names x (with_default rows (flag n)) ∙ default_unseen n x rows

-- ---- the answer

no_check : (rows : List Row) → check_fault top rows false ≡ []
no_check rows = refl

later_fails : (a b more : Kinds) (below : Kinds) → fails (or_else a b) ≡ true → fails (or_else a (or_else below (or_else b more))) ≡ true
later_fails (k ∷ a) b more below e = refl
later_fails [] b more (k ∷ below) e = refl
later_fails [] b more [] e = or_else_fails b more e

abbrev ending : List Text → Walk
ending words = end_of top (walk_at start) words

-- what `clap` answers, where the machine gives these
abbrev pub Answered : List Text → Option (List Given) → Type 0
Answered words (Some gives) = (fault_of declared words ≡ []) × (texts_found (matches_of declared words) ≡ text_given gives)
Answered words None = fails (fault_of declared words) ≡ true

answered : (words : List Text) (o : Option (List Given)) → RunsTo top (walk_at start) words o → Answered words o
answered words None h = later_fails (walk_fault top [] (walk_at start) words) (settle_fault top.rules false (ending words).held) _ (entered_fault (built declared) (ending words).stopped) h
answered words (Some gives) h =
    let entered_none : entered_fault (built declared) (ending words).stopped ≡ [] = ap (entered_fault (built declared)) h.whole in
    let is_leaf : is_some (entered (built declared) (ending words).stopped) ≡ false = ap (λ stop. is_some (entered (built declared) stop)) h.whole in
    let defaults : defaults_fault (settled top.rules (ending words).held).rows top.rules ≡ [] = no_faults (settled top.rules (ending words).held).rows in
    let checks : check_fault top (finished top.rules (ending words).held) (is_some (entered (built declared) (ending words).stopped)) ≡ [] = ap (check_fault top (finished top.rules (ending words).held)) is_leaf in
    let rows : matches_of declared words ≡ fold with_default (rows_of_given gives) others = opt_defaults text_names others (settled top.rules (ending words).held).rows ∙ ap (λ rs. fold with_default rs others) h.rows in
    let texts : texts_found (fold with_default (rows_of_given gives) others) ≡ text_given gives = λ i x. (defaults_unseen flag_names x (rows_of_given gives) ∙ texts_of_given gives x) i in
    (ap₂ or_else h.walk (ap₂ or_else entered_none (ap₂ or_else h.settle (ap₂ or_else defaults checks))), ap texts_found rows ∙ texts)

pub clap_answers : (words : List Text) → Answered words (run start words)
clap_answers words = answered words (run start words) (runs top facts words start tt)
