-- What the arguments of the command line are, to `clap`.
use Rattle.std.proofs.Common.{◌≡◌, ◌∙◌, ℕ, Bool, cond, true, false, List, [], ◌∷◌, ◌++◌, map, Some, None, refl, ap}
use Rattle.std.specs.Prelude.{◌||◌, ◌&&◌, is_some, not}
use Rattle.std.specs.List.{list_any}
use Rattle.std.specs.Str.{bytes_eq}
use Rattle.std.proofs.lemmas.Slice.Eq.{bytes_eq-Decides}
use Rattle.clap.specs.Walk.{Rule, arg_by_id, arg_by_index, arg_by_long, arg_by_short, has_long}
use Rattle.clap.specs.Simple.{Shape, built, filled, new_rule, with_index}
use Rattle.iso_cli.specs.Options.{Text, flag_names, takes_text, text_names, stands_alone}
use Rattle.iso_cli.specs.Given.{command}
use Rattle.iso_cli.specs.CommandLine.{declared, option_rule, flag_rule}

abbrev pub text_option : Text → Rule
text_option x = filled (option_rule x)

abbrev pub flag : Text → Rule
flag x = filled (flag_rule x)

abbrev pub positional : Rule
positional = with_index 1 (filled (new_rule command))

pub record Facts (s : Shape) : Type 0 where
  pub text_long : (x : Text) → takes_text x ≡ true → arg_by_long s.rules x ≡ Some (text_option x)
  pub flag_long : (x : Text) → takes_text x ≡ false → stands_alone x ≡ true → arg_by_long s.rules x ≡ Some (flag x)
  pub no_long : (x : Text) → takes_text x ≡ false → stands_alone x ≡ false → arg_by_long s.rules x ≡ None
  pub text_id : (x : Text) → takes_text x ≡ true → arg_by_id s.rules x ≡ Some (text_option x)
  pub command_id : arg_by_id s.rules command ≡ Some positional
  pub first : arg_by_index s.rules 1 ≡ Some positional
  pub second : arg_by_index s.rules 2 ≡ None
  pub no_short : (c : ℕ) → arg_by_short s.rules c ≡ None
  pub again : s.args_override_self ≡ false
  pub leaf : s.is_leaf ≡ true

-- ---- the options that take a text, by their names

abbrev pub has_name : Text → List Text → Bool
has_name x names = list_any (λ n. bytes_eq n x) names

same_text : (n x : Text) → bytes_eq n x ≡ true → n ≡ x
same_text n x e = (bytes_eq-Decides n x).0 e

-- where the rules of some names are looked up by these names
module _ (build : Text → Rule) (by_name : (n x : Text) → (not (is_some (build n).index) && has_long (build n) x) ≡ bytes_eq n x) where
  pub long_here : (names : List Text) (more : List Rule) (x : Text) → has_name x names ≡ true → arg_by_long (map build names ++ more) x ≡ Some (build x)
  long_here [] more x e = absurd (cc)
  long_here (n ∷ names) more x e = rw (by_name n x) (go (bytes_eq n x) refl e (long_here names more x))
    where
      go : (b : Bool) → bytes_eq n x ≡ b → (b || has_name x names) ≡ true → (has_name x names ≡ true → arg_by_long (map build names ++ more) x ≡ Some (build x)) → cond b (Some (build n)) (arg_by_long (map build names ++ more) x) ≡ Some (build x)
      go true same h behind = ap (λ (m : Text). Some (build m)) (same_text n x same)
      go false same h behind = behind h

  pub long_past : (names : List Text) (more : List Rule) (x : Text) → has_name x names ≡ false → arg_by_long (map build names ++ more) x ≡ arg_by_long more x
  long_past [] more x e = refl
  long_past (n ∷ names) more x e = rw (by_name n x) (go (bytes_eq n x) e (long_past names more x))
    where
      go : (b : Bool) → (b || has_name x names) ≡ false → (has_name x names ≡ false → arg_by_long (map build names ++ more) x ≡ arg_by_long more x) → cond b (Some (build n)) (arg_by_long (map build names ++ more) x) ≡ arg_by_long more x
      go true h behind = absurd (cc)
      go false h behind = behind h

pub id_here : (names : List Text) (more : List Rule) (x : Text) → has_name x names ≡ true → arg_by_id (map text_option names ++ more) x ≡ Some (text_option x)
id_here [] more x e = absurd (cc)
id_here (n ∷ names) more x e = go (bytes_eq n x) refl e (id_here names more x)
  where
    go : (b : Bool) → bytes_eq n x ≡ b → (b || has_name x names) ≡ true → (has_name x names ≡ true → arg_by_id (map text_option names ++ more) x ≡ Some (text_option x)) → cond b (Some (text_option n)) (arg_by_id (map text_option names ++ more) x) ≡ Some (text_option x)
    go true same h behind = ap (λ (m : Text). Some (text_option m)) (same_text n x same)
    go false same h behind = behind h

abbrev pub others : List Rule
others = map flag flag_names ++ positional ∷ []

-- the command line, built
abbrev pub top : Shape
top = (built declared).top

rules_are : top.rules ≡ map text_option text_names ++ others
rules_are = refl

names_are : (x : Text) → takes_text x ≡ has_name x text_names
names_are x = refl

flags_are : (x : Text) → stands_alone x ≡ has_name x flag_names
flags_are x = refl

or_nothing : (b : Bool) → (b || false) ≡ b
or_nothing true = refl
or_nothing false = refl

opt_name : (n x : Text) → (not (is_some (text_option n).index) && has_long (text_option n) x) ≡ bytes_eq n x
opt_name n x = or_nothing (bytes_eq n x)

flag_name : (n x : Text) → (not (is_some (flag n).index) && has_long (flag n) x) ≡ bytes_eq n x
flag_name n x = or_nothing (bytes_eq n x)

pub facts : Facts top
facts = record {
  text_long = λ x e. long_here text_option opt_name text_names others x e;
  flag_long = λ x e h. long_past text_option opt_name text_names others x e ∙ long_here flag flag_name flag_names (positional ∷ []) x h;
  no_long = λ x e h. long_past text_option opt_name text_names others x e ∙ long_past flag flag_name flag_names (positional ∷ []) x h;
  text_id = λ x e. id_here text_names others x e;
  command_id = refl;
  first = refl;
  second = refl;
  no_short = λ c. refl;
  again = refl;
  leaf = refl;
}
