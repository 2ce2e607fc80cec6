-- The command line as `clap` is told of it.
--
-- declared, program: the command, to compute with and to cite
-- texts_found rows, texts_in found: the texts that its matches give
use Rattle.std.specs.Prelude.{true, false, Bool, List, Option, Some, None, codes, find, fold, if◌then◌else◌, option_and_then, slice_get}
use Rattle.std.specs.Str.{bytes_eq}
use Rattle.clap.specs.Walk.{Rule, Row, rows_of}
use Rattle.clap.specs.Matches.{found_of}
use Rattle.clap.specs.declared.parser.matches.ArgMatches.{ArgMatches}
use Rattle.clap.specs.Simple.{App, new_rule, new_app, with_rule, on_top}
use Rattle.clap.specs.declared.builder.action.ArgAction.TheVariants.{Set, SetTrue}
use Rattle.clap.specs.declared.parser.matches.ValueSource.{ValueSource}
use Rattle.clap.specs.declared.parser.matches.ValueSource.TheVariants.{CommandLine}
use Rattle.iso_cli.specs.Options.{Text, flag_names, text_names}
use Rattle.iso_cli.specs.Given.{command}
use Rattle.iso_cli.specs.Commands.{Texts}

abbrev pub option_rule : Text → Rule
option_rule name = record (new_rule name) { long = Some name; action = Some Set }

abbrev pub flag_rule : Text → Rule
flag_rule name = record (new_rule name) { long = Some name; action = Some SetTrue }

abbrev pub bare : App
bare = on_top (λ s. record s { disable_help_flag = true; no_binary_name = true }) (new_app (codes "isodist"))

-- `Command::arg` with each of some options that take a text
abbrev pub with_options : App → List Text → App
with_options app names = fold (λ a name. with_rule a (option_rule name)) app names

-- and with each of some that stand alone
abbrev pub with_flags : App → List Text → App
with_flags app names = fold (λ a name. with_rule a (flag_rule name)) app names

-- the options of the table, and the positional word
abbrev pub declared : App
declared = with_rule (with_flags (with_options bare text_names) flag_names) (new_rule command)

-- the same, shut: it computes long
unfoldable pub program : App
program = declared

-- the words gave the value; it is no default
abbrev pub is_from_words : Option ValueSource → Bool
is_from_words (Some CommandLine) = true
is_from_words _ = false

abbrev pub row_text : Row → Option Text
row_text r = if is_from_words r.source then slice_get r.values 0 else None

-- the texts that the words gave, by the matches
abbrev pub texts_found : List Row → Texts
texts_found rows x = option_and_then row_text (find (λ r. bytes_eq r.id x) rows)

abbrev pub texts_in : ArgMatches → Texts
texts_in found = texts_found (rows_of (found_of found))
