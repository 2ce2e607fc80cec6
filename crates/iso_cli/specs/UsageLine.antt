-- The line that says how the program is used.
--
-- usage_line: the commands and the options in the order of their tables
use Rattle.std.specs.Prelude.{[], ◌∷◌, ◌++◌, map, codes}
use Rattle.std.specs.List.{flat_map, join_with_byte}
use Rattle.iso_cli.specs.Options.{Kind, name, number, nothing, OptionRow, Text, options}
use Rattle.iso_cli.specs.Commands.{commands}

-- what stands for the text of an option
abbrev pub text_mark : Kind → Text
text_mark name = codes " NAME"
text_mark number = codes " N"
text_mark nothing = []

abbrev pub option_mark : OptionRow → Text
option_mark o = codes " [--" ++ (o.word ++ (text_mark o.kind ++ codes "]"))

-- 124 is `|`, 10 the line feed
abbrev pub usage_line : Text
usage_line = codes "isodist: usage: isodist " ++ (join_with_byte 124 (map (λ r. r.word) commands) ++ (flat_map option_mark options ++ (10 ∷ [])))
