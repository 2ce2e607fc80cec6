-- What the words of the command line give, read from left to right.
--
-- Given: the name of an option, or `command`, with the text that it gets
-- Begins g words rest: the first word or two give g, and the rest follow
-- Reads words gives: the words give these, in order
-- is_once gives: nothing gets two texts
-- text_given gives x: the text that x got
use Rattle.std.specs.Prelude.{◌≡◌, ◌⊎◌, Bool, true, false, not, List, [], ◌∷◌, ◌++◌, map, Option, ◌==◌, ◌&&◌, codes, find}
use Rattle.std.specs.List.{list_any}
use Rattle.std.specs.Option.{option_map}
use Rattle.std.specs.Str.{bytes_eq}
use Rattle.iso_cli.specs.Options.{Text, takes_text, stands_alone}

-- what gets a text, and the text
abbrev pub Given : Type 0
Given = Text × Text

-- what a word that is no option is given to
abbrev pub command : Text
command = codes "command"

-- 45 is the hyphen
abbrev pub begins_with_hyphen : Text → Bool
begins_with_hyphen [] = false
begins_with_hyphen (c ∷ cs) = c == 45

-- the first words give g, and the words behind them are the rest:
--   `--x=v`; `--x` and then v, whatever v is; `--x` alone; or a word that doesn't begin with `-`
pub data Begins (g : Given) (words rest : List Text) : Type 0 where
  joined : takes_text g.0 ≡ true → words ≡ (codes "--" ++ (g.0 ++ (codes "=" ++ g.1))) ∷ rest → Begins g words rest
  followed : takes_text g.0 ≡ true → words ≡ (codes "--" ++ g.0) ∷ g.1 ∷ rest → Begins g words rest
  alone : stands_alone g.0 ≡ true → g.1 ≡ codes "true" → words ≡ (codes "--" ++ g.0) ∷ rest → Begins g words rest
  plain : g.0 ≡ command → begins_with_hyphen g.1 ≡ false → words ≡ g.1 ∷ rest → Begins g words rest

abbrev pub to_command : Text → Given
to_command word = (command, word)

-- behind a first `--` every word is positional
abbrev pub Ends : List Text → List Given → Type 0
Ends words gives = (rest : List Text) × (words ≡ codes "--" ∷ rest) × (gives ≡ map to_command rest)

-- from left to right the words give these, and nothing else
abbrev pub Reads : List Text → List Given → Type 0
Reads words [] = (words ≡ []) ⊎ Ends words []
Reads words (g ∷ gives) = ((rest : List Text) × Begins g words rest × Reads rest gives) ⊎ Ends words (g ∷ gives)

abbrev pub is_given : Text → List Given → Bool
is_given x gives = list_any (λ g. bytes_eq g.0 x) gives

-- no option is repeated, and no second word is positional
abbrev pub is_once : List Given → Bool
is_once [] = true
is_once (g ∷ gives) = not (is_given g.0 gives) && is_once gives

-- the text that an option, or `command`, got
abbrev pub text_given : List Given → Text → Option Text
text_given gives x = option_map (λ g. g.1) (find (λ g. bytes_eq g.0 x) gives)
