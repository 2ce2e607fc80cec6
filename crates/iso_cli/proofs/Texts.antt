-- The texts that the words gave, by what the getters answer.
use Rattle.std.proofs.Common.{◌≡◌, ◌∙◌, Option, Some, None, refl, ap, sym}
use Rattle.std.specs.Prelude.{find, option_and_then, option_map, slice_get}
use Rattle.std.specs.Str.{bytes_eq}
use Rattle.clap.specs.Walk.{Row, Text, row_of, rows_of}
use Rattle.clap.specs.Facts.{Entry}
use Rattle.clap.specs.Matches.{first_value, matched_of}
use Rattle.clap.proofs.WalkLemmas.{find_row, first_value-rows}
use Rattle.clap.specs.declared.parser.matches.Found.{Found}
use Rattle.clap.specs.declared.parser.matches.MatchedArg.{MatchedArg}
use Rattle.clap.specs.declared.parser.matches.ValueSource.{ValueSource}
use Rattle.clap.specs.declared.parser.matches.ValueSource.TheVariants.{DefaultValue, CommandLine}
use Rattle.iso_cli.specs.CommandLine.{row_text, texts_found}

abbrev source_in : Option Row → Option ValueSource
source_in row = option_and_then (λ (r : Row). r.source) row

-- where the value of an id came from, by the rows
source-rows : (f : Found) (id : Text) → option_and_then (λ (a : MatchedArg). a.source) (matched_of f id) ≡ source_in (find (λ r. bytes_eq r.id id) (rows_of f))
source-rows f id = go (find (λ (e : Entry). bytes_eq e.0.now id) f.entries.items) ∙ ap source_in (sym (find_row f.entries.items id))
  where
    go : (o : Option Entry) → option_and_then (λ (a : MatchedArg). a.source) (option_map (λ e. e.1) o) ≡ source_in (option_map row_of o)
    go None = refl
    go (Some e) = refl

from_words : (row : Option Row) → source_in row ≡ Some CommandLine → option_and_then (λ (r : Row). slice_get r.values 0) row ≡ option_and_then row_text row
from_words None e = refl
from_words (Some r) e = rw e refl

pub text_given_by : (f : Found) (id : Text) (source : Option ValueSource) (text : Option Text) → source ≡ option_and_then (λ (a : MatchedArg). a.source) (matched_of f id) → source ≡ Some CommandLine
    → text ≡ first_value f id → text ≡ texts_found (rows_of f) id
text_given_by f id source text is from first = first ∙ first_value-rows f id ∙ from_words (find (λ r. bytes_eq r.id id) (rows_of f)) (sym (source-rows f id) ∙ sym is ∙ from)

by_default : (row : Option Row) → source_in row ≡ Some DefaultValue → option_and_then row_text row ≡ None
by_default None e = refl
by_default (Some r) e = rw e refl

unknown : (row : Option Row) → source_in row ≡ None → option_and_then row_text row ≡ None
unknown None e = refl
unknown (Some r) e = rw e refl

pub text_by_default : (f : Found) (id : Text) (source : Option ValueSource) → source ≡ option_and_then (λ (a : MatchedArg). a.source) (matched_of f id) → source ≡ Some DefaultValue → None ≡ texts_found (rows_of f) id
text_by_default f id source is from = sym (by_default (find (λ r. bytes_eq r.id id) (rows_of f)) (sym (source-rows f id) ∙ sym is ∙ from))

pub text_unknown : (f : Found) (id : Text) (source : Option ValueSource) → source ≡ option_and_then (λ (a : MatchedArg). a.source) (matched_of f id) → source ≡ None → None ≡ texts_found (rows_of f) id
text_unknown f id source is from = sym (unknown (find (λ r. bytes_eq r.id id) (rows_of f)) (sym (source-rows f id) ∙ sym is ∙ from))
