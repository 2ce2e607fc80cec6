-- The grammar of coordinates of operations, and of operations, against their functions.
use Rattle.std.proofs.Common.{◌≡◌, ℕ, List, [], ◌∷◌, ◌++◌, drop, Some, refl, sym, ◌∙◌, ap}
use Rattle.std.specs.Prelude.{option_and_then}
use Rattle.std.specs.Option.{option_map}
use Rattle.iso_text.specs.Cuts.{front, back, behind, cut_at, is_byte, is_sign}
use Rattle.iso_text.specs.Operations.{part_of, empty_row, with_parts, row_of, rows, operation_of}
use Rattle.iso_text.specs.OperationSpellings.{SpellsPart, SpellsRow, SpellsOperation}
use Rattle.iso_text.specs.SumSpellings.{SpellsSum}
use Rattle.iso_text.specs.declared.numbers.OpText.{OpText}
use Rattle.iso_text.specs.declared.operation_words.Part.{Part}
use Rattle.iso_text.specs.declared.operation_words.Row.{Row}
use Rattle.iso_text.proofs.PartSpellings.{part-sound, part-complete, part_unsigned, part_uncut}
use Rattle.iso_text.proofs.RowLemmas.{fill-sound, fill-complete, parts-sound, parts-complete}
use Rattle.iso_text.proofs.SpellingLemmas.{Stops, Free, front-append, front-back, is_this, none_some, map_some}
use Rattle.iso_text.proofs.Steps.{bind}
use Rattle.iso_text.proofs.SumLemmas.{read_all, sum-sound, sum-complete, sum_free}

pub row-sound : (text : List ℕ) (row : Row) → row_of text ≡ Some row → SpellsRow text row
row-sound [] row e = none_some e
row-sound (c ∷ cs) row e =
    let one = parts-sound empty_row (cut_at is_sign (c ∷ cs)) row e in
    let fills = fill-sound empty_row one.0 row one.2 in
    record { parts = one.0; sum = sum-sound part_of (λ n t v. SpellsPart n t v) (λ n t v read. part-sound n t v read) c cs one.0 one.1; x = fills.x; y = fills.y; z = fills.z; shift = fills.shift }

all_parts : (text : List ℕ) (parts : List Part) → SpellsSum SpellsPart text parts → read_all part_of (cut_at is_sign text) ≡ Some parts
all_parts text parts s = sum-complete part_of (λ n t v. SpellsPart n t v) (λ n t v spelled. part-complete n t v spelled) (λ n t v spelled. part_unsigned n t v spelled) text parts refl s

filled : (text : List ℕ) (row : Row) → SpellsRow text row → with_parts empty_row (cut_at is_sign text) ≡ Some row
filled text row s = parts-complete empty_row (cut_at is_sign text) s.parts row (all_parts text s.parts s.sum) (fill-complete empty_row s.parts row (record { x = s.x; y = s.y; z = s.z; shift = s.shift }))

no_parts : {A : Type 0} (parts rest : List Part) (first : Part) → Some [] ≡ Some parts → parts ≡ first ∷ rest → A
no_parts parts rest first e values = absurd (cc)

pub row-complete : (text : List ℕ) (row : Row) → SpellsRow text row → row_of text ≡ Some row
row-complete [] row s = no_parts s.parts s.sum.rest s.sum.first (all_parts [] s.parts s.sum) s.sum.values
row-complete (c ∷ cs) row s = filled (c ∷ cs) row s

row_uncut : (text : List ℕ) (row : Row) → SpellsRow text row → Free (is_byte 44) text
row_uncut text row s = sum_free (λ n t v. SpellsPart n t v) (is_byte 44) (λ n t v spelled. part_uncut n t v spelled) refl refl text s.parts s.sum

-- a text with a coordinate behind its first comma
comma : (text rest : List ℕ) (row : Row) → back (is_byte 44) text ≡ rest → Stops (is_byte 44) rest → row_of (front (is_byte 44) (drop 1 rest)) ≡ Some row → rest ≡ 44 ∷ behind (is_byte 44) text
comma text [] row is stops e = none_some e
comma text (c ∷ rest) row is stops e = ap (λ x. x ∷ rest) (is_this c 44 stops) ∙ ap (λ x. 44 ∷ x) (sym (ap (λ x. drop 1 x) is))

last_comma : (text rest : List ℕ) (row : Row) → back (is_byte 44) text ≡ rest → Stops (is_byte 44) rest → row_of (drop 1 rest) ≡ Some row → rest ≡ 44 ∷ behind (is_byte 44) text
last_comma text [] row is stops e = none_some e
last_comma text (c ∷ rest) row is stops e = ap (λ x. x ∷ rest) (is_this c 44 stops) ∙ ap (λ x. 44 ∷ x) (sym (ap (λ x. drop 1 x) is))

pub operation-sound : (text : List ℕ) (op : OpText) → operation_of text ≡ Some op → SpellsOperation text op
operation-sound text op e =
    let more = behind (is_byte 44) text in
    let last = behind (is_byte 44) more in
    let one = bind (row_of (front (is_byte 44) text)) (λ a. option_and_then (λ b. option_map (λ c. rows a b c) (row_of last)) (row_of (front (is_byte 44) more))) op e in
    let two = bind (row_of (front (is_byte 44) more)) (λ b. option_map (λ c. rows one.0 b c) (row_of last)) op one.2 in
    let three = map_some (λ c. rows one.0 two.0 c) (row_of last) op two.2 in
    let outer = front-back (is_byte 44) text in
    let inner = front-back (is_byte 44) more in
    let at : back (is_byte 44) text ≡ 44 ∷ more = comma text (back (is_byte 44) text) two.0 refl outer.1 two.1 in
    let then : back (is_byte 44) more ≡ 44 ∷ last = last_comma more (back (is_byte 44) more) three.0 refl inner.1 three.1 in
    record {
      first = front (is_byte 44) text;
      second = front (is_byte 44) more;
      third = last;
      a = one.0;
      b = two.0;
      c = three.0;
      joined = sym outer.0 ∙ ap (λ x. front (is_byte 44) text ++ x) (at ∙ ap (λ x. 44 ∷ x) (sym inner.0 ∙ ap (λ x. front (is_byte 44) more ++ x) then));
      along_a = row-sound (front (is_byte 44) text) one.0 one.1;
      along_b = row-sound (front (is_byte 44) more) two.0 two.1;
      along_c = row-sound last three.0 three.1;
      value = sym three.2;
    }

-- the cut of a text at its first comma
cut_comma : (item rest : List ℕ) → Free (is_byte 44) item → (front (is_byte 44) (item ++ (44 ∷ rest)) ≡ item) × (behind (is_byte 44) (item ++ (44 ∷ rest)) ≡ rest)
cut_comma item rest free =
    let parts = front-append (is_byte 44) item (44 ∷ rest) free refl in
    (parts.0, ap (λ x. drop 1 x) parts.1)

by_texts : (text first more second third : List ℕ) (a b c : Row) → front (is_byte 44) text ≡ first → behind (is_byte 44) text ≡ more → front (is_byte 44) more ≡ second → behind (is_byte 44) more ≡ third
    → row_of first ≡ Some a → row_of second ≡ Some b → row_of third ≡ Some c → operation_of text ≡ Some (rows a b c)
by_texts text first more second third a b c is_first is_more is_second is_third along_a along_b along_c =
    let then = λ (m : List ℕ) (x : Row). option_and_then (λ y. option_map (λ z. rows x y z) (row_of (behind (is_byte 44) m))) (row_of (front (is_byte 44) m)) in
    ap (λ m. option_and_then (λ x. then m x) (row_of (front (is_byte 44) text))) is_more
    ∙ ap (λ o. option_and_then (λ x. then more x) o) (ap row_of is_first ∙ along_a)
    ∙ ap (λ o. option_and_then (λ y. option_map (λ z. rows a y z) (row_of (behind (is_byte 44) more))) o) (ap row_of is_second ∙ along_b)
    ∙ ap (λ o. option_map (λ z. rows a b z) o) (ap row_of is_third ∙ along_c)

pub operation-complete : (text : List ℕ) (op : OpText) → SpellsOperation text op → operation_of text ≡ Some op
operation-complete text op s =
    let more = s.second ++ (44 ∷ s.third) in
    let outer = cut_comma s.first more (row_uncut s.first s.a s.along_a) in
    let inner = cut_comma s.second s.third (row_uncut s.second s.b s.along_b) in
    ap operation_of s.joined
    ∙ by_texts (s.first ++ (44 ∷ more)) s.first more s.second s.third s.a s.b s.c outer.0 outer.1 inner.0 inner.1 (row-complete s.first s.a s.along_a) (row-complete s.second s.b s.along_b) (row-complete s.third s.c s.along_c)
    ∙ ap (λ x. Some x) (sym s.value)
