-- What is read of a text is what the grammar says of it.
--
-- symbol_of-sound: a text that is read is a Hall symbol with what is read
-- symbol_of-IsHallSymbol: a Hall symbol is read with its generators
-- IsHallSymbol-unique: a text has at most one lattice and one list of generators
use Rattle.std.proofs.Common.{◌≡◌, ℕ, ℤ, ◌+◌, ◌≤◌, ◌<◌, Bool, true, List, [], ◌∷◌, ◌++◌, nat_le, nat_lt, length, map, Some, sym, ap, ◌∙◌, arith, inl, inr, le-leb}
use Rattle.std.proofs.lemmas.List.{length-map}
use Rattle.std.proofs.lemmas.Bool.Decides.{nat_tests}
use Rattle.std.specs.List.{All}
use Rattle.space_ops.specs.declared.lattice.Lattice.{Lattice}
use Rattle.space_ops.specs.declared.op.Op.{Op}
use Rattle.hall_symbol.specs.declared.generator.Generator.{Generator}
use Rattle.hall_symbol.specs.Grammar.{head_text, IsOriginShift, IsHallSymbol}
use Rattle.hall_symbol.specs.Operations.{op_at_origin, inversion_of}
use Rattle.hall_symbol.specs.Spelling.{Spelling, IsSpelling, text_of, part_of}
use Rattle.hall_symbol.specs.Generators.{generators_of}
use Rattle.iso_text.specs.Lines.{trimmed}
use Rattle.hall_symbol.specs.WordReading.{words}
use Rattle.hall_symbol.specs.SymbolReading.{head_at, parts_at, symbol_at, symbol_of}
use Rattle.hall_symbol.specs.ShiftReading.{shift_at}
use Rattle.hall_symbol.proofs.Cases.{bind-some, chosen, lt-true, some-value}
use Rattle.hall_symbol.proofs.WordsGrammar.{AreWords-words, words-AreWords, words-trimmed}
use Rattle.hall_symbol.proofs.ShiftGrammar.{ends_parts-IsOriginShift, shift_at-IsOriginShift, shift_at-sound}
use Rattle.hall_symbol.proofs.HeadGrammar.{head_at-head_text, head_at-sound}
use Rattle.hall_symbol.proofs.PartListGrammar.{ReadsParts, is_word-symbol, length-generators_of, parts_at-parts, parts_at-sound}

-- what stands behind the head of a symbol
pub record ReadsSymbol (ws : List (List ℕ)) (lattice : Lattice) (ops : List Op) : Type 0 where
  pub inverted : Bool
  pub parts : List Spelling
  pub ending : List (List ℕ)
  pub shift : List ℤ
  pub generators : List Generator
  pub split : ws ≡ head_text inverted lattice ∷ (map text_of parts ++ ending)
  pub some : 0 < length parts
  pub few : length parts ≤ 4
  pub spelled : All IsSpelling parts
  pub shifted : IsOriginShift ending shift
  pub generated : generators_of [] (map part_of parts) ≡ Some generators
  pub ops_are : ops ≡ map (op_at_origin shift) (inversion_of inverted ++ generators)

-- what three readers gave
ReadsSymbol-read : (ws : List (List ℕ)) (l : Lattice) (ops : List Op) (head : Bool × Lattice × List (List ℕ)) (read : List Generator × List (List ℕ)) (shift : List ℤ)
    → ws ≡ head_text head.0 head.1 ∷ head.2 → ReadsParts [] head.2 read → IsOriginShift read.1 shift → 0 < length read.0
    → head.1 ≡ l → map (op_at_origin shift) (inversion_of head.0 ++ read.0) ≡ ops → ReadsSymbol ws l ops
ReadsSymbol-read ws l ops head read shift split parts shifted some lattice all =
    let size : length parts.generators ≡ length (map part_of parts.parts) = length-generators_of [] (map part_of parts.parts) parts.generators parts.generated in
    let same : length read.0 ≡ length parts.generators = ap length parts.joined in
    let few : 0 + length parts.parts ≤ 4 = parts.few (omega arith) in
    record {
      inverted = head.0;
      parts = parts.parts;
      ending = read.1;
      shift = shift;
      generators = parts.generators;
      split = split ∙ (λ i. head_text head.0 (lattice i) ∷ parts.split i);
      some = omega (arith, length-map parts.parts part_of);
      few = omega arith;
      spelled = parts.spelled;
      shifted = shifted;
      generated = parts.generated;
      ops_are = sym all ∙ ap (λ gs. map (op_at_origin shift) (inversion_of head.0 ++ gs)) parts.joined;
    }

symbol_at-sound : (ws : List (List ℕ)) (l : Lattice) (ops : List Op) → symbol_at ws ≡ Some (l, ops) → ReadsSymbol ws l ops
unfolding symbol_at
symbol_at-sound ws l ops h =
    let head = bind-some (head_at ws) _ (l, ops) h in
    let read = bind-some (parts_at [] head.0.2) _ (l, ops) head.2 in
    let shift = bind-some (shift_at read.0.1) _ (l, ops) read.2 in
    elim (chosen (nat_lt 0 (length read.0.0)) _ _ _ shift.2) [
      | inl (some, value) ↦
          let e = some-value _ _ value in
          ReadsSymbol-read ws l ops head.0 read.0 shift.0 (head_at-sound ws head.0 head.1) (parts_at-sound [] head.0.2 read.0 read.1) (shift_at-sound read.0.1 shift.0 shift.1) (lt-true 0 (length read.0.0) some) (ap (λ p. p.0) e) (ap (λ p. p.1) e)
      | inr (_, none) ↦ cc none
    ]

symbol_at-symbol : (ws : List (List ℕ)) (l : Lattice) (ops : List Op) → ReadsSymbol ws l ops → symbol_at ws ≡ Some (l, ops)
unfolding symbol_at
symbol_at-symbol ws l ops h =
    let head = ap head_at h.split ∙ head_at-head_text h.inverted l (map text_of h.parts ++ h.ending) in
    let parts = parts_at-parts [] h.parts h.generators h.ending h.spelled h.generated (omega (arith, h.few)) (ends_parts-IsOriginShift h.ending h.shift h.shifted) in
    let shift = shift_at-IsOriginShift h.ending h.shift h.shifted in
    let size : length h.generators ≡ length (map part_of h.parts) = length-generators_of [] (map part_of h.parts) h.generators h.generated in
    let some : 0 < length h.generators = omega (arith, length-map h.parts part_of, h.some) in
    let positive : nat_lt 0 (length h.generators) ≡ true = grind (arith, nat_tests) in
    rw (head, parts, shift, positive) (ap (λ os. Some (l, os)) (sym h.ops_are))

pub symbol_of-sound : (text : List ℕ) (l : Lattice) (ops : List Op) → symbol_of text ≡ Some (l, ops) → IsHallSymbol text l ops
unfolding symbol_of
symbol_of-sound text l ops h = elim (chosen (nat_le (length (trimmed text)) 80) _ _ _ h) [
  | inl (short, read) ↦
      let s = symbol_at-sound (words (trimmed text)) l ops read in
      record {
        inverted = s.inverted;
        parts = s.parts;
        ending = s.ending;
        shift = s.shift;
        generators = s.generators;
        short = grind (arith, nat_tests);
        words = AreWords-words (head_text s.inverted l ∷ (map text_of s.parts ++ s.ending)) text (is_word-symbol s.inverted l s.parts s.ending s.shift s.spelled s.shifted) (sym (words-trimmed text) ∙ s.split);
        some = s.some;
        few = s.few;
        spelled = s.spelled;
        shifted = s.shifted;
        generated = s.generated;
        ops_are = s.ops_are;
      }
  | inr (_, none) ↦ cc none
]

pub symbol_of-IsHallSymbol : (text : List ℕ) (l : Lattice) (ops : List Op) → IsHallSymbol text l ops → symbol_of text ≡ Some (l, ops)
unfolding symbol_of
symbol_of-IsHallSymbol text l ops h =
    let short : nat_le (length (trimmed text)) 80 ≡ true = le-leb (length (trimmed text)) 80 h.short in
    let read = words-AreWords (head_text h.inverted l ∷ (map text_of h.parts ++ h.ending)) text (is_word-symbol h.inverted l h.parts h.ending h.shift h.spelled h.shifted) h.words in
    rw short (symbol_at-symbol (words (trimmed text)) l ops (record {
      inverted = h.inverted;
      parts = h.parts;
      ending = h.ending;
      shift = h.shift;
      generators = h.generators;
      split = words-trimmed text ∙ read;
      some = h.some;
      few = h.few;
      spelled = h.spelled;
      shifted = h.shifted;
      generated = h.generated;
      ops_are = h.ops_are;
    }))

-- ---- one text, one list of generators

pub IsHallSymbol-unique : (text : List ℕ) (l m : Lattice) (ops more : List Op) → IsHallSymbol text l ops → IsHallSymbol text m more → (l ≡ m) × (ops ≡ more)
IsHallSymbol-unique text l m ops more g h =
    let e = some-value _ _ (sym (symbol_of-IsHallSymbol text l ops g) ∙ symbol_of-IsHallSymbol text m more h) in
    (ap (λ p. p.0) e, ap (λ p. p.1) e)
