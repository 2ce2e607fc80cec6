-- What a line says is within the ranges of the format.
--
-- IsLine line: what the line says is within its ranges
-- said_lines: what lines say
use Rattle.std.proofs.Common.{◌≡◌, ◌⊎◌, ℕ, ℤ, pos, ◌+◌, ◌<◌, ◌≤◌, ◌≤ℤ◌, true, List, [], ◌∷◌, length, sym, subst, inl, inr, arith}
use Rattle.std.specs.List.{All}
use Rattle.std.proofs.lemmas.List.Elements.{All-nil, All-cons}
use Rattle.iso_text.proofs.OperationRangeLemmas.{operation-in_range, AreThree-of}
use Rattle.iso_text.proofs.WordRangeLemmas.{number-in_range, fraction-in_range, place-in_range, tolerance-in_range, each-in_range, each-length, three-in_range}
use Rattle.iso_text.specs.LineSpellings.{Says, SpellsLine, SayLines}
use Rattle.iso_text.specs.Name.{is_name}
use Rattle.iso_text.specs.Ranges.{IsVector, IsSite, IsCell}
use Rattle.iso_text.specs.SectionSpellings.{is_letter, SpellsFormat, SpellsMat, SpellsCell, SpellsValue, SpellsAxial}
use Rattle.iso_text.specs.Spellings.{SpellsKFraction, SpellsPlace}
use Rattle.iso_text.specs.SumSpellings.{SpellsNumber}
use Rattle.iso_text.specs.WordRanges.{IsNumber, IsFraction, IsPlace, IsOperation, AreThree}
use Rattle.iso_text.specs.WordSpellings.{SpellsSite}
use Rattle.iso_text.specs.declared.line_kinds.Line.{Line}
use Rattle.iso_text.specs.declared.line_kinds.Line.TheVariants.{Skip, Bad, Head, Hall, Lattice, Op, Irrep, K, Mat, RealVector, Atom, Tolerance, Cell, Listed, Value, Axial, End}
use Rattle.iso_text.specs.declared.sections.AxialText.{AxialText}
use Rattle.iso_text.specs.declared.sections.CellText.{CellText}
use Rattle.iso_text.specs.declared.sections.MatText.{MatText}
use Rattle.iso_text.specs.declared.sections.ValueText.{ValueText}

-- what the line says is within its ranges
abbrev pub IsLine : Line → Type 0
IsLine Skip = Unit {0}
IsLine Bad = Unit {0}
IsLine (Head format) = (format ≡ 1) ⊎ (format ≡ 2)
IsLine (Hall n symbol) = 0 < length symbol
IsLine (Lattice n letter) = is_letter letter ≡ true
IsLine (Op o) = IsOperation o.op
IsLine (Irrep i) = (is_name i.name ≡ true) × (1 ≤ i.size) × (i.size ≤ 6)
IsLine (K k) = AreThree IsFraction k
IsLine (Mat m) = IsOperation m.op × All IsNumber m.entries
IsLine (RealVector v) = IsVector v
IsLine (Atom a) = IsSite a.label a.place
IsLine (Tolerance t) = (pos 0 ≤ℤ t) × (t ≤ℤ pos 2999999)
IsLine (Cell c) = IsCell c
IsLine (Listed a) = IsSite a.label a.place
IsLine (Value v) = IsSite v.label v.place × IsPlace v.value
IsLine (Axial v) = IsSite v.label v.place × AreThree IsPlace v.value
IsLine End = Unit {0}

format_is : (words : List (List ℕ)) (format : ℕ) → SpellsFormat words format → (format ≡ 1) ⊎ (format ≡ 2)
format_is words format (inl w) = inl w.1
format_is words format (inr w) = inr w.1

site-in_range : (words : List (List ℕ)) (label : List ℕ) (place : List ℤ) → SpellsSite words label place → IsSite label place
site-in_range words label place s = record { name = s.name; place_is = three-in_range SpellsPlace IsPlace place-in_range s.coordinates place s.places }

mat-in_range : (words : List (List ℕ)) (m : MatText) → SpellsMat words m → IsOperation m.op × All IsNumber m.entries
mat-in_range words m s = (operation-in_range s.operation m.op s.spelled, each-in_range SpellsNumber IsNumber number-in_range s.numbers m.entries s.entries)

cell-in_range : (words : List (List ℕ)) (c : CellText) → SpellsCell words c → IsCell c
cell-in_range words c s =
    let Row = AreThree IsFraction in
    let row = three-in_range SpellsKFraction IsFraction fraction-in_range in
    record {
      rows = subst (AreThree Row) (sym s.rows) (AreThree-of Row s.row1 s.row2 s.row3 (row s.first s.row1 s.along1) (row s.second s.row2 s.along2) (row s.third s.row3 s.along3));
      origin = three-in_range SpellsPlace IsPlace place-in_range s.behind c.origin s.origin;
    }

value-in_range : (words : List (List ℕ)) (v : ValueText) → SpellsValue words v → IsSite v.label v.place × IsPlace v.value
value-in_range words v s = (site-in_range s.site v.label v.place s.placed, place-in_range s.amount v.value s.spelled)

axial-in_range : (words : List (List ℕ)) (v : AxialText) → SpellsAxial words v → IsSite v.label v.place × AreThree IsPlace v.value
axial-in_range words v s = (site-in_range s.site v.label v.place s.placed, three-in_range SpellsPlace IsPlace place-in_range s.components v.value s.spelled)

words-in_range : (n : ℕ) (words : List (List ℕ)) (line : Line) → Says n words line → IsLine line
words-in_range n words Skip s = tt
words-in_range n words Bad s = tt
words-in_range n words (Head format) s = format_is words format s
words-in_range n words (Hall line symbol) s = absurd s
words-in_range n words (Lattice line letter) s = s.1.known
words-in_range n words (Op o) s = operation-in_range s.1 o.op s.3
words-in_range n words (Irrep i) s = (s.1.name, s.1.some, s.1.few)
words-in_range n words (K k) s = three-in_range SpellsKFraction IsFraction fraction-in_range words k s
words-in_range n words (Mat m) s = mat-in_range words m s.1
words-in_range n words (RealVector v) s =
    let count = each-length SpellsNumber IsNumber number-in_range words v.numbers s.3 in
    record { some = omega (arith, count, s.1); few = omega (arith, count, s.2); each = each-in_range SpellsNumber IsNumber number-in_range words v.numbers s.3 }
words-in_range n words (Atom a) s = site-in_range words a.label a.place s.1
words-in_range n words (Tolerance t) s = tolerance-in_range s.0 t s.2
words-in_range n words (Cell c) s = cell-in_range words c s.1
words-in_range n words (Listed a) s = site-in_range words a.label a.place s.1
words-in_range n words (Value v) s = value-in_range words v s.1
words-in_range n words (Axial v) s = axial-in_range words v s.1
words-in_range n words End s = tt

line-in_range : (n : ℕ) (text : List ℕ) (line : Line) → SpellsLine n text line → IsLine line
line-in_range n text (Hall line symbol) s = s.1.some
line-in_range n text line s = words-in_range n s.0 line s.2

-- what lines say is within their ranges
pub said_lines : (n : ℕ) (lines : List (List ℕ)) (said : List Line) → SayLines n lines said → All IsLine said
said_lines n [] said s = subst (λ ls. All IsLine ls) (sym s) (All-nil IsLine)
said_lines n (text ∷ lines) said (inl w) = said_lines (n + 1) lines said w.1
said_lines n (text ∷ lines) said (inr w) = subst (λ ls. All IsLine ls) (sym w.2) (All-cons IsLine w.0 w.1 (line-in_range n text w.0 w.3.spelled) (said_lines (n + 1) lines w.1 w.4))
