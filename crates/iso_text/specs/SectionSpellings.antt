-- What the words of each kind of line spell.
--
-- is_letter letter: one of the seven letters of the lattices
-- SpellsFormat, SpellsHall, SpellsLetter, SpellsIrrep, SpellsMat, SpellsCell, SpellsValue, SpellsAxial: the kinds of lines with several words
use Rattle.std.specs.Prelude.{◌≡◌, ◌⊎◌, ℕ, ◌+◌, ◌<◌, ◌≤◌, ◌==◌, Bool, true, List, [], ◌∷◌, ◌++◌, length, codes}
use Rattle.std.specs.List.{list_any}
use Rattle.iso_text.specs.Lines.{trimmed}
use Rattle.iso_text.specs.Name.{is_name}
use Rattle.iso_text.specs.OperationSpellings.{SpellsOperation}
use Rattle.iso_text.specs.Spellings.{SpellsKFraction, SpellsPlace}
use Rattle.iso_text.specs.SumSpellings.{SpellsNumber}
use Rattle.iso_text.specs.WordSpellings.{AreBlanks, Each, Three, SpellsSite}
use Rattle.iso_text.specs.declared.line_kinds.IrrepLine.{IrrepLine}
use Rattle.iso_text.specs.declared.numbers.Frac.{Frac}
use Rattle.iso_text.specs.declared.sections.AxialText.{AxialText}
use Rattle.iso_text.specs.declared.sections.CellText.{CellText}
use Rattle.iso_text.specs.declared.sections.MatText.{MatText}
use Rattle.iso_text.specs.declared.sections.ValueText.{ValueText}

-- the letters of the lattices
abbrev pub lattice_letters : List ℕ
lattice_letters = codes "PABCIRF"

abbrev pub is_letter : ℕ → Bool
is_letter letter = list_any (λ c. c == letter) lattice_letters

-- the number of a format
abbrev pub SpellsFormat : List (List ℕ) → ℕ → Type 0
SpellsFormat words format = ((words ≡ codes "1" ∷ []) × (format ≡ 1)) ⊎ ((words ≡ codes "2" ∷ []) × (format ≡ 2))

-- `hall`, blanks, and a text that neither begins nor ends with one
pub record SpellsHall (text symbol : List ℕ) : Type 0 where
  pub indent : List ℕ
  pub gap : List ℕ
  pub trail : List ℕ
  pub joined : text ≡ indent ++ (codes "hall" ++ (gap ++ (symbol ++ trail)))
  pub indent_blank : AreBlanks indent
  pub gap_blank : AreBlanks gap
  pub gap_some : 0 < length gap
  pub trail_blank : AreBlanks trail
  pub some : 0 < length symbol
  pub bare : trimmed symbol ≡ symbol

-- one of the seven letters
pub record SpellsLetter (words : List (List ℕ)) (letter : ℕ) : Type 0 where
  pub joined : words ≡ (letter ∷ []) ∷ []
  pub known : is_letter letter ≡ true

-- a name, and one digit from 1 to 6
pub record SpellsIrrep (words : List (List ℕ)) (i : IrrepLine) : Type 0 where
  pub joined : words ≡ i.name ∷ ((48 + i.size) ∷ []) ∷ []
  pub name : is_name i.name ≡ true
  pub some : 1 ≤ i.size
  pub few : i.size ≤ 6

-- an operation, and at most 36 numbers, those of the largest matrix
pub record SpellsMat (words : List (List ℕ)) (m : MatText) : Type 0 where
  pub operation : List ℕ
  pub numbers : List (List ℕ)
  pub joined : words ≡ operation ∷ numbers
  pub spelled : SpellsOperation operation m.op
  pub entries : Each SpellsNumber numbers m.entries
  pub few : length numbers ≤ 36

-- nine fractions row by row, and three coordinates
pub record SpellsCell (words : List (List ℕ)) (c : CellText) : Type 0 where
  pub first : List (List ℕ)
  pub second : List (List ℕ)
  pub third : List (List ℕ)
  pub behind : List (List ℕ)
  pub row1 : List Frac
  pub row2 : List Frac
  pub row3 : List Frac
  pub joined : words ≡ first ++ (second ++ (third ++ behind))
  pub along1 : Three SpellsKFraction first row1
  pub along2 : Three SpellsKFraction second row2
  pub along3 : Three SpellsKFraction third row3
  pub rows : c.rows ≡ row1 ∷ row2 ∷ row3 ∷ []
  pub origin : Three SpellsPlace behind c.origin

-- a label, three coordinates, and an amount
pub record SpellsValue (words : List (List ℕ)) (v : ValueText) : Type 0 where
  pub site : List (List ℕ)
  pub amount : List ℕ
  pub joined : words ≡ site ++ amount ∷ []
  pub placed : SpellsSite site v.label v.place
  pub spelled : SpellsPlace amount v.value

-- a label, three coordinates, and the three components of a vector
pub record SpellsAxial (words : List (List ℕ)) (v : AxialText) : Type 0 where
  pub site : List (List ℕ)
  pub components : List (List ℕ)
  pub joined : words ≡ site ++ components
  pub placed : SpellsSite site v.label v.place
  pub spelled : Three SpellsPlace components v.value
