-- The grammar of operations, by how each is put together.
--
-- SpellsPart negative text part: a term of a coordinate without its sign
-- SpellsRow text row: a coordinate
-- SpellsOperation text op: three coordinates joined by `,`
use Rattle.std.specs.Prelude.{◌≡◌, ◌⊎◌, ℕ, ℤ, ◌*◌, ◌/◌, ◌%◌, ◌≤◌, Bool, List, [], ◌++◌, codes, Option, Some, None}
use Rattle.std.specs.List.{filter_map}
use Rattle.std.specs.Option.{option_to_list}
use Rattle.iso_text.specs.Fractions.{signed}
use Rattle.iso_text.specs.Operations.{rows}
use Rattle.iso_text.specs.Spellings.{SpellsRatio}
use Rattle.iso_text.specs.SumSpellings.{SpellsSum}
use Rattle.iso_text.specs.declared.operation_words.Part.{Part}
use Rattle.iso_text.specs.declared.operation_words.Part.TheVariants.{X, Y, Z, Shift}
use Rattle.iso_text.specs.declared.operation_words.Row.{Row}
use Rattle.iso_text.specs.declared.numbers.OpText.{OpText}

-- nothing for 1, or the digit 2 or 3
abbrev pub SpellsFactor : List ℕ → ℕ → Type 0
SpellsFactor text n = ((text ≡ []) × (n ≡ 1)) ⊎ ((text ≡ codes "2") × (n ≡ 2)) ⊎ ((text ≡ codes "3") × (n ≡ 3))

-- the letters, times a coefficient
abbrev pub SpellsLetter : ℤ → List ℕ → Part → Type 0
SpellsLetter a text part = ((text ≡ codes "x") × (part ≡ X a)) ⊎ ((text ≡ codes "y") × (part ≡ Y a)) ⊎ ((text ≡ codes "z") × (part ≡ Z a))

-- a letter, optionally with 2 or 3 before it
pub record SpellsAxis (negative : Bool) (text : List ℕ) (part : Part) : Type 0 where
  pub factor : List ℕ
  pub letter : List ℕ
  pub amount : ℕ
  pub joined : text ≡ factor ++ letter
  pub times : SpellsFactor factor amount
  pub spelled : SpellsLetter (signed negative amount) letter part

-- a fraction: one to three digits of at most 120, over 1, 2, 3, 4, 6 or 12, in twelfths
pub record SpellsShift (negative : Bool) (text : List ℕ) (part : Part) : Type 0 where
  pub num : ℕ
  pub den : ℕ
  pub ratio : SpellsRatio 3 text num den
  pub small : num ≤ 120
  pub divisor : 12 % den ≡ 0
  pub value : part ≡ Shift (signed negative (num * (12 / den)))

-- a term of a coordinate without its sign
abbrev pub SpellsPart : Bool → List ℕ → Part → Type 0
SpellsPart negative text part = SpellsAxis negative text part ⊎ SpellsShift negative text part

-- the coefficient of each letter, and the shift, where the term has it
abbrev pub in_x : Part → Option ℤ
in_x (X a) = Some a
in_x _ = None

abbrev pub in_y : Part → Option ℤ
in_y (Y a) = Some a
in_y _ = None

abbrev pub in_z : Part → Option ℤ
in_z (Z a) = Some a
in_z _ = None

abbrev pub in_shift : Part → Option ℤ
in_shift (Shift a) = Some a
in_shift _ = None

-- a coordinate: one or more terms in any order; the row's entries are what stands of each letter and of the fraction, at most one
pub record SpellsRow (text : List ℕ) (row : Row) : Type 0 where
  pub parts : List Part
  pub sum : SpellsSum SpellsPart text parts
  pub x : filter_map in_x parts ≡ option_to_list row.x
  pub y : filter_map in_y parts ≡ option_to_list row.y
  pub z : filter_map in_z parts ≡ option_to_list row.z
  pub shift : filter_map in_shift parts ≡ option_to_list row.shift

-- three coordinates joined by `,`; an entry that doesn't stand there is 0
pub record SpellsOperation (text : List ℕ) (op : OpText) : Type 0 where
  pub first : List ℕ
  pub second : List ℕ
  pub third : List ℕ
  pub a : Row
  pub b : Row
  pub c : Row
  pub joined : text ≡ first ++ (codes "," ++ (second ++ (codes "," ++ third)))
  pub along_a : SpellsRow first a
  pub along_b : SpellsRow second b
  pub along_c : SpellsRow third c
  pub value : op ≡ rows a b c
