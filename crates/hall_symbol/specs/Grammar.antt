-- Hall symbols, after S. R. Hall, Acta Cryst. A37 (1981) 517, in the profile that docs/FILE_FORMAT.md tells:
--
--     [-]LATTICE PART {PART} [( P Q R )]
--
-- IsNumber word z: an optional `-` and one or two digits, the number at most 12
-- IsOriginShift words v: the words of an origin shift v in twelfths, or none
-- IsHallSymbol text lattice ops: the text is a symbol of this lattice with these generators
use Rattle.std.specs.Prelude.{◌≡◌, ℕ, ◌+◌, ◌*◌, ◌≤◌, ◌<◌, ℤ, pos, neg_ℤ, Bool, true, false, List, [], ◌∷◌, ◌++◌, map, length, Some, ◌⊎◌}
use Rattle.std.specs.List.{All}
use Rattle.space_ops.specs.declared.lattice.Lattice.{Lattice}
use Rattle.space_ops.specs.Lattice.{letter_of}
use Rattle.space_ops.specs.declared.op.Op.{Op}
use Rattle.hall_symbol.specs.declared.generator.Generator.{Generator}
use Rattle.hall_symbol.specs.Operations.{op_at_origin, inversion_of}
use Rattle.hall_symbol.specs.Spelling.{Spelling, IsSpelling, text_of, part_of, sign_text}
use Rattle.hall_symbol.specs.Generators.{generators_of}
use Rattle.iso_text.specs.Lines.{trimmed}
use Rattle.hall_symbol.specs.Words.{AreWords, opening, closing}

-- [-]LATTICE
abbrev pub head_text : Bool → Lattice → List ℕ
head_text inverted lattice = sign_text inverted ++ (letter_of lattice ∷ [])

-- the number with its sign
abbrev pub signed_number : Bool → ℕ → ℤ
signed_number true n = neg_ℤ (pos n)
signed_number false n = pos n

-- one or two digits
abbrev pub IsCount : List ℕ → ℕ → Type 0
IsCount [] n = ⊥
IsCount (c ∷ []) n = (n ≤ 9) × (c ≡ 48 + n)
IsCount (c ∷ d ∷ []) n = (tens ones : ℕ) × (tens ≤ 9) × (ones ≤ 9) × (c ≡ 48 + tens) × (d ≡ 48 + ones) × (n ≡ 10 * tens + ones)
IsCount (c ∷ d ∷ e ∷ cs) n = ⊥

-- [-] and one or two digits of at most 12
pub record IsNumber (word : List ℕ) (z : ℤ) : Type 0 where
  pub negative : Bool
  pub digits : List ℕ
  pub count : ℕ
  pub text : word ≡ sign_text negative ++ digits
  pub digits_are : IsCount digits count
  pub small : count ≤ 12
  pub value : z ≡ signed_number negative count

-- ( P Q R ) with P, Q and R in twelfths
pub record IsWritten (words : List (List ℕ)) (v : List ℤ) : Type 0 where
  pub p : List ℕ
  pub q : List ℕ
  pub r : List ℕ
  pub x : ℤ
  pub y : ℤ
  pub z : ℤ
  pub words_are : words ≡ opening ∷ p ∷ q ∷ r ∷ closing ∷ []
  pub first : IsNumber p x
  pub second : IsNumber q y
  pub third : IsNumber r z
  pub value : v ≡ x ∷ y ∷ z ∷ []

-- no words for no shift, or the shift as it is written
abbrev pub IsOriginShift : List (List ℕ) → List ℤ → Type 0
IsOriginShift words v = ((words ≡ []) × (v ≡ pos 0 ∷ pos 0 ∷ pos 0 ∷ [])) ⊎ IsWritten words v

-- The text is a symbol of this lattice with these operations.
pub record IsHallSymbol (text : List ℕ) (lattice : Lattice) (ops : List Op) : Type 0 where
  -- what is written: whether `-` stands before the lattice, one to four parts, and an origin shift or none
  pub inverted : Bool
  pub parts : List Spelling
  pub ending : List (List ℕ)
  pub words : AreWords (head_text inverted lattice ∷ (map text_of parts ++ ending)) text
  pub some : 0 < length parts
  pub few : length parts ≤ 4
  pub spelled : All IsSpelling parts
  -- at most 80 bytes between the blanks at the ends
  pub short : length (trimmed text) ≤ 80
  -- what it means: each part has a generator behind those before it
  pub shift : List ℤ
  pub shifted : IsOriginShift ending shift
  pub generators : List Generator
  pub generated : generators_of [] (map part_of parts) ≡ Some generators
  -- the inversion first, where there is one, then the parts, all seen from the shifted origin
  pub ops_are : ops ≡ map (op_at_origin shift) (inversion_of inverted ++ generators)
