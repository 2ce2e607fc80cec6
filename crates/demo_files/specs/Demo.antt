-- Demo files: each has one of four cubic groups, and an irrep V by which a polar or an axial vector
-- moves at the centre or at a corner of the Brillouin zone.
--
-- symbol_text number: the Hall symbol
-- wave_text number: the wave vector
-- factor_of number op: what the rotation is multiplied by, 1 or its determinant
-- matrix_line number op: the `mat` line of an operation
-- demo_text number ops: the file, by the listed operations of the group
-- IsDemoParent number group: the group of the Hall symbol, as the list of its operations
-- IsDemoFile number text: the text is the file of this number
use Rattle.std.specs.Prelude.{◌≡◌, ℕ, ◌/◌, ◌%◌, ◌==◌, if◌then◌else◌, true, ℤ, pos, ◌*ℤ◌, unsigned_abs, List, [], ◌∷◌, ◌++◌, take, flat_map, codes, decimal}
use Rattle.algebra.specs.Whole.{whole}
use Rattle.iso_text.specs.Lines.{line}
use Rattle.hall_symbol.specs.Grammar.{IsHallSymbol}
use Rattle.space_ops.specs.declared.op.Op.{Op}
use Rattle.space_ops.specs.Group.{Parent, IsParentGroup}
use Rattle.space_ops.specs.Matrix.{determinant}
use Rattle.space_ops.specs.Op.{number_at, row_at, matrix_of}
use Rattle.space_ops.specs.OpText.{sign_text, text_of}
use Rattle.space_ops.specs.Words.{HasTooManyRotations, HasExtraTranslation}

-- the Hall symbol, by the remainder of the number by 4
unfoldable pub symbol_text : ℕ → List ℕ
symbol_text number =
    let h = number % 4 in
    if h == 0 then codes "P 2 2 3" else (if h == 1 then codes "-P 2 2 3" else (if h == 2 then codes "P 4 2 3" else codes "-P 4 2 3"))

-- the centre where the fours in the number are even, else the corner
unfoldable pub wave_text : ℕ → List ℕ
wave_text number = if (number / 4) % 2 == 0 then codes "0 0 0" else codes "1/2 1/2 1/2"

-- 1 where the eights in the number are even, else the determinant
unfoldable pub factor_of : ℕ → Op → ℤ
factor_of number op = if (number / 8) % 2 == 0 then pos 1 else determinant whole (matrix_of op.rot)

-- a blank and a number
unfoldable pub entry_text : ℤ → List ℕ
entry_text z = codes " " ++ sign_text true z ++ decimal (unsigned_abs z)

-- three numbers, each times the factor
unfoldable pub entries_text : ℤ → List ℤ → List ℕ
entries_text c row = entry_text (c *ℤ number_at row 0) ++ entry_text (c *ℤ number_at row 1) ++ entry_text (c *ℤ number_at row 2)

-- the matrix of a rotation times the factor, row by row
unfoldable pub rows_text : ℤ → List (List ℤ) → List ℕ
rows_text c rot = entries_text c (row_at rot 0) ++ entries_text c (row_at rot 1) ++ entries_text c (row_at rot 2)

-- the operation and its matrix
unfoldable pub matrix_line : ℕ → Op → List ℕ
matrix_line number op = line (codes "mat " ++ text_of op ++ rows_text (factor_of number op) op.rot) []

-- the lines before those of the operations
unfoldable pub demo_head : ℕ → List ℕ
demo_head number = line (codes "isodist 1") (line (codes "hall " ++ symbol_text number) (line (codes "irrep V 3") (line (codes "k " ++ wave_text number) [])))

-- the atoms of a perovskite
unfoldable pub perovskite_lines : List ℕ
perovskite_lines = line (codes "atom Ti 0 0 0") (line (codes "atom Sr 1/2 1/2 1/2") (line (codes "atom O 1/2 0 0") []))

-- up to three atoms at general places
abbrev pub general_atoms : List (List ℕ)
general_atoms = codes "atom X1 1/24 1/12 1/8" ∷ codes "atom X2 1/24 1/12 1/6" ∷ codes "atom X3 1/24 1/12 5/24" ∷ []

-- as many of them as sixteens in the number
unfoldable pub general_lines : ℕ → List ℕ
general_lines number = flat_map (λ atom. line atom []) (take (number / 16) general_atoms)

-- the file, by the listed operations of the group
unfoldable pub demo_text : ℕ → List Op → List ℕ
demo_text number ops = demo_head number ++ flat_map (matrix_line number) ops ++ perovskite_lines ++ general_lines number ++ line (codes "end") []

-- the parent lists the group of the Hall symbol
pub record IsDemoParent (number : ℕ) (group : Parent) : Type 0 where
  pub symbol : IsHallSymbol (symbol_text number) group.lattice group.generators
  pub listed : IsParentGroup group
  pub few : HasTooManyRotations group.generators group.lattice → ⊥
  pub pure : HasExtraTranslation group.generators group.lattice → ⊥

-- the text is the file, by the operations of the parent of the Hall symbol
pub record IsDemoFile (number : ℕ) (text : List ℕ) : Type 0 where
  pub group : Parent
  pub is_parent : IsDemoParent number group
  pub text_is : text ≡ demo_text number group.ops
