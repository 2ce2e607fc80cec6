-- What the parts of the code that writes moves give.
--
-- are_nought f x y z: all three are 0
-- step_line number x y z: the line of the atom with this number; step_lines: nothing where it stays
-- unit_text axis place: an entry of a unit vector
-- unit_line number axis: the line of an atom that moves by 1 along an axis
-- entry_line number x: the line of the atom with this number, whose own is x; entry_lines: nothing where it is 0
use Rattle.std.specs.Prelude.{ℕ, ◌++◌, Bool, ◌&&◌, if◌then◌else◌, List, [], codes, decimal}
use Rattle.cyclo24.specs.FieldOn.{FieldOn}
use Rattle.cyclo24.specs.ExactK24.{Exact24, k24_laws}
use Rattle.cyclo24.specs.TextK24.{text24}
use Rattle.iso_text.specs.Lines.{line}
use Rattle.lin_alg.specs.Equations.{unit_vector}

-- all three are 0
abbrev pub are_nought : {K : Type 0} → FieldOn K → K → K → K → Bool
are_nought f x y z = f.is_nought x && f.is_nought y && f.is_nought z

-- the line of an atom that moves by x, y and z
abbrev pub step_line : ℕ → Exact24 → Exact24 → Exact24 → List ℕ
step_line number x y z = line (codes "move " ++ decimal number ++ codes " " ++ text24 x ++ codes " " ++ text24 y ++ codes " " ++ text24 z) []

-- nothing for an atom that stays
abbrev pub step_lines : ℕ → Exact24 → Exact24 → Exact24 → List ℕ
step_lines number x y z = if are_nought k24_laws x y z then [] else step_line number x y z

-- an entry of a unit vector
unfoldable pub unit_text : ℕ → ℕ → List ℕ
unit_text axis place = text24 (unit_vector k24_laws axis place)

-- the line of an atom that moves by 1 along an axis
abbrev pub unit_line : ℕ → ℕ → List ℕ
unit_line number axis = line (codes "move " ++ decimal number ++ codes " " ++ unit_text axis 0 ++ codes " " ++ unit_text axis 1 ++ codes " " ++ unit_text axis 2) []

-- the line of an atom with one number
abbrev pub entry_line : ℕ → Exact24 → List ℕ
entry_line number x = line (codes "move " ++ decimal number ++ codes " " ++ text24 x) []

-- nothing for an atom whose number is 0
abbrev pub entry_lines : ℕ → Exact24 → List ℕ
entry_lines number x = if k24_laws.is_nought x then [] else entry_line number x
