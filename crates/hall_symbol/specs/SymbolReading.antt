-- What the readers of a symbol compute.
--
-- symbol_of text: the lattice and the operations of a text
use Rattle.std.specs.Prelude.{ℕ, Bool, true, nat_le, nat_lt, if◌then◌else◌, List, [], ◌∷◌, ◌++◌, length, map, Option, Some, None}
use Rattle.space_ops.specs.declared.lattice.Lattice.{Lattice}
use Rattle.space_ops.specs.Lattice.{lattice_of}
use Rattle.space_ops.specs.declared.op.Op.{Op}
use Rattle.hall_symbol.specs.declared.generator.Generator.{Generator}
use Rattle.hall_symbol.specs.Operations.{op_at_origin, inversion_of}
use Rattle.iso_text.specs.Lines.{trimmed}
use Rattle.hall_symbol.specs.Steps.{◌>>=◌}
use Rattle.hall_symbol.specs.Generators.{generator_of}
use Rattle.hall_symbol.specs.WordReading.{words}
use Rattle.hall_symbol.specs.PartReading.{sign_at, part_in}
use Rattle.hall_symbol.specs.ShiftReading.{is_byte, shift_at}

-- the lattice that a word is
unfoldable pub lattice_in : List ℕ → Option Lattice
lattice_in [] = None
lattice_in (c ∷ []) = lattice_of c
lattice_in (c ∷ d ∷ cs) = None

unfoldable pub head_at : List (List ℕ) → Option (Bool × Lattice × List (List ℕ))
head_at [] = None
head_at (w ∷ ws) =
    let sign = sign_at w in
    lattice_in sign.1 >>= λ lattice.
    Some (sign.0, lattice, ws)

-- no part stands next
abbrev pub ends_parts : List (List ℕ) → Bool
ends_parts [] = true
ends_parts (w ∷ ws) = is_byte 40 w

-- the generator of the part that a word is, behind at most three parts
unfoldable pub generator_in : List Generator → List ℕ → Option Generator
generator_in before w = if nat_lt (length before) 4 then (part_in w >>= λ p. generator_of before p) else None

-- the generators with those before, and the words from `(` on
unfoldable pub parts_at : List Generator → List (List ℕ) → Option (List Generator × List (List ℕ))
parts_at before [] = Some (before, [])
parts_at before (w ∷ ws) = if is_byte 40 w then Some (before, w ∷ ws) else (generator_in before w >>= λ g. parts_at (before ++ g ∷ []) ws)

-- what is read of the words of a text
unfoldable pub symbol_at : List (List ℕ) → Option (Lattice × List Op)
symbol_at ws =
    head_at ws >>= λ head.
    parts_at [] head.2 >>= λ parts.
    shift_at parts.1 >>= λ shift.
    if nat_lt 0 (length parts.0) then Some (head.1, map (op_at_origin shift) (inversion_of head.0 ++ parts.0)) else None

-- what is read of a text
unfoldable pub symbol_of : List ℕ → Option (Lattice × List Op)
symbol_of text = if nat_le (length (trimmed text)) 80 then symbol_at (words (trimmed text)) else None
