-- The lines of a file in their order.
--
-- sections f: the sections behind the parent, in their order, with the most items that each may have
-- empty_file format: no section yet
-- body_lines f, file_lines f: what the lines of a file say, without the last one and whole
use Rattle.std.specs.Prelude.{ℕ, List, [], ◌∷◌, ◌++◌, map, Option, Some, None}
use Rattle.std.specs.List.{flat_map}
use Rattle.std.specs.Option.{option_to_list}
use Rattle.iso_text.specs.FileValue.{File}
use Rattle.iso_text.specs.declared.line_kinds.Line.{Line}
use Rattle.iso_text.specs.declared.line_kinds.Line.TheVariants.{Head, Hall, Lattice, Op, Irrep, K, Mat, RealVector, Atom, Tolerance, Cell, Listed, Value, Axial, End}
use Rattle.iso_text.specs.declared.sections.IrrepText.{IrrepText}
use Rattle.iso_text.specs.declared.sections.OpsText.{OpsText}

-- a section: the lines of each of its items, and the most items
pub record Section : Type 0 where
  pub most : ℕ
  pub items : List (List Line)

abbrev pub section : ℕ → List (List Line) → Section
section most items = record { most = most; items = items }

-- one line for each value
abbrev pub each : {V : Type 0} → (V → Line) → List V → List (List Line)
each line vs = map (λ v. line v ∷ []) vs

-- the parent: a Hall symbol, or a lattice and operations
abbrev pub parent_lines : ℕ → List ℕ → Option OpsText → List Line
parent_lines n hall None = Hall n hall ∷ []
parent_lines n hall (Some g) = Lattice n g.letter ∷ map (λ o. Op o) g.ops

-- the lines of an irrep block
abbrev pub block_lines : IrrepText → List Line
block_lines i = Irrep (record { line = i.line; name = i.name; size = i.size }) ∷ K i.k ∷ (map (λ m. Mat m) i.mats ++ map (λ v. RealVector v) (option_to_list i.vector))

-- the sections behind the parent, in their order
abbrev pub sections : File → List Section
sections f =
    section 8 (map block_lines f.irreps)
    ∷ section 64 (each (λ a. Atom a) f.atoms)
    ∷ section 1 (each (λ t. Tolerance t) (option_to_list f.tolerance))
    ∷ section 1 (each (λ c. Cell c) (option_to_list f.cell))
    ∷ section 4096 (each (λ a. Listed a) f.listed)
    ∷ section 4096 (each (λ v. Value v) f.values)
    ∷ section 4096 (each (λ v. Axial v) f.axials)
    ∷ []

abbrev pub section_lines : Section → List Line
section_lines s = flat_map (λ item. item) s.items

-- the lines before the last
abbrev pub body_lines : File → List Line
body_lines f = Head f.format ∷ (parent_lines f.hall_line f.hall f.generators ++ flat_map section_lines (sections f))

-- the lines of a file in their order
abbrev pub file_lines : File → List Line
file_lines f = body_lines f ++ End ∷ []

-- no section yet
abbrev pub empty_file : ℕ → File
empty_file format = record {
  format = format;
  hall_line = 0;
  hall = [];
  generators = None;
  irreps = [];
  atoms = [];
  tolerance = None;
  cell = None;
  listed = [];
  values = [];
  axials = [];
}
