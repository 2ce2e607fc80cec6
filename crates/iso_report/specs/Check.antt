-- The report of `check`.
--
-- first_line format: the first line
-- supercell_line d order: the multipliers and the order
-- check_text d facts: the report on a parent group, its quotient and the irreps with their facts
-- check_head d, irrep_pieces p irreps facts, check_pieces r: the report in pieces
use Rattle.std.specs.Prelude.{ℕ, List, [], ◌∷◌, ◌++◌, length, map, flat_map, codes, decimal}
use Rattle.space_ops.specs.declared.lattice.Lattice.{Lattice}
use Rattle.space_ops.specs.Lattice.{centrings_of, letter_of}
use Rattle.super_group.specs.Supercell.{multiplier}
use Rattle.super_group.specs.Quotient.{order_of}
use Rattle.iso_text.specs.Lines.{line}
use Rattle.iso_text.specs.declared.sections.IrrepText.{IrrepText}
use Rattle.space_ops.specs.Group.{Parent}
use Rattle.report_steps.specs.Contexts.{Divided}
use Rattle.report_steps.specs.OpLines.{listed_line}
use Rattle.report_steps.specs.IrrepReport.{Facts, irrep_text, irreps_text}
use Rattle.report_steps.specs.Held.{facts_in}
use Rattle.iso_report.specs.declared.check.CheckReport.{CheckReport}

-- the line of the lattice
abbrev pub lattice_line : Lattice → ℕ → ℕ → List ℕ
lattice_line lattice centrings rotations = codes "lattice " ++ (letter_of lattice ∷ []) ++ codes " centrings " ++ decimal centrings ++ codes " rotations " ++ decimal rotations

-- the line of the supercell
abbrev pub supercell_line : List ℕ → ℕ → List ℕ
supercell_line d order =
    line (codes "supercell " ++ decimal (multiplier d 0) ++ codes " " ++ decimal (multiplier d 1) ++ codes " " ++ decimal (multiplier d 2) ++ codes " order " ++ decimal order) []

-- the first line, with the file's format
abbrev pub first_line : ℕ → List ℕ
first_line format = codes "isodist " ++ decimal format ++ codes " check"

-- the lattice, the listed operations in order, the supercell, and the irreps
abbrev pub check_text : Divided → List Facts → List ℕ
check_text d facts =
    let s = d.quotient in
    line (first_line d.file.format) (line (lattice_line s.parent.lattice (length (centrings_of s.parent.lattice)) (length s.parent.ops))
    (flat_map listed_line s.parent.ops ++ supercell_line s.d (order_of s) ++ irreps_text s.parent d.file.irreps facts))

-- the lines in front of the irreps: the lattice, the listed operations in order, the supercell
abbrev pub check_head : Divided → List ℕ
check_head d =
    let s = d.quotient in
    line (first_line d.file.format) (line (lattice_line s.parent.lattice (length (centrings_of s.parent.lattice)) (length s.parent.ops))
    (flat_map listed_line s.parent.ops ++ supercell_line s.d (order_of s)))

-- each irrep with its arms
abbrev pub irrep_pieces : Parent → List IrrepText → List Facts → List (List ℕ)
irrep_pieces p (i ∷ irreps) (f ∷ facts) = irrep_text p i f ∷ irrep_pieces p irreps facts
irrep_pieces p _ _ = []

-- the lines in front of the irreps, and each irrep with its arms
abbrev pub check_pieces : CheckReport → List (List ℕ)
check_pieces r = check_head r.file.divided ∷ irrep_pieces r.file.divided.quotient.parent r.file.divided.file.irreps (map facts_in r.file.irreps.items)
