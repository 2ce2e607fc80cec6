-- How a stabiliser is written: its pure translations, then an operation for each rotation.
--
-- members_with s hs r: the members with rotation r of the group's list
-- kept_lines s hs: the lines of its pure translations
-- least_member s hs r: of the members with rotation r that with the least translation in the supercell
-- op_lines s hs: their lines, in the order of the group's list
use Rattle.std.specs.Prelude.{ℕ, ◌/◌, List, [], ◌++◌, map, filter, filter_map, length, flat_map, Option, nat_eq, codes}
use Rattle.std.specs.List.{range_with_len, reduce}
use Rattle.std.specs.Ordering.{int_cmp, on, ord_min}
use Rattle.std.specs.Cmp.Lexicographic.{slice_cmp}
use Rattle.iso_text.specs.Lines.{line}
use Rattle.space_ops.specs.declared.op.Op.{Op}
use Rattle.space_ops.specs.Op.{op_of}
use Rattle.super_group.specs.Quotient.{SupercellGroup, element_of}
use Rattle.report_steps.specs.OpLines.{listed_line}
use Rattle.report_steps.specs.Fractions.{row_text}

-- the members with this rotation of the group's list, rising
abbrev pub members_with : SupercellGroup → List ℕ → ℕ → List ℕ
members_with s hs r = filter (λ a. nat_eq (a / length s.translations) r) hs

-- the line of a pure translation, as fractions of cell edges
abbrev pub kept_line : SupercellGroup → ℕ → List ℕ
kept_line s a = line (codes "kept " ++ row_text (element_of s a).shift) []

-- the lines of the members whose rotation is the identity
abbrev pub kept_lines : SupercellGroup → List ℕ → List ℕ
kept_lines s hs = flat_map (kept_line s) (members_with s hs 0)

-- an element as an operation, its translation inside the supercell
abbrev pub operation_of : SupercellGroup → ℕ → Op
operation_of s a = op_of (element_of s a)

-- the one whose translation comes first
abbrev pub earlier_op : Op → Op → Op
earlier_op = ord_min (on (λ op. op.shift) (slice_cmp int_cmp))

-- of the members with this rotation that with the least translation in the supercell
abbrev pub least_member : SupercellGroup → List ℕ → ℕ → Option Op
least_member s hs r = reduce earlier_op (map (operation_of s) (members_with s hs r))

-- the line of each rotation of the group's list that a member has
abbrev pub op_lines : SupercellGroup → List ℕ → List ℕ
op_lines s hs = flat_map listed_line (filter_map (least_member s hs) (range_with_len 0 (length s.parent.ops)))
