-- Where a reader of lines stands: what it has read so far, and what a line makes of that. The
-- definition of a file doesn't speak of it.
--
-- has_room n sections: section n is short of its most items, and those behind it are empty
-- next_of d line: the draft with the line, or None where the line can't stand there
use Rattle.std.specs.Prelude.{◌≡◌, ℕ, zero, suc, ◌==◌, ◌&&◌, ◌||◌, not, nat_lt, List, [], ◌∷◌, ◌++◌, length, map, Bool, false, if◌then◌else◌, Option, Some, None, is_some, option_and_then}
use Rattle.std.specs.List.{list_all}
use Rattle.iso_text.specs.FileValue.{File}
use Rattle.iso_text.specs.FileLines.{Section, sections, empty_file}
use Rattle.iso_text.specs.LineKinds.{kind_of}
use Rattle.iso_text.specs.declared.draft.Draft.{Draft}
use Rattle.iso_text.specs.declared.draft.Stage.{Stage}
use Rattle.iso_text.specs.declared.draft.Stage.TheVariants as stage
use Rattle.iso_text.specs.declared.line_kinds.Line.{Line}
use Rattle.iso_text.specs.declared.line_kinds.Line.TheVariants.{Skip, Bad, Head, Hall, Lattice, Op, Irrep, K, Mat, RealVector, Atom, Tolerance, Cell, Listed, Value, Axial, End}
use Rattle.iso_text.specs.declared.read_error.ReadError.{ReadError}
use Rattle.iso_text.specs.declared.read_error.ReadError.TheVariants.{BadText, NoMemory}
use Rattle.iso_text.specs.DraftLines.{draft, settled, on_head, on_hall, on_lattice, on_op, on_irrep, on_k, on_mat, on_vector}

-- how many items each section has
abbrev pub counts_of : File → List ℕ
counts_of f = map (λ s. length s.items) (sections f)

-- section n is short of its most items, and those behind it are empty
abbrev pub has_room : ℕ → List Section → Bool
has_room n [] = false
has_room zero (s ∷ behind) = nat_lt (length s.items) s.most && list_all (λ t. length t.items == 0) behind
has_room (suc n) (s ∷ behind) = has_room n behind

-- the sections of format 2 alone, and those that ask for a tolerance line
abbrev pub is_second : ℕ → Bool
is_second n = n == 3 || (n == 5 || n == 6)

abbrev pub is_matched : ℕ → Bool
is_matched n = n == 3 || n == 4

-- whether an item of this section may stand next
abbrev pub section_takes : ℕ → File → Bool
section_takes n f = has_room n (sections f) && (not (is_second n) || f.format == 2) && (not (is_matched n) || is_some f.tolerance)

-- the section that a line begins or goes on with
abbrev pub section_of : Line → Option ℕ
section_of (Irrep h) = Some 0
section_of (Atom a) = Some 1
section_of (Tolerance t) = Some 2
section_of (Cell c) = Some 3
section_of (Listed a) = Some 4
section_of (Value v) = Some 5
section_of (Axial v) = Some 6
section_of _ = None

-- the draft with an item of a section
abbrev pub with_line : Line → File → Option Draft
with_line (Irrep h) f = on_irrep h f
with_line (Atom a) f = Some (draft stage.Body (record f { atoms = f.atoms ++ a ∷ [] }))
with_line (Tolerance t) f = Some (draft stage.Body (record f { tolerance = Some t }))
with_line (Cell c) f = Some (draft stage.Body (record f { cell = Some c }))
with_line (Listed a) f = Some (draft stage.Body (record f { listed = f.listed ++ a ∷ [] }))
with_line (Value v) f = Some (draft stage.Body (record f { values = f.values ++ v ∷ [] }))
with_line (Axial v) f = Some (draft stage.Body (record f { axials = f.axials ++ v ∷ [] }))
with_line _ f = None

-- a line that begins or goes on with a section, or ends the file
abbrev pub on_section : Line → File → Option Draft
on_section End f = Some (draft stage.Done f)
on_section line f = option_and_then (λ n. if section_takes n f then with_line line f else None) (section_of line)

-- the draft with the line
abbrev pub next_of : Draft → Line → Option Draft
next_of d Skip = Some d
next_of d Bad = None
next_of d (Head format) = on_head format d.stage
next_of d (Hall n text) = on_hall n text d.stage d.document
next_of d (Lattice n letter) = on_lattice n letter d.stage d.document
next_of d (Op o) = on_op o d.stage d.document
next_of d (K k) = on_k k d.stage d.document
next_of d (Mat m) = on_mat m d.stage d.document
next_of d (RealVector v) = on_vector v d.stage d.document
next_of d line = option_and_then (on_section line) (settled d.stage d.document)

-- nothing is read yet
abbrev pub begin : Draft
begin = draft stage.Begin (empty_file 1)

-- the file where the end is read
abbrev pub finished : Draft → Option File
finished d = done d.stage d.document
  where
    done : Stage → File → Option File
    done stage.Done f = Some f
    done _ f = None

-- why the line isn't taken: it can't stand there, or memory is wanting
abbrev pub Refuses : Draft → ℕ → List ℕ → ReadError → Type 0
Refuses d n line (BadText number) = (number ≡ n) × (next_of d (kind_of n line) ≡ None)
Refuses d n line NoMemory = Unit {0}
