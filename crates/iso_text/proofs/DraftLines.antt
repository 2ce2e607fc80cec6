-- What a draft holds: the lines that were read, and what is known of the file so far.
use Rattle.std.proofs.Common.{◌≡◌, ℕ, Bool, true, false, List, [], ◌∷◌, ◌++◌, length, map, nat_le, ◌==◌, ◌||◌}
use Rattle.std.specs.Prelude.{◌⊎◌, is_none}
use Rattle.std.specs.List.{list_all}
use Rattle.iso_text.specs.Draft.{has_room}
use Rattle.iso_text.specs.File.{IsSound, has_entries, is_new}
use Rattle.iso_text.specs.FileLines.{sections, body_lines, block_lines, file_lines, empty_file}
use Rattle.iso_text.specs.FileValue.{File}
use Rattle.iso_text.specs.declared.draft.Draft.{Draft}
use Rattle.iso_text.specs.declared.draft.Stage.{Stage}
use Rattle.iso_text.specs.declared.draft.Stage.TheVariants as stage
use Rattle.iso_text.specs.declared.line_kinds.Line.{Line}
use Rattle.iso_text.specs.declared.line_kinds.Line.TheVariants.{Skip, Bad, Head, Lattice, Op, Irrep}
use Rattle.iso_text.specs.declared.sections.IrrepText.{IrrepText}

-- a line that lines of a file can say
abbrev pub is_said : Line → Bool
is_said Skip = false
is_said Bad = false
is_said (Head format) = format == 1 || format == 2
is_said _ = true

-- the lines that are read at a stage
abbrev pub lines_at : Stage → File → List Line
lines_at stage.Begin f = []
lines_at stage.Headed f = Head f.format ∷ []
lines_at (stage.Lattice n g) f = Head f.format ∷ Lattice n g.letter ∷ map (λ o. Op o) g.ops
lines_at stage.Body f = body_lines f
lines_at (stage.Open h) f = body_lines f ++ Irrep h ∷ []
lines_at (stage.Block i) f = body_lines f ++ block_lines i
lines_at stage.Done f = file_lines f

-- a block of that name may stand at the end of the file so far
pub record TakesBlock (name : List ℕ) (f : File) : Type 0 where
  pub sound : IsSound f
  pub room : has_room 0 (sections f) ≡ true
  pub new : is_new name f.irreps ≡ true

-- the block so far; a vector stands in format 2, behind `mat` lines
pub record HasBlock (i : IrrepText) (f : File) : Type 0 where
  pub takes : TakesBlock i.name f
  pub few : nat_le (length i.mats) 96 ≡ true
  pub entries : list_all (has_entries i.size) i.mats ≡ true
  pub vector : (is_none i.vector ≡ true) ⊎ ((f.format ≡ 2) × ((length i.mats == 0) ≡ false))

-- what holds of the file so far at a stage
abbrev pub IsAt : Stage → File → Type 0
IsAt stage.Begin f = Unit {0}
IsAt stage.Headed f = (f ≡ empty_file 1) ⊎ (f ≡ empty_file 2)
IsAt (stage.Lattice n g) f = (f ≡ empty_file 2) × (nat_le (length g.ops) 5 ≡ true)
IsAt stage.Body f = IsSound f
IsAt (stage.Open h) f = TakesBlock h.name f
IsAt (stage.Block i) f = HasBlock i f
IsAt stage.Done f = IsSound f

-- a draft whose lines are these
pub record Holds (d : Draft) (said : List Line) : Type 0 where
  pub at : IsAt d.stage d.document
  pub lines : lines_at d.stage d.document ≡ said
