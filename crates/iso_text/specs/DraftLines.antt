-- What a line of the head, the parent or a block of an irrep makes of what was read so far.
--
-- draft stage f: the file so far, at a stage
-- settled stage f: the file with the open parent or block in it
-- on_..: the draft with a line of a kind, or None where it can't stand there
use Rattle.std.specs.Prelude.{ℕ, ◌==◌, ◌&&◌, not, nat_lt, List, [], ◌∷◌, ◌++◌, length, Bool, if◌then◌else◌, Option, Some, None, is_none}
use Rattle.iso_text.specs.FileValue.{File}
use Rattle.iso_text.specs.FileLines.{empty_file}
use Rattle.iso_text.specs.File.{has_entries, is_new}
use Rattle.iso_text.specs.declared.draft.Draft.{Draft}
use Rattle.iso_text.specs.declared.draft.Stage.{Stage}
use Rattle.iso_text.specs.declared.draft.Stage.TheVariants as stage
use Rattle.iso_text.specs.declared.line_kinds.IrrepLine.{IrrepLine}
use Rattle.iso_text.specs.declared.line_kinds.Line.TheVariants.{Lattice}
use Rattle.iso_text.specs.declared.numbers.Frac.{Frac}
use Rattle.iso_text.specs.declared.sections.IrrepText.{IrrepText}
use Rattle.iso_text.specs.declared.sections.MatText.{MatText}
use Rattle.iso_text.specs.declared.sections.OpLine.{OpLine}
use Rattle.iso_text.specs.declared.sections.VectorText.{VectorText}

-- the file so far, at a stage
abbrev pub draft : Stage → File → Draft
draft stage f = record { stage = stage; document = f }

-- the file with the open parent or block in it, where a line of another section may follow
abbrev pub settled : Stage → File → Option File
settled stage.Body f = Some f
settled (stage.Lattice n g) f = if length g.ops == 0 then None else Some (record f { hall_line = n; generators = Some g })
settled (stage.Block i) f = if length i.mats == 0 then None else Some (record f { irreps = f.irreps ++ i ∷ [] })
settled _ f = None

abbrev pub on_head : ℕ → Stage → Option Draft
on_head format stage.Begin = Some (draft stage.Headed (empty_file format))
on_head format _ = None

abbrev pub on_hall : ℕ → List ℕ → Stage → File → Option Draft
on_hall n text stage.Headed f = Some (draft stage.Body (record f { hall_line = n; hall = text }))
on_hall n text _ f = None

abbrev pub on_lattice : ℕ → ℕ → Stage → File → Option Draft
on_lattice n letter stage.Headed f = if f.format == 2 then Some (draft (stage.Lattice n (record { letter = letter; ops = [] })) f) else None
on_lattice n letter _ f = None

abbrev pub on_op : OpLine → Stage → File → Option Draft
on_op o (stage.Lattice n g) f = if nat_lt (length g.ops) 5 then Some (draft (stage.Lattice n (record g { ops = g.ops ++ o ∷ [] })) f) else None
on_op o _ f = None

abbrev pub on_irrep : IrrepLine → File → Option Draft
on_irrep h f = if is_new h.name f.irreps then Some (draft (stage.Open h) f) else None

abbrev pub on_k : List Frac → Stage → File → Option Draft
on_k k (stage.Open h) f = Some (draft (stage.Block (record { name = h.name; line = h.line; size = h.size; k = k; mats = []; vector = None })) f)
on_k k _ f = None

abbrev pub takes_mat : MatText → IrrepText → Bool
takes_mat m i = is_none i.vector && nat_lt (length i.mats) 96 && has_entries i.size m

abbrev pub on_mat : MatText → Stage → File → Option Draft
on_mat m (stage.Block i) f = if takes_mat m i then Some (draft (stage.Block (record i { mats = i.mats ++ m ∷ [] })) f) else None
on_mat m _ f = None

abbrev pub takes_vector : IrrepText → File → Bool
takes_vector i f = f.format == 2 && is_none i.vector && not (length i.mats == 0)

abbrev pub on_vector : VectorText → Stage → File → Option Draft
on_vector v (stage.Block i) f = if takes_vector i f then Some (draft (stage.Block (record i { vector = Some v })) f) else None
on_vector v _ f = None
