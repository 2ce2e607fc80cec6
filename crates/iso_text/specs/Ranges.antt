-- The ranges of what a file says: the layers above meet their conditions from these.
--
-- IsMat size m, IsVector v, IsBlock i: a `mat` line, a `realvector` line, an irrep block
-- IsSite label place, IsCell c, AreGenerators g: an atom; the cell of the listed places; the operations of a parent
-- IsInRange f: all that a file says
use Rattle.std.specs.Prelude.{◌≡◌, ◌⊎◌, ℕ, ◌≤◌, ◌*◌, ◌<◌, ℤ, pos, ◌≤ℤ◌, true, List, length, IfSome, IfNone}
use Rattle.std.specs.List.{All}
use Rattle.iso_text.specs.FileValue.{File}
use Rattle.iso_text.specs.Name.{is_name}
use Rattle.iso_text.specs.SectionSpellings.{is_letter}
use Rattle.iso_text.specs.WordRanges.{IsNumber, AreNumbers, IsFraction, IsPlace, IsOperation, AreThree, AreAtMost}
use Rattle.iso_text.specs.declared.sections.AtomText.{AtomText}
use Rattle.iso_text.specs.declared.sections.AxialText.{AxialText}
use Rattle.iso_text.specs.declared.sections.CellText.{CellText}
use Rattle.iso_text.specs.declared.sections.IrrepText.{IrrepText}
use Rattle.iso_text.specs.declared.sections.MatText.{MatText}
use Rattle.iso_text.specs.declared.sections.OpLine.{OpLine}
use Rattle.iso_text.specs.declared.sections.OpsText.{OpsText}
use Rattle.iso_text.specs.declared.sections.ValueText.{ValueText}
use Rattle.iso_text.specs.declared.sections.VectorText.{VectorText}

-- a `mat` line of a matrix of that size
pub record IsMat (size : ℕ) (m : MatText) : Type 0 where
  pub operation : IsOperation m.op
  pub entries : AreNumbers (size * size) m.entries

-- a `realvector` line
pub record IsVector (v : VectorText) : Type 0 where
  pub some : 1 ≤ length v.numbers
  pub few : length v.numbers ≤ 24
  pub each : All IsNumber v.numbers

-- an irrep block
pub record IsBlock (i : IrrepText) : Type 0 where
  pub name : is_name i.name ≡ true
  pub some : 1 ≤ i.size
  pub few : i.size ≤ 6
  pub wave : AreThree IsFraction i.k
  pub some_mats : 1 ≤ length i.mats
  pub few_mats : length i.mats ≤ 96
  pub mats : All (IsMat i.size) i.mats
  pub vector : IfSome i.vector IsVector

-- a label and a place
pub record IsSite (label : List ℕ) (place : List ℤ) : Type 0 where
  pub name : is_name label ≡ true
  pub place_is : AreThree IsPlace place

-- the cell of the listed places
pub record IsCell (c : CellText) : Type 0 where
  pub rows : AreThree (AreThree IsFraction) c.rows
  pub origin : AreThree IsPlace c.origin

-- a lattice and 1 to 5 operations
pub record AreGenerators (g : OpsText) : Type 0 where
  pub letter : is_letter g.letter ≡ true
  pub some : 1 ≤ length g.ops
  pub few : length g.ops ≤ 5
  pub each : All (λ (o : OpLine). IsOperation o.op) g.ops

-- all that a file says
pub record IsInRange (f : File) : Type 0 where
  pub format : (f.format ≡ 1) ⊎ (f.format ≡ 2)
  pub symbol : IfNone f.generators (0 < length f.hall)
  pub generators : IfSome f.generators AreGenerators
  pub irreps : AreAtMost 8 IsBlock f.irreps
  pub atoms : AreAtMost 64 (λ (a : AtomText). IsSite a.label a.place) f.atoms
  pub tolerance : IfSome f.tolerance (λ t. (pos 0 ≤ℤ t) × (t ≤ℤ pos 2999999))
  pub cell : IfSome f.cell IsCell
  pub listed : AreAtMost 4096 (λ (a : AtomText). IsSite a.label a.place) f.listed
  pub values : AreAtMost 4096 (λ (v : ValueText). IsSite v.label v.place × IsPlace v.value) f.values
  pub axials : AreAtMost 4096 (λ (v : AxialText). IsSite v.label v.place × AreThree IsPlace v.value) f.axials
