-- What a file says, as contracts see a `Document`.
--
-- File: the sections with their values
use Rattle.std.specs.Prelude.{ℕ, ℤ, List, Option}
use Rattle.iso_text.specs.declared.sections.AtomText.{AtomText}
use Rattle.iso_text.specs.declared.sections.AxialText.{AxialText}
use Rattle.iso_text.specs.declared.sections.CellText.{CellText}
use Rattle.iso_text.specs.declared.sections.IrrepText.{IrrepText}
use Rattle.iso_text.specs.declared.sections.OpsText.{OpsText}
use Rattle.iso_text.specs.declared.sections.ValueText.{ValueText}

-- what a file says; the parent is the Hall symbol of line hall_line, or that line is a `lattice` line, the symbol is empty, and the generators stand behind it
pub record File : Type 0 where
  pub format : ℕ
  pub hall_line : ℕ
  pub hall : List ℕ
  pub generators : Option OpsText
  pub irreps : List IrrepText
  pub atoms : List AtomText
  pub tolerance : Option ℤ
  pub cell : Option CellText
  pub listed : List AtomText
  pub values : List ValueText
  pub axials : List AxialText
