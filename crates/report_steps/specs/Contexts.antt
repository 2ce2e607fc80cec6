-- What the steps of the work have found of a file so far, each with all that came before. The first
-- is the file itself, which has the format.
--
-- Parented: with the parent group
-- Divided: with the parent group modulo its supercell
use Rattle.iso_text.specs.FileValue.{File}
use Rattle.space_ops.specs.Group.{Parent}
use Rattle.super_group.specs.Quotient.{SupercellGroup}

-- with the parent group
pub record Parented : Type 0 where
  pub file : File
  pub parent : Parent

-- with the parent group modulo its supercell
pub record Divided : Type 0 where
  pub file : File
  pub quotient : SupercellGroup
