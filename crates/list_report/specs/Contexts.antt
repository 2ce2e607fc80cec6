-- What the steps of a listing have found of a file so far.
--
-- Chosen: an irrep of the file under the quotient
-- Formed: its name, with the quotient acting by real matrices
-- Listed: its name and real dimension, with the directions
use Rattle.std.specs.Prelude.{ℕ, List}
use Rattle.iso_text.specs.declared.sections.IrrepText.{IrrepText}
use Rattle.cyclo24.specs.ExactK24.{Exact24}
use Rattle.lin_alg.specs.Action.{Action}
use Rattle.class_list.specs.Directions.{Direction}
use Rattle.super_group.specs.Quotient.{SupercellGroup}

-- an irrep under the quotient
pub record Chosen : Type 0 where
  pub format : ℕ
  pub quotient : SupercellGroup
  pub irrep : IrrepText

-- the quotient acting by real matrices
pub record Formed : Type 0 where
  pub format : ℕ
  pub quotient : SupercellGroup
  pub name : List ℕ
  pub act : Action

-- the directions of an irrep
pub record Listed : Type 0 where
  pub format : ℕ
  pub quotient : SupercellGroup
  pub name : List ℕ
  pub dim : ℕ
  pub directions : List (Direction Exact24)
