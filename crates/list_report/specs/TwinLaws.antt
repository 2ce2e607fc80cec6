-- Real forms of one irrep agree.
--
-- AreAlike f a b: two actions have one group, and their matrices agree
-- AreTwins x y: two real forms have one irrep and quotient, and their actions are alike
use Rattle.std.specs.Prelude.{◌≡◌, ℕ, ◌<◌}
use Rattle.algebra.specs.NumberedGroup.{IsGroup}
use Rattle.cyclo24.specs.ExactField.{ExactField}
use Rattle.cyclo24.specs.ExactK24.{k24, k24_laws}
use Rattle.lin_alg.specs.Action.{Action, IsAction, entry_of}
use Rattle.list_report.specs.Contexts.{Formed}

-- one group, and matrices that agree
pub record AreAlike (f : ExactField) (a b : Action) : Type 0 where
  pub group : a.group ≡ b.group
  pub dim : a.dim ≡ b.dim
  pub entries : (q i j : ℕ) → q < a.group.order → i < a.dim → j < a.dim → entry_of f.laws a q i j ≡ entry_of f.laws b q i j
  pub lawful : IsGroup a.group

-- one irrep and quotient, and actions that are alike
pub record AreTwins (x y : Formed) : Type 0 where
  pub format : x.format ≡ y.format
  pub quotient : x.quotient ≡ y.quotient
  pub name : x.name ≡ y.name
  pub act : AreAlike k24 x.act y.act
  pub lawful : IsAction k24_laws y.act
