-- Two tables of one group that moves numbers at atoms. Tables are pinned only inside their range: for the elements, atoms
-- and numbers that there are.
--
-- AreAlike s t: one group, whose elements take the atoms to the same atoms and turn the numbers alike
use Rattle.std.specs.Prelude.{◌≡◌, ℕ, ◌<◌}
use Rattle.mode_project.specs.AtomSpace.{AtomSpace}

pub record AreAlike (s t : AtomSpace) : Type 0 where
  pub group : s.group ≡ t.group
  pub atoms : s.atoms ≡ t.atoms
  pub each : s.each ≡ t.each
  pub images : (q i : ℕ) → q < s.group.order → i < s.atoms → s.image q i ≡ t.image q i
  pub turns : (q a b : ℕ) → q < s.group.order → a < s.each → b < s.each → s.turn q a b ≡ t.turn q a b
