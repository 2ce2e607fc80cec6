-- What the code of modes holds of a space: a table of matrices, and for each atom an element that takes the first atom to it.
--
-- no_space: nothing
-- IsTurnTable s t: the table has the matrices of the elements of s
-- IsOrbitIn s o: the atoms of s are those of an orbit
-- IsReached n o elements i: entry i is an element, of n, that takes the first atom to atom i
-- AreWays s ways: for each atom an element that takes the first atom to it, and the inverse of that element
use Rattle.std.specs.Prelude.{◌≡◌, ℕ, ◌<◌, ◌≤◌, ◌/◌, pos, List, [], length, slice_index_or}
use Rattle.space_ops.specs.Op.{number_at, row_at}
use Rattle.wyckoff.specs.Orbit.{OrbitView, image_of}
use Rattle.mode_project.specs.declared.turns.Turns.{Turns}
use Rattle.mode_project.specs.AtomSpace.{AtomSpace}

abbrev pub no_space : AtomSpace
no_space = record {
  group = record { order = 0; product = λ a b. 0; inverse = λ a. 0 };
  atoms = 0;
  image = λ q i. 0;
  each = 0;
  turn = λ q a b. pos 0;
}

pub record IsTurnTable (s : AtomSpace) (t : Turns) : Type 0 where
  pub each : t.each ≡ s.each
  pub few : s.each ≤ 3
  pub some : 0 < t.translations
  pub inside : (q : ℕ) → q < s.group.order → q / t.translations < length t.matrices.items
  pub entries : (q a b : ℕ) → q < s.group.order → a < s.each → b < s.each
      → number_at (row_at (slice_index_or t.matrices.items (q / t.translations) []) a) b ≡ s.turn q a b

pub record IsOrbitIn (s : AtomSpace) (o : OrbitView) : Type 0 where
  pub atoms : length o.places ≡ s.atoms
  pub order : o.order ≡ s.group.order
  pub images : (q i : ℕ) → q < s.group.order → i < s.atoms → image_of o q i ≡ s.image q i

abbrev pub IsReached : ℕ → OrbitView → List ℕ → ℕ → Type 0
IsReached n o elements i = (slice_index_or elements i 0 < n) × (image_of o (slice_index_or elements i 0) 0 ≡ i)

pub record IsWay (s : AtomSpace) (i : ℕ) (way : ℕ × ℕ) : Type 0 where
  pub below : way.0 < s.group.order
  pub reaches : s.image way.0 0 ≡ i
  pub inverse : way.1 ≡ s.group.inverse way.0

pub record AreWays (s : AtomSpace) (ways : List (ℕ × ℕ)) (k : ℕ) : Type 0 where
  pub count : length ways ≡ k
  pub each : (i : ℕ) → i < k → IsWay s i (slice_index_or ways i (0, 0))
