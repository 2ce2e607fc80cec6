-- The atoms of an orbit whose first coordinates may be near that of a place, modulo the supercell.
--
-- IsAlongRising places: first coordinates rise
-- IsInLength n places: they are from 0 up to but without n
-- AreSorted d orbits: both, for all orbits in a supercell
-- IsBetween places v low high: atoms below `low` have first coordinates below v, and none from `high` on has
-- IsFirstFrom places v k: atom k is the first whose first coordinate is at least v
-- AreWindows n tolerance x places w: no atom between the windows is near x, modulo n
use Rattle.std.specs.Prelude.{ℕ, ◌<◌, ◌≤◌, ℤ, ◌≤ℤ◌, ◌<ℤ◌, List, length, Some, slice_get, ◌≡◌, ◌*◌}
use Rattle.algebra.specs.Multiples.{IsWithinModulus}
use Rattle.super_group.specs.Supercell.{multiplier}
use Rattle.wyckoff.specs.Orbit.{OrbitView}
use Rattle.wyckoff.specs.Places.{place_at}
use Rattle.distort_match.specs.declared.windows.Windows.{Windows}
use Rattle.distort_match.specs.FoundParts.{IsAlong}

abbrev pub IsAlongRising : List (List ℤ) → Type 0
IsAlongRising places = (i j : ℕ) → i < j → j < length places → (place_at places i).x ≤ℤ (place_at places j).x

abbrev pub IsInLength : ℕ → List (List ℤ) → Type 0
IsInLength n places = (i : ℕ) → i < length places → IsWithinModulus n (place_at places i).x

pub record AreSorted (d : List ℕ) (orbits : List OrbitView) : Type 0 where
  pub rising : (o : ℕ) (orbit : OrbitView) → slice_get orbits o ≡ Some orbit → IsAlongRising orbit.places
  pub inside : (o : ℕ) (orbit : OrbitView) → slice_get orbits o ≡ Some orbit → IsInLength (12000000 * multiplier d 0) orbit.places

-- the first atom that isn't below v is one of these, or there is none
pub record IsBetween (places : List (List ℤ)) (v : ℤ) (low high : ℕ) : Type 0 where
  pub order : low ≤ high
  pub within : high ≤ length places
  pub below : (i : ℕ) → i < low → (place_at places i).x <ℤ v
  pub above : (i : ℕ) → high ≤ i → i < length places → v ≤ℤ (place_at places i).x

abbrev pub IsFirstFrom : List (List ℤ) → ℤ → ℕ → Type 0
IsFirstFrom places v k = IsBetween places v k k

-- those that are near stand in the windows
pub record AreWindows (n : ℕ) (tolerance x : ℤ) (places : List (List ℤ)) (w : Windows) : Type 0 where
  pub low : w.low ≤ w.start
  pub middle : w.start ≤ w.end
  pub high : w.end ≤ w.high
  pub within : w.high ≤ length places
  pub before : (i : ℕ) (v : ℤ) → w.low ≤ i → i < w.start → IsAlong n tolerance x (place_at places i).x v → ⊥
  pub after : (i : ℕ) (v : ℤ) → w.end ≤ i → i < w.high → IsAlong n tolerance x (place_at places i).x v → ⊥
