-- What the parts of the code that gathers amounts give.
--
-- IsPlaceFound d x places found: the number of an atom of an orbit in this place, or None
-- IsAtomFoundIn d orbits label x o found: the same for orbit o and a label
-- IsAtomFound d orbits label x found: an atom with this label in this place, or None
-- AreApart d orbits: no two atoms with one label are in one place
-- AreNamed g n atoms: the first n lines are accepted, and these are the atoms that they name
-- numbers_at rows o i, set_numbers rows o i x: the numbers of atom i of orbit o; written
-- no_numbers orbits: nothing for each atom of these orbits
-- AreRowsFor orbits rows: three numbers for each atom
-- AreGiven g n rows: the first n lines have given their numbers to the atoms that they name, and the others have nothing
-- view_of a, IsHeld a: the fields of amounts; at most three numbers an atom
use Rattle.std.specs.Prelude.{◌≡◌, ◌⊎◌, ℕ, ◌<◌, ◌≤◌, ℤ, List, [], length, map, Option, Some, MatchOption, slice_get, slice_index_or, slice_set}
use Rattle.space_ops.specs.Matrix.{Vector}
use Rattle.wyckoff.specs.Orbit.{OrbitView}
use Rattle.wyckoff.specs.Places.{place_at}
use Rattle.extra_modes.specs.declared.amounts.Amounts.TheInside.{Inside}
use Rattle.extra_modes.specs.declared.named_atoms.AtomNumber.{AtomNumber}
use Rattle.extra_modes.specs.Amounts.{LabelledPlaces, Naming, IsInPlace, HasAtom, Names, AreAccepted, AmountsView, nothing}

abbrev pub IsPlaceFound : List ℕ → Vector ℤ → List (List ℤ) → Option ℕ → Type 0
IsPlaceFound d x places found =
    MatchOption found ((i : ℕ) → i < length places → IsInPlace d x (place_at places i) → ⊥) (λ i. (i < length places) × IsInPlace d x (place_at places i))

abbrev pub IsAtomFoundIn : List ℕ → List LabelledPlaces → List ℕ → Vector ℤ → ℕ → Option ℕ → Type 0
IsAtomFoundIn d orbits label x o found = MatchOption found ((i : ℕ) → HasAtom d orbits label x o i → ⊥) (HasAtom d orbits label x o)

abbrev pub IsAtomFound : List ℕ → List LabelledPlaces → List ℕ → Vector ℤ → Option AtomNumber → Type 0
IsAtomFound d orbits label x found = MatchOption found ((o i : ℕ) → HasAtom d orbits label x o i → ⊥) (λ a. HasAtom d orbits label x a.orbit a.atom)

-- no two atoms with one label are in one place
abbrev pub AreApart : List ℕ → List LabelledPlaces → Type 0
AreApart d orbits =
    (label : List ℕ) (x : Vector ℤ) (o i p j : ℕ) → HasAtom d orbits label x o i → HasAtom d orbits label x p j → (o ≡ p) × (i ≡ j)

pub record AreNamed (g : Naming) (n : ℕ) (atoms : List AtomNumber) : Type 0 where
  pub count : length atoms ≡ n
  pub accepted : AreAccepted g n
  pub names : (k : ℕ) (a : AtomNumber) → slice_get atoms k ≡ Some a → Names g k a.orbit a.atom

-- the numbers of atom i of orbit o
abbrev pub numbers_at : List (List (List ℤ)) → ℕ → ℕ → List ℤ
numbers_at rows o i = slice_index_or (slice_index_or rows o []) i []

abbrev pub set_numbers : List (List (List ℤ)) → ℕ → ℕ → List ℤ → List (List (List ℤ))
set_numbers rows o i x = slice_set rows o (slice_set (slice_index_or rows o []) i x)

-- nothing for each atom
abbrev pub no_numbers : List OrbitView → List (List (List ℤ))
no_numbers orbits = map (λ (o : OrbitView). map (λ place. nothing) o.places) orbits

-- three numbers for each atom
pub record AreRowsFor (orbits : List LabelledPlaces) (rows : List (List (List ℤ))) : Type 0 where
  pub count : length rows ≡ length orbits
  pub atoms : (o : ℕ) (orbit : LabelledPlaces) → slice_get orbits o ≡ Some orbit → length (slice_index_or rows o []) ≡ length orbit.places

-- the numbers of one of the first n lines, which names the atom, or nothing where none of them does
abbrev pub IsGiven : Naming → ℕ → ℕ → ℕ → List ℤ → Type 0
IsGiven g n o i x = ((k : ℕ) × (named : Names g k o i) × (k < n) × (x ≡ named.line.numbers)) ⊎ (((k : ℕ) → k < n → Names g k o i → ⊥) × (x ≡ nothing))

pub record AreGiven (g : Naming) (n : ℕ) (rows : List (List (List ℤ))) : Type 0 where
  pub shape : AreRowsFor g.orbits rows
  pub given : (o i : ℕ) (orbit : LabelledPlaces) → slice_get g.orbits o ≡ Some orbit → i < length orbit.places → IsGiven g n o i (numbers_at rows o i)

-- the fields of amounts
abbrev pub view_of : Inside → AmountsView
view_of a = record { each = a.each; atoms = a.orbits.items }

-- at most three numbers an atom
abbrev pub IsHeld : Inside → Type 0
IsHeld a = a.each ≤ 3
