-- The orbit of an atom in a supercell.
--
-- ArePlacesOf s x places: the images of a place under all elements of the group, rising, each once
-- OrbitView: what contracts see of an orbit
-- image_of orbit q i: the number of the atom to which element q takes atom i
-- IsOrbitOf s atom orbit: it is the orbit of this atom under the group
use Rattle.std.specs.Prelude.{◌≡◌, ℕ, ◌<◌, ◌+◌, ◌*◌, ◌/◌, ◌%◌, ℤ, List, [], length, slice_index_or}
use Rattle.std.specs.declared.cmp.Ordering.TheVariants.{Less}
use Rattle.iso_text.specs.declared.sections.AtomText.{AtomText}
use Rattle.space_ops.specs.Matrix.{Vector}
use Rattle.space_ops.specs.Op.{vector_of, shift_of}
use Rattle.space_ops.specs.LeastShift.{vector_cmp}
use Rattle.super_group.specs.Quotient.{SupercellGroup, order_of}
use Rattle.wyckoff.specs.Places.{image_in, place_at}

pub record ArePlacesOf (s : SupercellGroup) (x : Vector ℤ) (places : List (List ℤ)) : Type 0 where
  -- by their first coordinates that differ
  pub rising : (i j : ℕ) → i < j → j < length places → vector_cmp (place_at places i) (place_at places j) ≡ Less
  -- images, and every image
  pub are_images : (i : ℕ) → i < length places → (q : ℕ) × (q < order_of s) × (place_at places i ≡ image_in s q x)
  pub every : (q : ℕ) → q < order_of s → (i : ℕ) × (i < length places) × (place_at places i ≡ image_in s q x)
  -- three coordinates
  pub shaped : (i : ℕ) → i < length places → slice_index_or places i [] ≡ shift_of (place_at places i)

pub record OrbitView : Type 0 where
  -- the label of the atom and the number of its line
  pub label : List ℕ
  pub line : ℕ
  -- the places of the atoms
  pub places : List (List ℤ)
  -- how many elements and translations the group has
  pub order : ℕ
  pub translations : ℕ
  -- the numbers of the atoms to which the listed operations, and the translations, take the atoms: a row for each
  pub turns : List ℕ
  pub shifts : List ℕ

-- entry i of row r of a table with n entries a row
abbrev pub entry_of : List ℕ → ℕ → ℕ → ℕ → ℕ
entry_of table n r i = slice_index_or table (r * n + i) 0

-- the atom to which element q takes atom i: listed operation r, then translation t, for q = r T + t
unfoldable pub image_of : OrbitView → ℕ → ℕ → ℕ
image_of o q i = entry_of o.shifts (length o.places) (q % o.translations) (entry_of o.turns (length o.places) (q / o.translations) i)

pub record IsOrbitOf (s : SupercellGroup) (atom : AtomText) (orbit : OrbitView) : Type 0 where
  pub label : orbit.label ≡ atom.label
  pub line : orbit.line ≡ atom.line
  pub order : orbit.order ≡ order_of s
  pub places : ArePlacesOf s (vector_of atom.place) orbit.places
  -- the image of an atom is the atom at the image of its place
  pub image_below : (q i : ℕ) → q < orbit.order → i < length orbit.places → image_of orbit q i < length orbit.places
  pub images : (q i : ℕ) → q < orbit.order → i < length orbit.places
      → place_at orbit.places (image_of orbit q i) ≡ image_in s q (place_at orbit.places i)
