-- A space group modulo the translations of a supercell, with numbered elements.
--
-- translation_at ts t: translation t of a list
-- AreTranslations lattice d ts: the lattice translations inside the supercell, rising
-- SupercellGroup: the parent group, the multipliers and the translations, what contracts see of a quotient
-- IsQuotient s: the parent is a group, and the translations are those inside its supercell
-- IsMember s g: g belongs to the parent group
-- order_in p d: rotations times centrings times cells
-- order_of s: rotations times translations
-- element_of s q: the operation of element number q, q = r T + t
-- number_of s g: the number of the element that g is
-- quotient_group s: the group of these numbers
-- IsNumbered s: numbers and elements belong to each other
-- generators_of s: the generators of the symbol, the centrings other than zero, the unit translations, as numbers
use Rattle.std.specs.Prelude.{◌≡◌, ℕ, suc, ◌<◌, ◌+◌, ◌*◌, ◌/◌, ◌%◌, ℤ, List, [], ◌∷◌, ◌++◌, drop, map, length, slice_index_or, if◌then◌else◌}
use Rattle.std.specs.declared.cmp.Ordering.TheVariants.{Less}
use Rattle.std.specs.Ordering.{is_eq}
use Rattle.algebra.specs.NumberedGroup.{Group}
use Rattle.space_ops.specs.declared.lattice.Lattice.{Lattice}
use Rattle.algebra.specs.Whole.{whole}
use Rattle.space_ops.specs.Matrix.{Vector, vector_sum, unit_matrix}
use Rattle.space_ops.specs.Seitz.{Seitz, seitz_product, seitz_inverse}
use Rattle.space_ops.specs.Op.{vector_of, shift_of, seitz_of}
use Rattle.space_ops.specs.Lattice.{centrings_of, twelfths}
use Rattle.space_ops.specs.Words.{op_at, vector_difference, IsLatticeVector, IsWord}
use Rattle.space_ops.specs.LeastShift.{vector_cmp}
use Rattle.space_ops.specs.Group.{Parent, IsParentGroup}
use Rattle.space_ops.specs.GroupLaws.{place_of}
use Rattle.super_group.specs.Supercell.{multiplier, IsSupercell, IsSameElement, IsInside, reduced}

-- translation t of the list
abbrev pub translation_at : List (List ℤ) → ℕ → Vector ℤ
translation_at ts t = vector_of (slice_index_or ts t [])

-- the lattice translations inside the supercell, rising
pub record AreTranslations (lattice : Lattice) (d : List ℕ) (ts : List (List ℤ)) : Type 0 where
  pub in_lattice : (t : ℕ) → t < length ts → IsLatticeVector lattice (translation_at ts t)
  pub inside : (t : ℕ) → t < length ts → IsInside d (translation_at ts t)
  pub rising : (s t : ℕ) → s < t → t < length ts → vector_cmp (translation_at ts s) (translation_at ts t) ≡ Less
  pub every : (v : Vector ℤ) → IsLatticeVector lattice v → IsInside d v → (t : ℕ) × (t < length ts) × (translation_at ts t ≡ v)
  pub shaped : (t : ℕ) → t < length ts → slice_index_or ts t [] ≡ shift_of (translation_at ts t)

pub record SupercellGroup : Type 0 where
  pub parent : Parent
  pub d : List ℕ
  pub translations : List (List ℤ)

pub record IsQuotient (s : SupercellGroup) : Type 0 where
  pub parent : IsParentGroup s.parent
  pub supercell : IsSupercell s.parent.ops s.d
  pub translations : AreTranslations s.parent.lattice s.d s.translations

-- a word over the generators and the lattice translations
abbrev pub IsMember : SupercellGroup → Seitz ℤ → Type 0
IsMember s g = IsWord s.parent.generators s.parent.lattice g

-- rotations times centrings, the zero vector among them, times cells
abbrev pub order_in : Parent → List ℕ → ℕ
order_in p d = length p.ops * length (centrings_of p.lattice) * (multiplier d 0 * multiplier d 1 * multiplier d 2)

-- rotations times translations
abbrev pub order_of : SupercellGroup → ℕ
order_of s = length s.parent.ops * length s.translations

-- rotation r of the list with its translation and translation t, reduced into the supercell, for q = r T + t
unfoldable pub element_of : SupercellGroup → ℕ → Seitz ℤ
element_of s q = record {
  rot = (op_at s.parent.ops (q / length s.translations)).rot;
  shift = reduced s.d (vector_sum whole (op_at s.parent.ops (q / length s.translations)).shift (translation_at s.translations (q % length s.translations)));
}

-- the place of the first translation of the list that is v
unfoldable pub place_among : List (List ℤ) → Vector ℤ → ℕ
place_among [] v = 0
place_among (t ∷ ts) v = if is_eq (vector_cmp (vector_of t) v) then 0 else suc (place_among ts v)

-- r T + t for the place r of its rotation, and the place t of what its translation has more than the listed one
unfoldable pub number_of : SupercellGroup → Seitz ℤ → ℕ
number_of s g =
    let r = place_of s.parent.ops g.rot in
    r * length s.translations + place_among s.translations (reduced s.d (vector_difference g.shift (op_at s.parent.ops r).shift))

-- numbers multiply as their elements
abbrev pub quotient_group : SupercellGroup → Group
quotient_group s = record {
  order = order_of s;
  product = λ a b. number_of s (seitz_product whole (element_of s a) (element_of s b));
  inverse = λ a. number_of s (seitz_inverse whole (element_of s a));
}

-- a member of the parent group has the number of the one element that it is, modulo the supercell
pub record IsNumbered (s : SupercellGroup) : Type 0 where
  pub element-member : (q : ℕ) → q < order_of s → IsMember s (element_of s q)
  pub element-inside : (q : ℕ) → q < order_of s → IsInside s.d (element_of s q).shift
  pub number-below : (g : Seitz ℤ) → IsMember s g → number_of s g < order_of s
  pub element-number : (g : Seitz ℤ) → IsMember s g → IsSameElement s.d (element_of s (number_of s g)) g
  pub number-element : (q : ℕ) → q < order_of s → number_of s (element_of s q) ≡ q
  pub number-same : (g h : Seitz ℤ) → IsMember s g → IsMember s h → IsSameElement s.d g h → number_of s g ≡ number_of s h
  pub number-apart : (g h : Seitz ℤ) → IsMember s g → IsMember s h → number_of s g ≡ number_of s h → IsSameElement s.d g h

-- {E|t} for each translation of a list
abbrev pub translations_of : List (List ℤ) → List (Seitz ℤ)
translations_of vs = map (λ v. record { rot = unit_matrix whole; shift = vector_of v }) vs

-- the generators of the symbol, the centrings other than zero, the unit translations
abbrev pub motions_of : SupercellGroup → List (Seitz ℤ)
motions_of s =
    map seitz_of s.parent.generators
    ++ translations_of (drop 1 (centrings_of s.parent.lattice))
    ++ translations_of (twelfths 12 0 0 ∷ twelfths 0 12 0 ∷ twelfths 0 0 12 ∷ [])

-- their numbers
abbrev pub generators_of : SupercellGroup → List ℕ
generators_of s = map (number_of s) (motions_of s)
