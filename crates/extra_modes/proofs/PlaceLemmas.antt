-- Places that differ by a translation of the supercell, axis by axis.
use Rattle.std.proofs.Common.{◌≡◌, ap, ◌∙◌, sym, subst, ℕ, ◌<◌, ◌≤◌, ◌*◌, ℤ, pos, ◌+ℤ◌, neg_ℤ, ◌*ℤ◌, List, length, slice_index_or, arith}
use Rattle.std.proofs.lemmas.List.{get_or_default}
use Rattle.std.proofs.lemmas.Int.{ints}
use Rattle.std.specs.Prelude.{Bool, IsTrue, ◌↔◌}
use Rattle.algebra.specs.Multiples.{IsMultiple}
use Rattle.iso_text.specs.Ranges.{IsSite}
use Rattle.iso_text.specs.WordRanges.{IsPlace}
use Rattle.space_ops.specs.Matrix.{Vector}
use Rattle.space_ops.specs.Op.{number_at, IsWithin, IsShiftWithin}
use Rattle.super_group.specs.Supercell.{multiplier}
use Rattle.extra_modes.specs.Amounts.{IsInPlace}
use Rattle.extra_modes.specs.NamedAtomLaws.{in_place-differs, differs-in_place}

length_is : (m : ℕ) → 12000000 * m ≡ 12 * (1000000 * m)
length_is m = omega arith

-- a coordinate modulo the length of the supercell
abbrev pub IsSameAlong : List ℕ → ℕ → ℤ → ℤ → Type 0
IsSameAlong d i x a = IsMultiple (12000000 * slice_index_or d i 0) (x +ℤ neg_ℤ a)

module _ (d : List ℕ) (three : length d ≡ 3) where
  pub multiplier_at : (i : ℕ) → i < 3 → slice_index_or d i 0 ≡ multiplier d i
  multiplier_at i b = get_or_default d i 0 1 (omega (arith, three, b))

  pub positive_at : ((i : ℕ) → i < 3 → 0 < multiplier d i) → (i : ℕ) → i < 3 → 0 < slice_index_or d i 0
  positive_at p i b = subst (λ n. 0 < n) (sym (multiplier_at i b)) (p i b)

  pub few_at : ((i : ℕ) → i < 3 → multiplier d i ≤ 12) → (i : ℕ) → i < 3 → slice_index_or d i 0 ≤ 12
  few_at p i b = subst (λ n. n ≤ 12) (sym (multiplier_at i b)) (p i b)

  length_at : (i : ℕ) → i < 3 → 12000000 * slice_index_or d i 0 ≡ 12 * (1000000 * multiplier d i)
  length_at i b = ap (λ n. 12000000 * n) (multiplier_at i b) ∙ length_is (multiplier d i)

  -- so many lengths
  lengths : (i : ℕ) → i < 3 → (v q : ℤ) → v ≡ pos (12000000 * slice_index_or d i 0) *ℤ q → v ≡ pos (12 * (1000000 * multiplier d i)) *ℤ q
  lengths i b v q e = e ∙ ap (λ n. pos n *ℤ q) (length_at i b)

  lengths_back : (i : ℕ) → i < 3 → (v q : ℤ) → v ≡ pos (12 * (1000000 * multiplier d i)) *ℤ q → v ≡ pos (12000000 * slice_index_or d i 0) *ℤ q
  lengths_back i b v q e = e ∙ ap (λ n. pos n *ℤ q) (sym (length_at i b))

  module _ (x a : Vector ℤ) where
    pub in_place : IsSameAlong d 0 x.x a.x → IsSameAlong d 1 x.y a.y → IsSameAlong d 2 x.z a.z → IsInPlace d x a
    in_place h k l =
        differs-in_place d x a
        (record {
          edges = record { x = h.quotient; y = k.quotient; z = l.quotient };
          x = lengths 0 (omega arith) (x.x +ℤ neg_ℤ a.x) h.quotient h.is;
          y = lengths 1 (omega arith) (x.y +ℤ neg_ℤ a.y) k.quotient k.is;
          z = lengths 2 (omega arith) (x.z +ℤ neg_ℤ a.z) l.quotient l.is;
        })

    pub same_x : IsInPlace d x a → IsSameAlong d 0 x.x a.x
    same_x p = let c = in_place-differs d x a p in record { quotient = c.edges.x; is = lengths_back 0 (omega arith) (x.x +ℤ neg_ℤ a.x) c.edges.x c.x }

    pub same_y : IsInPlace d x a → IsSameAlong d 1 x.y a.y
    same_y p = let c = in_place-differs d x a p in record { quotient = c.edges.y; is = lengths_back 1 (omega arith) (x.y +ℤ neg_ℤ a.y) c.edges.y c.y }

    pub same_z : IsInPlace d x a → IsSameAlong d 2 x.z a.z
    same_z p = let c = in_place-differs d x a p in record { quotient = c.edges.z; is = lengths_back 2 (omega arith) (x.z +ℤ neg_ℤ a.z) c.edges.z c.z }

-- coordinates that were passed by value
pub along_passed : (r : Bool) (d : List ℕ) (i : ℕ) (x a x' a' : ℤ) → x ≡ x' → a ≡ a' → IsTrue r ↔ IsSameAlong d i x a → IsTrue r ↔ IsSameAlong d i x' a'
along_passed r d i x a x' a' e f h = subst (λ y. IsTrue r ↔ IsSameAlong d i x' y) f (subst (λ y. IsTrue r ↔ IsSameAlong d i y a) e h)

within_more : (x : ℤ) → IsPlace x → IsWithin 1200000000 x
within_more x h = (omega (arith, ints, h.0), omega (arith, ints, h.1))

-- a place of a file
pub site_near : (label : List ℕ) (place : List ℤ) → IsSite label place → IsShiftWithin 1200000000 place
site_near label place h =
    let t = h.place_is.count in
    let at : (i : ℕ) → i < 3 → IsWithin 1200000000 (number_at place i) = λ i l. within_more (number_at place i) (h.place_is.each i (pos 0) (omega (arith, t, l))) in
    (at 0 (omega arith), at 1 (omega arith), at 2 (omega arith))
