-- Laws of least translations.
--
-- vector_cmp-total, vector_cmp-equal: a total order, that answers Equal at equal vectors alone
-- least-unique: translations that differ by a lattice vector have one least translation
-- least-itself: a least translation is its own
-- twelfth-rem: a remainder by 12 is from 0 to 11
-- reduced-unique: two sums in the cell that differ by whole cell edges are equal
-- cell-within: a translation in the cell is at most 11 twelfths
use Rattle.std.proofs.Common.{◌≡◌, refl, sym, ap, ◌∙◌, ℤ, pos, ◌+ℤ◌, ◌*ℤ◌, List, [], ◌∷◌, arith}
use Rattle.std.proofs.lemmas.Int.{ints}
use Rattle.std.proofs.lemmas.Cmp.{lists_total, on_total, int_cmp_total}
use Rattle.std.proofs.lemmas.Map.Lookups.{exact_signed}
use Rattle.std.specs.Int.{int_rem_euclid}
use Rattle.std.specs.Cmp.{IsTotalOrder}
use Rattle.std.specs.Ordering.{int_cmp, ordering_then, ordering_reverse}
use Rattle.std.specs.Cmp.Lexicographic.{slice_cmp}
use Rattle.std.specs.declared.cmp.Ordering.{Ordering}
use Rattle.std.specs.declared.cmp.Ordering.TheVariants.{Less, Equal, Greater}
use Rattle.space_ops.specs.declared.lattice.Lattice.{Lattice}
use Rattle.algebra.specs.Multiples.{IsWithinModulus}
use Rattle.algebra.specs.MultipleLaws.{rem-within}
use Rattle.algebra.specs.Whole.{whole}
use Rattle.space_ops.specs.Matrix.{Vector, vector_sum}
use Rattle.space_ops.specs.MatrixLaws.{same_vector}
use Rattle.space_ops.specs.Op.{shift_of, vector_of, number_at, IsWithin, IsShiftWithin}
use Rattle.space_ops.specs.Words.{cell_edges, vector_difference, IsLatticeVector}
use Rattle.space_ops.specs.LatticeLaws.{differ-refl, differ-sym, differ-trans}
use Rattle.space_ops.specs.LeastShift.{vector_cmp, IsTwelfth, IsInCell, IsLeastShift}

pub vector_cmp-total : IsTotalOrder vector_cmp
vector_cmp-total = on_total shift_of (lists_total int_cmp_total)

by_first : {K : Type 0} (R : K → K → Ordering) → ((x y : K) → R x y ≡ Equal → x ≡ y) → (x y : K) (xs ys : List K) → (slice_cmp R xs ys ≡ Equal → xs ≡ ys)
    → (o : Ordering) → o ≡ R x y → ordering_then o (slice_cmp R xs ys) ≡ Equal → x ∷ xs ≡ y ∷ ys
by_first R h x y xs ys f Less p q = cc
by_first R h x y xs ys f Equal p q = λ i. h x y (sym p) i ∷ f q i
by_first R h x y xs ys f Greater p q = cc

-- a list order answers Equal at equal lists alone, where the order of members does
pub lists_exact : {K : Type 0} (R : K → K → Ordering) → ((x y : K) → R x y ≡ Equal → x ≡ y) → (xs ys : List K) → slice_cmp R xs ys ≡ Equal → xs ≡ ys
lists_exact R h [] [] e = refl
lists_exact R h [] (y ∷ ys) e = cc
lists_exact R h (x ∷ xs) [] e = cc
lists_exact R h (x ∷ xs) (y ∷ ys) e = by_first R h x y xs ys (lists_exact R h xs ys) (R x y) refl e

pub vector_cmp-equal : (v w : Vector ℤ) → vector_cmp v w ≡ Equal → v ≡ w
vector_cmp-equal v w e =
    let f : shift_of v ≡ shift_of w = lists_exact int_cmp exact_signed (shift_of v) (shift_of w) e in
    same_vector v w (cc) (cc) (cc)

-- neither is greater than the other: they are equal
pub not_greater : (v w : Vector ℤ) → (vector_cmp v w ≡ Greater → ⊥) → (vector_cmp w v ≡ Greater → ⊥) → v ≡ w
not_greater v w f g = by_order (vector_cmp v w) refl where
  by_order : (o : Ordering) → o ≡ vector_cmp v w → v ≡ w
  by_order Less e = absurd (g (vector_cmp-total.antisymm w v ∙ ap ordering_reverse (sym e)))
  by_order Equal e = vector_cmp-equal v w (sym e)
  by_order Greater e = absurd (f (sym e))

pub least-unique : (lattice : Lattice) (t t' r r' : Vector ℤ) → IsLeastShift lattice t r → IsLeastShift lattice t' r' → IsLatticeVector lattice (vector_difference t t') → r ≡ r'
least-unique lattice t t' r r' a b h =
    not_greater r r'
    (a.least r' b.in_cell (differ-trans lattice r' t' t b.same (differ-sym lattice t t' h)))
    (b.least r a.in_cell (differ-trans lattice r t t' a.same h))

pub least-itself : (lattice : Lattice) (t r : Vector ℤ) → IsLeastShift lattice t r → IsLeastShift lattice r r
least-itself lattice t r a = record {
  in_cell = a.in_cell;
  same = differ-refl lattice r;
  least = λ s c h. a.least s c (differ-trans lattice s r t h a.same);
}

-- a remainder by 12
pub twelfth-rem : (z : ℤ) → IsTwelfth (int_rem_euclid z (pos 12))
twelfth-rem z = by_within (int_rem_euclid z (pos 12)) (rem-within 12 (omega arith) z) where
  by_within : (r : ℤ) → IsWithinModulus 12 r → IsTwelfth r
  by_within r h = (h.0, omega (arith, ints, h.1))

-- numbers of twelfths in one cell that differ by whole edges
twelfth_unique : (x y u : ℤ) → IsTwelfth x → IsTwelfth y → x ≡ y +ℤ (pos 12 *ℤ u) → x ≡ y
twelfth_unique x y u h k e = omega (arith, ints, h.0, h.1, k.0, k.1, e)

pub reduced-unique : (v w u : Vector ℤ) → IsInCell v → IsInCell w → v ≡ vector_sum whole w (cell_edges u) → v ≡ w
reduced-unique v w u h k e =
    same_vector v w
    (twelfth_unique v.x w.x u.x h.0 k.0 (ap (λ (p : Vector ℤ). p.x) e))
    (twelfth_unique v.y w.y u.y h.1 k.1 (ap (λ (p : Vector ℤ). p.y) e))
    (twelfth_unique v.z w.z u.z h.2 k.2 (ap (λ (p : Vector ℤ). p.z) e))

twelfth-within : (x : ℤ) → IsTwelfth x → IsWithin 11 x
twelfth-within x h = (omega (arith, ints, h.0), omega (arith, ints, h.1))

pub cell-within : (t : List ℤ) → IsInCell (vector_of t) → IsShiftWithin 11 t
cell-within t h = (twelfth-within (number_at t 0) h.0, twelfth-within (number_at t 1) h.1, twelfth-within (number_at t 2) h.2)
