-- A vector is a lattice vector exactly where its least translation is zero.
use Rattle.std.proofs.Common.{◌≡◌, refl, sym, ap, ◌∙◌, subst, zero, suc, ℤ, pos, negsuc, ◌≤ℤ◌, arith}
use Rattle.std.proofs.lemmas.Int.{ints}
use Rattle.std.specs.Cmp.{int_cmp_is}
use Rattle.std.specs.Ordering.{int_cmp, ordering_then}
use Rattle.std.specs.declared.cmp.Ordering.{Ordering}
use Rattle.std.specs.declared.cmp.Ordering.TheVariants.{Less, Equal, Greater}
use Rattle.space_ops.specs.declared.lattice.Lattice.{Lattice}
use Rattle.algebra.specs.Whole.{whole}
use Rattle.space_ops.specs.Matrix.{Vector, zero_vector}
use Rattle.space_ops.specs.MatrixLaws.{same_vector}
use Rattle.space_ops.specs.Words.{vector_difference, IsLatticeVector}
use Rattle.space_ops.specs.LeastShift.{IsLeastShift}
use Rattle.space_ops.specs.LeastShiftLaws.{least-unique}
use Rattle.space_ops.specs.LatticeLaws.{differ-sym, differ-refl}

then_not_greater : (o p : Ordering) → (o ≡ Greater → ⊥) → (p ≡ Greater → ⊥) → ordering_then o p ≡ Greater → ⊥
then_not_greater Less p f g e = let k : Less ≡ Greater = e in cc
then_not_greater Equal p f g e = g e
then_not_greater Greater p f g e = f refl

zero_not_after : (x : ℤ) → pos 0 ≤ℤ x → int_cmp (pos 0) x ≡ Greater → ⊥
zero_not_after (pos zero) l e = let k : Equal ≡ int_cmp (pos 0) (pos 0) = int_cmp_is (pos 0) (pos 0) Equal refl in cc
zero_not_after (pos (suc a)) l e = let k : Less ≡ int_cmp (pos 0) (pos (suc a)) = int_cmp_is (pos 0) (pos (suc a)) Less (omega (arith, ints)) in cc
zero_not_after (negsuc a) l e = absurd (omega (arith, ints, l))

pub zero_least : (L : Lattice) → IsLeastShift L (zero_vector whole) (zero_vector whole)
zero_least L = record {
  in_cell = ((omega (arith, ints), omega (arith, ints)), (omega (arith, ints), omega (arith, ints)), (omega (arith, ints), omega (arith, ints)));
  same = differ-refl L (zero_vector whole);
  least = λ s c h. then_not_greater (int_cmp (pos 0) s.x) _ (zero_not_after s.x c.0.0)
      (then_not_greater (int_cmp (pos 0) s.y) _ (zero_not_after s.y c.1.0)
      (then_not_greater (int_cmp (pos 0) s.z) _ (zero_not_after s.z c.2.0) (λ e. let k : Equal ≡ Greater = e in cc)));
}

less_zero : (t : Vector ℤ) → vector_difference t (zero_vector whole) ≡ t
less_zero t = same_vector _ _ (omega (arith, ints)) (omega (arith, ints)) (omega (arith, ints))

pub kept_yes : (L : Lattice) (t r : Vector ℤ) → IsLeastShift L t r → r ≡ zero_vector whole → IsLatticeVector L t
kept_yes L t r h e = subst (IsLatticeVector L) (ap (vector_difference t) e ∙ less_zero t) (differ-sym L r t h.same)

pub kept_no : (L : Lattice) (t r : Vector ℤ) → IsLeastShift L t r → IsLatticeVector L t → r ≡ zero_vector whole
kept_no L t r h k = least-unique L t (zero_vector whole) r (zero_vector whole) h (zero_least L) (subst (IsLatticeVector L) (sym (less_zero t)) k)
