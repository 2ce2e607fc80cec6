-- Multipliers from first axes.
use Rattle.std.proofs.Common.{◌≡◌, refl, sym, subst, ℕ, zero, suc, ◌<◌, ◌≤◌, List, [], ◌∷◌, arith}
use Rattle.space_ops.specs.declared.op.Op.{Op}
use Rattle.super_group.specs.Supercell.{multiplier, AreJoined, IsSupercell}
use Rattle.super_group.specs.Multipliers.{AreMultipliers}
use Rattle.super_group.specs.FirstAxes.{axis_at, AreFirstAxes, IsLeastMultipleOf}
use Rattle.super_group.specs.JoinedLaws.{joined-sym, joined-trans}

module _ (ops : List Op) (dens : List (List ℕ)) (firsts : List ℕ) (axes : AreFirstAxes ops firsts) where
  -- axes with one first axis are joined
  same-joined : (i j : ℕ) → i < 3 → j < 3 → axis_at firsts j ≡ axis_at firsts i → AreJoined ops i j
  same-joined i j l m e =
      joined-trans ops i (axis_at firsts i) j (axes.joined i l)
      (subst (λ (x : ℕ). AreJoined ops x j) e (joined-sym ops j (axis_at firsts j) (axes.joined j m)))

  same_least : (f g m k : ℕ) → f ≡ g → IsLeastMultipleOf firsts f dens m → IsLeastMultipleOf firsts g dens k → m ≡ k
  same_least f g m k e a b =
      let c = subst (λ (x : ℕ). IsLeastMultipleOf firsts x dens m) e a in
      let p : m ≤ k = c.least k b.positive b.multiple in
      let q : k ≤ m = b.least m c.positive c.multiple in
      omega (arith, p, q)

  module _ (a b c : ℕ) (x : IsLeastMultipleOf firsts (axis_at firsts 0) dens a) (y : IsLeastMultipleOf firsts (axis_at firsts 1) dens b)
      (z : IsLeastMultipleOf firsts (axis_at firsts 2) dens c) where
    abbrev d : List ℕ
    d = a ∷ b ∷ c ∷ []

    each : (i : ℕ) → i < 3 → IsLeastMultipleOf firsts (axis_at firsts i) dens (multiplier d i)
    each zero l = x
    each (suc zero) l = y
    each (suc (suc zero)) l = z
    each (suc (suc (suc i))) l = absurd (omega arith)

    pub multipliers_are : AreMultipliers ops dens d
    multipliers_are = record {
      axes = refl;
      positive = λ i l. (each i l).positive;
      common = λ i l n j p q h. (each i l).multiple n j p q (sym (axes.same i j l q h));
      least = λ i m l s h. (each i l).least m s (λ n j p q e. h n j p q (same-joined i j l q e));
    }

    pub multipliers-supercell : IsSupercell ops d
    multipliers-supercell = record {
      positive = λ i l. (each i l).positive;
      few = λ i l. (each i l).few;
      joined = λ i j l m h. same_least (axis_at firsts i) (axis_at firsts j) (multiplier d i) (multiplier d j) (axes.same i j l m h) (each i l) (each j m);
    }
