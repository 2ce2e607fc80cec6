-- Laws of multipliers.
--
-- multipliers-unique: a group and denominators have one list of multipliers
-- multiplier-divides: each multiplier divides every common multiple
use Rattle.std.proofs.Common.{◌≡◌, refl, ℕ, zero, suc, ◌<◌, ◌≤◌, ◌%◌, List, arith}
use Rattle.std.proofs.Math.Nat.{mod-lt}
use Rattle.algebra.specs.MultipleLaws.{rem-common}
use Rattle.space_ops.specs.declared.op.Op.{Op}
use Rattle.super_group.specs.Supercell.{multiplier}
use Rattle.super_group.specs.Multipliers.{AreMultipliers, IsCommonMultiple, denominator}

pub multipliers-unique : (ops : List Op) (dens : List (List ℕ)) (d e : List ℕ) → AreMultipliers ops dens d → AreMultipliers ops dens e → (i : ℕ) → i < 3 → multiplier d i ≡ multiplier e i
multipliers-unique ops dens d e h k i l =
    let a : multiplier d i ≤ multiplier e i = h.least i (multiplier e i) l (k.positive i l) (k.common i l) in
    let b : multiplier e i ≤ multiplier d i = k.least i (multiplier d i) l (h.positive i l) (h.common i l) in
    omega (arith, a, b)

pub multiplier-divides : (ops : List Op) (dens : List (List ℕ)) (d : List ℕ) → AreMultipliers ops dens d → (i m : ℕ) → i < 3 → IsCommonMultiple ops dens i m → m % multiplier d i ≡ 0
multiplier-divides ops dens d h i m l c = by_remainder (m % multiplier d i) refl where
  by_remainder : (r : ℕ) → r ≡ m % multiplier d i → r ≡ 0
  by_remainder zero e = refl
  by_remainder (suc r) e =
      let less : m % multiplier d i < multiplier d i = mod-lt m {m = multiplier d i} (h.positive i l) in
      let some : 0 < m % multiplier d i = omega (arith, e) in
      let most : multiplier d i ≤ m % multiplier d i =
      h.least i (m % multiplier d i) l some (λ n j p q t. rem-common m (multiplier d i) (denominator dens n j) (c n j p q t) (h.common i l n j p q t)) in
      absurd (omega (arith, less, most))
