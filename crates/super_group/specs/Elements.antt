-- Elements of a quotient by their rotation and translation.
--
-- translation_element s t: {E|t} for translation t of the list
-- IsFactored s q: element q = r T + t has rotation r, and is {E|t} after operation r of the list
-- AreFactored s: each element is, element r T + t is the product of the numbers of these two, and element 0 is the identity
-- AreNumbersMultiplied s: numbers multiply as members
use Rattle.std.specs.Prelude.{◌≡◌, ℕ, ◌<◌, ◌+◌, ◌*◌, ◌/◌, ◌%◌, ℤ, length}
use Rattle.algebra.specs.Whole.{whole}
use Rattle.space_ops.specs.Seitz.{Seitz, seitz_product, seitz_inverse, seitz_identity}
use Rattle.space_ops.specs.Words.{op_at}
use Rattle.space_ops.specs.WordLaws.{translation}
use Rattle.space_ops.specs.Member.{rotation_of}
use Rattle.super_group.specs.Supercell.{IsSameElement}
use Rattle.super_group.specs.Quotient.{SupercellGroup, IsMember, translation_at, order_of, element_of, number_of, quotient_group}

-- {E|t} for translation t of the list
abbrev pub translation_element : SupercellGroup → ℕ → Seitz ℤ
translation_element s t = translation (translation_at s.translations t)

-- rotation r, and {E|t} after operation r of the list, modulo the supercell, for q = r T + t
pub record IsFactored (s : SupercellGroup) (q : ℕ) : Type 0 where
  pub rotation : rotation_of s.parent (element_of s q) ≡ q / length s.translations
  pub same : IsSameElement s.d (element_of s q)
      (seitz_product whole (translation_element s (q % length s.translations)) (op_at s.parent.ops (q / length s.translations)))

pub record AreFactored (s : SupercellGroup) : Type 0 where
  pub identity : element_of s 0 ≡ seitz_identity whole
  pub each : (q : ℕ) → q < order_of s → IsFactored s q
  -- r T + t is the number of {E|t} times that of operation r
  pub factors : (r t : ℕ) → r < length s.parent.ops → t < length s.translations
      → r * length s.translations + t ≡ (quotient_group s).product (number_of s (translation_element s t)) (number_of s (op_at s.parent.ops r))
  pub translations : (t : ℕ) → t < length s.translations → number_of s (translation_element s t) ≡ t
  pub operations : (r : ℕ) → r < length s.parent.ops → number_of s (op_at s.parent.ops r) ≡ r * length s.translations

-- numbers multiply as members
pub record AreNumbersMultiplied (s : SupercellGroup) : Type 0 where
  pub identity : number_of s (seitz_identity whole) ≡ 0
  pub product : (g k : Seitz ℤ) → IsMember s g → IsMember s k
      → number_of s (seitz_product whole g k) ≡ (quotient_group s).product (number_of s g) (number_of s k)
  pub inverse : (g : Seitz ℤ) → IsMember s g → number_of s (seitz_inverse whole g) ≡ (quotient_group s).inverse (number_of s g)
