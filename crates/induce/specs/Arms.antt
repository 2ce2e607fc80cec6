-- The representatives of the arms of a star, as numbers of a quotient.
--
-- no_arm: nothing
-- AreArmNumbers q s arms: the numbers of the representatives and of their inverses
use Rattle.std.specs.Prelude.{◌≡◌, ℕ, ◌<◌, List, length, slice_index_or}
use Rattle.kstar.specs.Star.{WaveStar}
use Rattle.super_group.specs.Quotient.{SupercellGroup, number_of, quotient_group}
use Rattle.induce.specs.Induced.{representative}
use Rattle.induce.specs.declared.arms.ArmNumber.{ArmNumber}

abbrev pub no_arm : ArmNumber
no_arm = record { forth = 0; back = 0 }

-- the first k arms
pub record AreArmsBelow (q : SupercellGroup) (s : WaveStar) (arms : List ArmNumber) (k : ℕ) : Type 0 where
  pub count : length arms ≡ k
  pub forth : (i : ℕ) → i < k → (slice_index_or arms i no_arm).forth ≡ number_of q (representative q.parent s i)
  pub back : (i : ℕ) → i < k → (slice_index_or arms i no_arm).back ≡ (quotient_group q).inverse (number_of q (representative q.parent s i))

abbrev pub AreArmNumbers : SupercellGroup → WaveStar → List ArmNumber → Type 0
AreArmNumbers q s arms = AreArmsBelow q s arms (length s.by)
