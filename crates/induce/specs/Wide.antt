-- Why there are no induced matrices.
--
-- IsWideEntry q s n m: the product of a phase and an entry that stands in some D(e) is wide
-- IsWideCharacter q s n m: the sum of some diagonal, from left to right, is wide
-- IsWideWeight x: the conjugate, the sum with it, or its real part is wide
-- IsWideIndicator q s n m: adding the character of a square is wide
-- IsWideInduced q s n m: some number of these is wide
-- IsInduceCause q s n m e: the real dimension passes 24, a number is wide, or there is no memory
use Rattle.std.specs.Prelude.{◌≡◌, ℕ, ◌<◌, ◌⊎◌, ⊤, true, IsTrue, length}
use Rattle.cyclo24.specs.ExactZ24.{ExactZ24, z24, z24_laws, conj, power, is_wide_product_z24, is_wide_sum_z24, is_wide_conj, is_wide_real_part}
use Rattle.lin_alg.specs.Matrix.{IsWideTrace}
use Rattle.space_ops.specs.Member.{rotation_of}
use Rattle.kstar.specs.Star.{WaveStar}
use Rattle.super_group.specs.Quotient.{SupercellGroup, order_of, element_of, quotient_group}
use Rattle.small_rep.specs.SmallRep.{Matrices}
use Rattle.induce.specs.Induced.{little_part, is_block, part_phase, dimension_of, induced_of, character_at, squares_of}
use Rattle.induce.specs.Kinds.{HasTooMany}
use Rattle.induce.specs.declared.errors.InduceError.{InduceError}
use Rattle.induce.specs.declared.errors.InduceError.TheVariants.{TooManyDimensions, Wide, NoMemory}

-- the product of a phase and an entry that stands in some D(e) is wide
pub record IsWideEntry (q : SupercellGroup) (s : WaveStar) (n : ℕ) (m : Matrices) : Type 0 where
  pub element : ℕ
  pub is_element : element < order_of q
  pub row : ℕ
  pub is_row : row < length s.by
  pub column : ℕ
  pub is_column : column < length s.by
  pub block : is_block q.parent s (element_of q element) row column ≡ true
  pub x : ℕ
  pub x_below : x < n
  pub y : ℕ
  pub y_below : y < n
  pub wide : IsTrue (is_wide_product_z24 (power (part_phase q.parent s (element_of q element) row column))
      (m (rotation_of q.parent (little_part q.parent s (element_of q element) row column)) x y))

-- the sum of some diagonal, from left to right, is wide
abbrev pub IsWideCharacter : SupercellGroup → WaveStar → ℕ → Matrices → Type 0
IsWideCharacter q s n m = (e : ℕ) × (e < order_of q) × IsWideTrace z24 (dimension_of s n) (induced_of q s n m e)

-- the conjugate, the sum with it, or its real part is wide
abbrev pub IsWideWeight : ExactZ24 → Type 0
IsWideWeight x = IsTrue (is_wide_conj x) ⊎ (IsTrue (is_wide_sum_z24 x (conj x)) ⊎ IsTrue (is_wide_real_part (z24_laws.plus x (conj x))))

-- adding the character of a square is wide
abbrev pub IsWideIndicator : SupercellGroup → WaveStar → ℕ → Matrices → Type 0
IsWideIndicator q s n m =
    (e : ℕ) × (e < order_of q) × IsTrue (is_wide_sum_z24 (squares_of q s n m e) (character_at q s n m ((quotient_group q).product e e)))

-- an entry, a character, a weight or the sum of the squares
abbrev pub IsWideInduced : SupercellGroup → WaveStar → ℕ → Matrices → Type 0
IsWideInduced q s n m =
    IsWideEntry q s n m ⊎ (IsWideCharacter q s n m ⊎ (((e : ℕ) × (e < order_of q) × IsWideWeight (character_at q s n m e)) ⊎ IsWideIndicator q s n m))

-- why there are no induced matrices
abbrev pub IsInduceCause : SupercellGroup → WaveStar → ℕ → Matrices → InduceError → Type 0
IsInduceCause q s n m (TooManyDimensions r) = HasTooMany q s n m r
IsInduceCause q s n m (Wide f) = (f ≡ 0) × IsWideInduced q s n m
IsInduceCause q s n m NoMemory = ⊤
