-- Small representations of the little group of a wave vector k: one matrix for each of its rotations.
--
-- Matrices: for each rotation number the entries of its matrix, by row and column
-- phased a x: z^a x, for z = exp(2 pi i / 24)
-- is_listed xs r: r is a number of the list
-- IsLittleOp p s h: h belongs to the little group
-- carried p s h x: exp(2 pi i k.n) x, for h = {E|n} after the listed operation of its rotation
-- little_matrix p s g h: exp(-2 pi i k.n) G(R), for h = {E|n} after the listed operation of rotation R
-- factor_of p a b: t_R + R t_S - t_RS, for rotations number a and b of the list
-- MultiplyTo n g a b c q: G(a) G(b) = z^q G(c)
-- MultipliesWithPhase p s n g a b: G(R) G(S) = exp(-2 pi i k.(t_R + R t_S - t_RS)) G(RS)
-- IsUnit n g: the matrix of the identity is the unit matrix
-- character_of n g r, norm_of x: the trace of the matrix of rotation r; |x|^2
-- character_sum little n g: the sum of |character|^2 over the rotations of a list
-- IsSmallRep p s n g: the matrices are a small representation
use Rattle.std.specs.Prelude.{◌≡◌, ℕ, ℤ, pos, Bool, List, Contains, nat_eq, length, slice_index}
use Rattle.std.specs.List.{list_any}
use Rattle.algebra.specs.Whole.{whole}
use Rattle.cyclo24.specs.ExactK24.{Exact24, k24_laws}
use Rattle.cyclo24.specs.ExactZ24.{ExactZ24, z24_laws, conj, real_part, power}
use Rattle.cyclo24.specs.Numerals.{of_whole}
use Rattle.cyclo24.specs.Sums.{total}
use Rattle.lin_alg.specs.Matrices.{AreEqualBelow, mul, multiple, trace, unit_entry}
use Rattle.space_ops.specs.Matrix.{Vector, minus_vector}
use Rattle.space_ops.specs.Seitz.{Seitz, seitz_product}
use Rattle.space_ops.specs.Words.{op_at, vector_difference}
use Rattle.space_ops.specs.Group.{Parent}
use Rattle.space_ops.specs.GroupLaws.{rotation_group}
use Rattle.space_ops.specs.Member.{IsMemberOf, rotation_of, rest_of}
use Rattle.kstar.specs.WaveVector.{phase_of}
use Rattle.kstar.specs.Star.{WaveStar}

-- rotation number, row, column
abbrev pub Matrices : Type 0
Matrices = ℕ → ℕ → ℕ → ExactZ24

-- z^a x
abbrev pub phased : ℕ → ExactZ24 → ExactZ24
phased a x = z24_laws.times (power a) x

-- r is a number of the list
abbrev pub is_listed : List ℕ → ℕ → Bool
is_listed xs r = list_any (λ x. nat_eq x r) xs

-- a member of the parent group whose rotation leaves k equivalent to itself
pub record IsLittleOp (p : Parent) (s : WaveStar) (h : Seitz ℤ) : Type 0 where
  pub member : IsMemberOf p h
  pub little : Contains s.little (rotation_of p h)

-- exp(2 pi i k.n) x, for h = {E|n} after the listed operation of its rotation
abbrev pub carried : Parent → WaveStar → Seitz ℤ → ExactZ24 → ExactZ24
carried p s h x = phased (phase_of s.row (minus_vector whole (rest_of p h))) x

-- G(h) = exp(-2 pi i k.n) G(R), for h = {E|n} after the listed operation of rotation R
unfoldable pub little_matrix : Parent → WaveStar → Matrices → Seitz ℤ → ℕ → ℕ → ExactZ24
little_matrix p s g h x y = phased (phase_of s.row (rest_of p h)) (g (rotation_of p h) x y)

-- t_R + R t_S - t_RS: {R|t_R}{S|t_S} is this translation after the listed operation of RS
abbrev pub factor_of : Parent → ℕ → ℕ → Vector ℤ
factor_of p a b = vector_difference (seitz_product whole (op_at p.ops a) (op_at p.ops b)).shift (op_at p.ops ((rotation_group p.ops).product a b)).shift

-- G(a) G(b) = z^q G(c)
abbrev pub MultiplyTo : ℕ → Matrices → ℕ → ℕ → ℕ → ℕ → Type 0
MultiplyTo n g a b c q = AreEqualBelow n (mul z24_laws n (g a) (g b)) (multiple z24_laws (power q) (g c))

-- G(R) G(S) = exp(-2 pi i k.(t_R + R t_S - t_RS)) G(RS)
abbrev pub MultipliesWithPhase : Parent → WaveStar → ℕ → Matrices → ℕ → ℕ → Type 0
MultipliesWithPhase p s n g a b = MultiplyTo n g a b ((rotation_group p.ops).product a b) (phase_of s.row (factor_of p a b))

-- the matrix of the identity is the unit matrix
abbrev pub IsUnit : ℕ → Matrices → Type 0
IsUnit n g = AreEqualBelow n (g 0) (unit_entry z24_laws)

-- the trace of the matrix of rotation r
abbrev pub character_of : ℕ → Matrices → ℕ → ExactZ24
character_of n g r = trace z24_laws n (g r)

-- |x|^2
abbrev pub norm_of : ExactZ24 → ExactZ24
norm_of x = z24_laws.times x (conj x)

-- the sum of |character|^2 over the first i rotations of a list
abbrev pub norms_of : List ℕ → ℕ → Matrices → ℕ → ExactZ24
norms_of little n g i = total z24_laws i (λ k. norm_of (character_of n g (slice_index little k)))

-- the sum over all of them, a real number
abbrev pub character_sum : List ℕ → ℕ → Matrices → Exact24
character_sum little n g = real_part (norms_of little n g (length little))

-- the number of rotations
abbrev pub rotation_count : List ℕ → Exact24
rotation_count little = of_whole k24_laws (pos (length little))

-- the unit matrix for the identity, the law of ordered pairs with its phase, and the character sum
pub record IsSmallRep (p : Parent) (s : WaveStar) (n : ℕ) (g : Matrices) : Type 0 where
  pub identity : IsUnit n g
  pub multiplies : (a b : ℕ) → Contains s.little a → Contains s.little b → MultipliesWithPhase p s n g a b
  pub irreducible : character_sum s.little n g ≡ rotation_count s.little
