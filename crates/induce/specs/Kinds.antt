-- The kind of an induced representation, by the sum of the characters of the squares.
--
-- IsKind kind s n: real where the sum s is the order n, complex where it is 0, else pseudoreal
-- real_dimension kind n: n for the real kind, else 2 n
-- HasTooMany q s n m r: r is the real dimension, and passes 24
use Rattle.std.specs.Prelude.{◌≡◌, ℕ, ◌<◌, ◌*◌, pos}
use Rattle.cyclo24.specs.ExactZ24.{ExactZ24, z24_laws}
use Rattle.cyclo24.specs.Numerals.{of_whole}
use Rattle.kstar.specs.Star.{WaveStar}
use Rattle.super_group.specs.Quotient.{SupercellGroup, order_of}
use Rattle.small_rep.specs.SmallRep.{Matrices}
use Rattle.induce.specs.Induced.{dimension_of, indicator_sum}
use Rattle.induce.specs.declared.kinds.Kind.{Kind}
use Rattle.induce.specs.declared.kinds.Kind.TheVariants.{Real, Complex, Pseudoreal}

-- real where the sum is the order, complex where it is 0, else pseudoreal
abbrev pub IsKind : Kind → ExactZ24 → ℕ → Type 0
IsKind Real s n = s ≡ of_whole z24_laws (pos n)
IsKind Complex s n = s ≡ z24_laws.nought
IsKind Pseudoreal s n = (s ≡ of_whole z24_laws (pos n) → ⊥) × (s ≡ z24_laws.nought → ⊥)

-- n for the real kind, else 2 n
abbrev pub real_dimension : Kind → ℕ → ℕ
real_dimension Real n = n
real_dimension Complex n = 2 * n
real_dimension Pseudoreal n = 2 * n

-- the real dimension of the kind passes 24
pub record HasTooMany (q : SupercellGroup) (s : WaveStar) (n : ℕ) (m : Matrices) (r : ℕ) : Type 0 where
  pub kind : Kind
  pub is_kind : IsKind kind (indicator_sum q s n m) (order_of q)
  pub dimension : r ≡ real_dimension kind (dimension_of s n)
  pub many : 24 < r
