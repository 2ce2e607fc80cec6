-- The irreps of a file under its parent group: their stars, their matrices, and what they induce.
--
-- row_of_irrep i: the wave vector, as a row of twelfths
-- HasPhase p i, RefusesPhase p i r: each phase of the wave vector is a multiple of 1/24; the first that isn't
-- IsRepresented p i s g: s is the star, and the `mat` lines give the small representation g
-- RefusesRep p i r, IsWideRep p i k: why the lines give none
-- IsInduced q i, RefusesInduced q i r, IsWideInducedRep q i k: the matrices that it induces, or why there are none
use Rattle.std.specs.Prelude.{◌≡◌, ◌≢◌, ◌⊎◌, ℕ, ℤ, List, length, Option, Some, None}
use Rattle.iso_text.specs.declared.numbers.Frac.{Frac}
use Rattle.iso_text.specs.declared.sections.IrrepText.{IrrepText}
use Rattle.iso_text.specs.declared.sections.VectorText.{VectorText}
use Rattle.space_ops.specs.Group.{Parent}
use Rattle.space_ops.specs.Matrix.{Vector}
use Rattle.kstar.specs.Fraction.{row_of}
use Rattle.kstar.specs.Star.{WaveStar, IsStarOf, IsFirstBadPhase}
use Rattle.kstar.specs.WaveVector.{HasPhases}
use Rattle.super_group.specs.Quotient.{SupercellGroup}
use Rattle.small_rep.specs.declared.errors.RepError.{RepError}
use Rattle.small_rep.specs.declared.errors.RepError.TheVariants as rep
use Rattle.small_rep.specs.Reading.{AreReadFrom, IsReadCause}
use Rattle.small_rep.specs.Check.{IsCheckCause}
use Rattle.small_rep.specs.SmallRep.{Matrices, IsSmallRep}
use Rattle.induce.specs.Induced.{dimension_of}
use Rattle.induce.specs.Kinds.{HasTooMany}
use Rattle.induce.specs.Wide.{IsWideInduced}
use Rattle.report_steps.specs.declared.refusal.Refusal.{Refusal}
use Rattle.report_steps.specs.declared.refusal.Refusal.TheVariants as refusal

-- the wave vector, in twelfths
abbrev pub row_of_irrep : IrrepText → Vector ℤ
row_of_irrep i = row_of (record { parts = i.k })

-- each k.c is a multiple of 1/24, for the centring vectors c
abbrev pub HasPhase : Parent → IrrepText → Type 0
HasPhase p i = HasPhases p.lattice (row_of_irrep i)

-- the first k.c that isn't
abbrev pub RefusesPhase : Parent → IrrepText → Refusal → Type 0
RefusesPhase p i r = (f : Frac) × IsFirstBadPhase p.lattice (row_of_irrep i) f × (r ≡ refusal.BadPhase i.name f)

-- the star of the wave vector, and the small representation that the lines give
pub record IsRepresented (p : Parent) (i : IrrepText) (s : WaveStar) (g : Matrices) : Type 0 where
  pub star : IsStarOf p (row_of_irrep i) s
  pub read : AreReadFrom p s i.size i.mats g
  pub small : IsSmallRep p s i.size g

abbrev pub HasRep : Parent → IrrepText → Type 0
HasRep p i = (s : WaveStar) × (g : Matrices) × IsRepresented p i s g

-- the refusal of a block that gives no small representation
abbrev pub refusal_of : List ℕ → RepError → Option Refusal
refusal_of name (rep.NotLittle n) = Some (refusal.NotLittle n)
refusal_of name (rep.RotationTwice n) = Some (refusal.RotationTwice n)
refusal_of name (rep.RotationMissing op) = Some (refusal.RotationMissing name op)
refusal_of name rep.NotUnit = Some (refusal.NotUnit name)
refusal_of name (rep.NotMultiplying a b) = Some (refusal.NotMultiplying name a b)
refusal_of name (rep.NotIrreducible sum n) = Some (refusal.NotIrreducible name sum n)
refusal_of name (rep.Wide k) = None
refusal_of name rep.NoMemory = None

-- the refusal of such a block, also that a number passes its bound
abbrev pub IsRefusalOf : List ℕ → RepError → Refusal → Type 0
IsRefusalOf name e r = (refusal_of name e ≡ Some r) ⊎ ((k : ℕ) × (e ≡ rep.Wide k) × (r ≡ refusal.Wide k))

-- why the lines give no small representation: in reading them, or behind it
abbrev pub IsRepCause : Parent → IrrepText → RepError → Type 0
IsRepCause p i e =
    (s : WaveStar) × IsStarOf p (row_of_irrep i) s
    × (IsReadCause p s i.mats e ⊎ ((g : Matrices) × AreReadFrom p s i.size i.mats g × IsCheckCause p s i.size g e))

abbrev pub RefusesRep : Parent → IrrepText → Refusal → Type 0
RefusesRep p i r = (e : RepError) × IsRepCause p i e × (refusal_of i.name e ≡ Some r)

abbrev pub IsWideRep : Parent → IrrepText → ℕ → Type 0
IsWideRep p i k = IsRepCause p i (rep.Wide k)

-- a given vector has as many numbers as the representation has dimensions
abbrev pub IsVectorOf : ℕ → Option VectorText → Type 0
IsVectorOf n None = Unit {0}
IsVectorOf n (Some v) = length v.numbers ≡ n

-- at most 24 real dimensions, and a given vector that fits
pub record IsInducible (q : SupercellGroup) (i : IrrepText) (s : WaveStar) (g : Matrices) : Type 0 where
  pub rep : IsRepresented q.parent i s g
  pub few : (n : ℕ) → HasTooMany q s i.size g n → ⊥
  pub vector : IsVectorOf (dimension_of s i.size) i.vector

abbrev pub HasInduced : SupercellGroup → IrrepText → Type 0
HasInduced q i = (s : WaveStar) × (g : Matrices) × IsInducible q i s g

-- a given vector of another size
abbrev pub IsVectorCause : ℕ → Option VectorText → Refusal → Type 0
IsVectorCause n None r = ⊥
IsVectorCause n (Some v) r = (length v.numbers ≢ n) × (r ≡ refusal.VectorSize v.line (length v.numbers) n)

-- too many real dimensions, or else a given vector of another size
abbrev pub IsDimensionCause : SupercellGroup → IrrepText → WaveStar → Matrices → Refusal → Type 0
IsDimensionCause q i s g r =
    ((n : ℕ) × HasTooMany q s i.size g n × (r ≡ refusal.TooManyDimensions i.name n))
    ⊎ (((n : ℕ) → HasTooMany q s i.size g n → ⊥) × IsVectorCause (dimension_of s i.size) i.vector r)

abbrev pub RefusesInduced : SupercellGroup → IrrepText → Refusal → Type 0
RefusesInduced q i r = (s : WaveStar) × (g : Matrices) × IsRepresented q.parent i s g × IsDimensionCause q i s g r

abbrev pub IsWideInducedRep : SupercellGroup → IrrepText → ℕ → Type 0
IsWideInducedRep q i k = (s : WaveStar) × (g : Matrices) × IsRepresented q.parent i s g × (k ≡ 0) × IsWideInduced q s i.size g
