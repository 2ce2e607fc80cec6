-- The basis of a real form, and where its numbers are wide.
--
-- IsRealBasis kind n m D cs rs: the rows are the basis: all unit vectors, or for the real kind the reduced rows of the span of the orbit of the first candidate that fits
-- IsWideSpans n m D cs: the orbit of a candidate up to and with the first that fits is wide
-- IsWideFactors n m D rs: writing the rows as complex vectors, or their images under m elements, is wide
-- IsWideMatrices n t r D rs A: the same, or a product of the matrices A of a translation and a listed operation
-- IsWideForm kind n t r D cs: the matrices of t translations and r listed operations in the basis, or their products, are wide
use Rattle.std.specs.Prelude.{◌≡◌, ℕ, ◌+◌, ◌*◌, ◌<◌, ◌⊎◌, List, length}
use Rattle.cyclo24.specs.ExactK24.{Exact24, k24, k24_laws}
use Rattle.cyclo24.specs.ExactZ24.{ExactZ24}
use Rattle.induce.specs.declared.kinds.Kind.{Kind}
use Rattle.induce.specs.declared.kinds.Kind.TheVariants.{Real, Complex, Pseudoreal}
use Rattle.real_form.specs.Parts.{lifted, orbit}
use Rattle.real_form.specs.Complexes.{z24_parts}
use Rattle.real_form.specs.Orbits.{IsFormOf, Fits, FirstOf}
use Rattle.real_form.specs.Bases.{row_at, unit_rows, AreMatricesIn}
use Rattle.real_form.specs.Wide.{IsWideImage, IsWideOrbit, IsWideLifted}
use Rattle.real_form.specs.Products.{IsWideRow}

-- the rows are the form of the orbit's span, of dimension n
abbrev pub IsBasisOf : ℕ → ℕ → (ℕ → ℕ → ℕ → ExactZ24) → List (ℕ × (ℕ → Exact24)) → (ℕ → ExactZ24) → Type 0
IsBasisOf n m D rs w = IsFormOf k24_laws (n + n) m (orbit z24_parts n D w) rs × (length rs ≡ n)

-- the orbit's span hasn't dimension n
abbrev pub FitsNot : ℕ → ℕ → (ℕ → ℕ → ℕ → ExactZ24) → (ℕ → ExactZ24) → Type 0
FitsNot n m D w = Fits z24_parts n m D w → ⊥

abbrev pub IsRealBasis : Kind → ℕ → ℕ → (ℕ → ℕ → ℕ → ExactZ24) → List (ℕ → ExactZ24) → List (ℕ × (ℕ → Exact24)) → Type 0
IsRealBasis Real n m D cs rs = FirstOf (IsBasisOf n m D rs) (FitsNot n m D) cs
IsRealBasis Complex n m D cs rs = rs ≡ unit_rows k24_laws 0 (n + n)
IsRealBasis Pseudoreal n m D cs rs = rs ≡ unit_rows k24_laws 0 (n + n)

abbrev pub IsWideSpans : ℕ → ℕ → (ℕ → ℕ → ℕ → ExactZ24) → List (ℕ → ExactZ24) → Type 0
IsWideSpans n m D cs = FirstOf (IsWideOrbit n m D) (FitsNot n m D) cs

-- writing a row of the basis as a complex vector, or an image of it under one of m elements
abbrev pub IsWideFactors : ℕ → ℕ → (ℕ → ℕ → ℕ → ExactZ24) → List (ℕ × (ℕ → Exact24)) → Type 0
IsWideFactors n m D rs =
    ((k : ℕ) × (k < length rs) × IsWideLifted n (row_at k24_laws rs k))
    ⊎ ((k q : ℕ) × (k < length rs) × (q < m) × IsWideImage n D q (lifted z24_parts n (row_at k24_laws rs k)))

-- the same, or a product of the matrices of t translations and of r listed operations
abbrev pub IsWideMatrices : ℕ → ℕ → ℕ → (ℕ → ℕ → ℕ → ExactZ24) → List (ℕ × (ℕ → Exact24)) → (ℕ → ℕ → ℕ → Exact24) → Type 0
IsWideMatrices n t r D rs A =
    IsWideFactors n (r * t) D rs ⊎ ((a b i : ℕ) × (a < t) × (b < r) × (i < length rs) × IsWideRow k24 (length rs) (A a i) (A (b * t)))

abbrev pub IsWideForm : Kind → ℕ → ℕ → ℕ → (ℕ → ℕ → ℕ → ExactZ24) → List (ℕ → ExactZ24) → Type 0
IsWideForm kind n t r D cs =
    (rs : List (ℕ × (ℕ → Exact24))) × (A : ℕ → ℕ → ℕ → Exact24)
    × IsRealBasis kind n (r * t) D cs rs × AreMatricesIn z24_parts n D (r * t) rs A × IsWideMatrices n t r D rs A
