-- Candidates of which a translation moves one to a multiple of the other.
--
-- IsShift R T n s D j k d: a translation multiplies the rows of arm j by a power of z, and those of arm k by z^d besides
-- IsShifted R T n s D b c: candidates 1 at i and z^a at j, and 1 at i and z^(a + d) at j, for such a d on their arms
use Rattle.std.specs.Prelude.{◌≡◌, ℕ, ◌+◌, ◌/◌, ◌%◌, ◌<◌}
use Rattle.cyclo24.specs.ExactZ24.{ExactZ24}
use Rattle.real_form.specs.declared.candidate.Candidate.{Candidate}
use Rattle.real_form.specs.declared.candidate.Candidate.TheVariants.{Pair}
use Rattle.real_form.specs.Sparse.{IsPhase}

-- z^p on arm j, and z^(p + d) on arm k
abbrev pub IsShift : ℕ → ℕ → ℕ → ℕ → (ℕ → ℕ → ℕ → ExactZ24) → ℕ → ℕ → ℕ → Type 0
IsShift R T n s D j k d = (t p o : ℕ) × (t < T) × (p < 24) × IsPhase R T n s D p j t × IsPhase R T n s D o k t × ((p + d) % 24 ≡ o % 24)

-- the same places, and a power that is higher by such a d
abbrev pub IsShifted : ℕ → ℕ → ℕ → ℕ → (ℕ → ℕ → ℕ → ExactZ24) → Candidate → Candidate → Type 0
IsShifted R T n s D b c = (i j a d : ℕ) × (b ≡ Pair i j a) × (c ≡ Pair i j (a + d)) × IsShift R T n s D (i / s) (j / s) d
