-- Matrices of blocks, where a test says which blocks aren't 0.
--
-- tested f t g: block (j, i) is g j i where t j i holds, else 0
-- tested_matrix f s t g: the matrix of these blocks of size s
use Rattle.std.specs.Prelude.{ℕ, ◌/◌, ◌%◌, Bool, if◌then◌else◌}
use Rattle.cyclo24.specs.FieldOn.{FieldOn}

-- block (j, i) where the test holds, else 0
abbrev pub tested : {K : Type 0} → FieldOn K → (ℕ → ℕ → Bool) → (ℕ → ℕ → ℕ → ℕ → K) → ℕ → ℕ → ℕ → ℕ → K
tested f t g j x i y = if t j i then g j i x y else f.nought

-- the matrix of blocks of size s
abbrev pub tested_matrix : {K : Type 0} → FieldOn K → ℕ → (ℕ → ℕ → Bool) → (ℕ → ℕ → ℕ → ℕ → K) → ℕ → ℕ → K
tested_matrix f s t g p q = tested f t g (p / s) (p % s) (q / s) (q % s)
