-- The modes of an orbit: for the irreps in order, the reduced rows of the range of P_j without each row that is in the
-- span of the modes before it; then the unit vectors at the columns without a pivot of the reduced form of those rows.
-- A mode of an irrep is a pair of the irrep's number, from 0, and the vector.
--
-- marked j rs: the rows of a form, as rows of irrep j
-- AreRangeRows f s j ws cs: cs are the reduced rows of the ranges of P for each of ws in order, which belong to the irreps j, j + 1, ..
-- AreKept f ms cs kept: kept are ms, and those of the rows cs behind them that aren't in the span of what stands before
-- AreIrrepModes f s ws ms: ms are the modes of the irreps of weights ws
-- AreModes f s ws ms sites: these are the modes, those that belong to no irrep as the columns of unit vectors
-- all_modes f ms sites: the vectors of all modes in order
-- vector_at f vs m: vector m of a list, 0 past its end
-- before_irrep j ms: the modes of the irreps below j
use Rattle.std.specs.Prelude.{◌≡◌, ℕ, suc, zero, ◌⊎◌, List, [], ◌∷◌, ◌++◌, map, ltb, if◌then◌else◌}
use Rattle.cyclo24.specs.FieldOn.{FieldOn}
use Rattle.lin_alg.specs.Spans.{row_vectors, IsInSpan}
use Rattle.lin_alg.specs.Reduced.{free_columns}
use Rattle.lin_alg.specs.Equations.{unit_vector}
use Rattle.mode_project.specs.AtomSpace.{AtomSpace, size_of}
use Rattle.mode_project.specs.Projection.{projection, IsInRange, IsReducedFormOf}

-- the rows of a form, with j in the place of their pivots
abbrev pub marked : {V : Type 0} → ℕ → List (ℕ × V) → List (ℕ × V)
marked j [] = []
marked j (r ∷ rs) = (j, r.1) ∷ marked j rs

abbrev pub AreRangeRows : {K : Type 0} → FieldOn K → AtomSpace → ℕ → List (ℕ → K) → List (ℕ × (ℕ → K)) → Type 0
AreRangeRows f s j [] cs = cs ≡ []
AreRangeRows {K} f s j (w ∷ ws) cs =
    (rs : List (ℕ × (ℕ → K))) × IsReducedFormOf f (size_of s) (IsInRange f (size_of s) (projection f s w)) rs
    × ((rest : List (ℕ × (ℕ → K))) × AreRangeRows f s (suc j) ws rest × (cs ≡ marked j rs ++ rest))

-- next are ms, and c behind them where it isn't in their span
abbrev pub IsKept : {K : Type 0} → FieldOn K → List (ℕ × (ℕ → K)) → (ℕ × (ℕ → K)) → List (ℕ × (ℕ → K)) → Type 0
IsKept f ms c next =
    (IsInSpan f (row_vectors ms) c.1 × (next ≡ ms)) ⊎ ((IsInSpan f (row_vectors ms) c.1 → ⊥) × (next ≡ ms ++ c ∷ []))

abbrev pub AreKept : {K : Type 0} → FieldOn K → List (ℕ × (ℕ → K)) → List (ℕ × (ℕ → K)) → List (ℕ × (ℕ → K)) → Type 0
AreKept f ms [] kept = kept ≡ ms
AreKept {K} f ms (c ∷ cs) kept = (next : List (ℕ × (ℕ → K))) × IsKept f ms c next × AreKept f next cs kept

abbrev pub AreIrrepModes : {K : Type 0} → FieldOn K → AtomSpace → List (ℕ → K) → List (ℕ × (ℕ → K)) → Type 0
AreIrrepModes {K} f s ws ms = (cs : List (ℕ × (ℕ → K))) × AreRangeRows f s 0 ws cs × AreKept f [] cs ms

-- the columns of d without a pivot of the reduced form of the rows, rising
abbrev pub AreFreeColumns : {K : Type 0} → FieldOn K → ℕ → List (ℕ × (ℕ → K)) → List ℕ → Type 0
AreFreeColumns {K} f d ms sites =
    (rs : List (ℕ × (ℕ → K))) × IsReducedFormOf f d (IsInSpan f (row_vectors ms)) rs × (sites ≡ free_columns d rs)

pub record AreModes {K : Type 0} (f : FieldOn K) (s : AtomSpace) (ws : List (ℕ → K)) (ms : List (ℕ × (ℕ → K))) (sites : List ℕ) : Type 0 where
  pub irreps : AreIrrepModes f s ws ms
  pub free : AreFreeColumns f (size_of s) ms sites

abbrev pub all_modes : {K : Type 0} → FieldOn K → List (ℕ × (ℕ → K)) → List ℕ → List (ℕ → K)
all_modes f ms sites = row_vectors ms ++ map (unit_vector f) sites

abbrev pub vector_at : {K : Type 0} → FieldOn K → List (ℕ → K) → ℕ → ℕ → K
vector_at f [] m = λ _. f.nought
vector_at f (v ∷ vs) zero = v
vector_at f (v ∷ vs) (suc m) = vector_at f vs m

abbrev pub before_irrep : {V : Type 0} → ℕ → List (ℕ × V) → List (ℕ × V)
before_irrep j [] = []
before_irrep j (m ∷ ms) = if ltb m.0 j then m ∷ before_irrep j ms else before_irrep j ms
