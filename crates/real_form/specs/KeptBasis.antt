-- Bases of spaces that a quotient keeps, as programs hold them.
--
-- IsKeptBasis m n D rows: the rows are a reduced form of a space of real vectors that each D(q) keeps
-- AreFactorsOf s n D rows left right: the matrices of the translations and of the listed operations in the basis
use Rattle.std.specs.Prelude.{◌≡◌, ℕ, ◌+◌, ◌*◌, ◌<◌, List, length}
use Rattle.cyclo24.specs.declared.k24.K24.{K24}
use Rattle.cyclo24.specs.K24.{exact24}
use Rattle.cyclo24.specs.ExactK24.{Exact24, k24_laws}
use Rattle.cyclo24.specs.ExactZ24.{ExactZ24}
use Rattle.lin_alg.specs.Spans.{row_vectors, IsInSpan}
use Rattle.lin_alg.specs.Reduced.{IsForm}
use Rattle.lin_alg.specs.Rows.{exact_rows, HaveWidth}
use Rattle.lin_alg.specs.Matrix.{MatrixView, entry}
use Rattle.super_group.specs.Quotient.{SupercellGroup}
use Rattle.real_form.specs.Parts.{real_image}
use Rattle.real_form.specs.Bases.{matrix_of}
use Rattle.real_form.specs.Complexes.{z24_parts}
use Rattle.real_form.specs.Held.{IsStacked}

-- the span of the rows is kept by each element
abbrev pub IsKept : ℕ → ℕ → (ℕ → ℕ → ℕ → ExactZ24) → List (ℕ × (ℕ → Exact24)) → Type 0
IsKept m n D rs =
    (q : ℕ) → q < m → (v : ℕ → Exact24) → IsInSpan k24_laws (row_vectors rs) v → IsInSpan k24_laws (row_vectors rs) (real_image z24_parts n D q v)

pub record IsKeptBasis (m n : ℕ) (D : ℕ → ℕ → ℕ → ExactZ24) (rows : List (ℕ × List K24)) : Type 0 where
  pub width : HaveWidth (n + n) rows
  pub form : IsForm k24_laws (n + n) (exact_rows k24_laws exact24 rows)
  pub kept : IsKept m n D (exact_rows k24_laws exact24 rows)

-- the matrices of the translations, and those of the listed operations, in a basis, one below the other
pub record AreFactorsOf (s : SupercellGroup) (n : ℕ) (D : ℕ → ℕ → ℕ → ExactZ24) (rows : List (ℕ × List K24)) (left right : MatrixView K24) : Type 0 where
  pub stacked : IsStacked s (length rows) left right
  pub translations : (t i j : ℕ) → t < length s.translations → i < length rows → j < length rows
      → entry k24_laws exact24 left (t * length rows + i) j ≡ matrix_of k24_laws (exact_rows k24_laws exact24 rows) (real_image z24_parts n D) t i j
  pub listed : (r i j : ℕ) → r < length s.parent.ops → i < length rows → j < length rows
      → entry k24_laws exact24 right (r * length rows + i) j ≡ matrix_of k24_laws (exact_rows k24_laws exact24 rows) (real_image z24_parts n D) (r * length s.translations) i j
