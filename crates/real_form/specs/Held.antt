-- What a real form keeps: facts with one proof each.
--
-- generator_of s i: generator i of the quotient
-- entry_in s d left right: the entries of its matrices
-- IsStacked s d left right: the matrices of d rows and columns stand one below the other
-- IsHeld s d left right: these, and the matrices multiply as the quotient
-- AreNarrow s d left right: no product of a row of a translation's matrix and a listed operation's is wide
use Rattle.std.specs.Prelude.{◌≡◌, ℕ, ◌+◌, ◌*◌, ◌<◌, length, slice_index_or}
use Rattle.cyclo24.specs.declared.k24.K24.{K24}
use Rattle.cyclo24.specs.K24.{exact24}
use Rattle.cyclo24.specs.ExactK24.{Exact24, k24, k24_laws}
use Rattle.lin_alg.specs.Matrices.{unit_entry, AreEqualBelow, IsRepresentation}
use Rattle.lin_alg.specs.Matrix.{MatrixView, entry, IsWideDot}
use Rattle.super_group.specs.Quotient.{SupercellGroup, quotient_group, generators_of}
use Rattle.real_form.specs.Actions.{factored_entry}

abbrev pub generator_of : SupercellGroup → ℕ → ℕ
generator_of s i = slice_index_or (generators_of s) i 0

abbrev pub entry_in : SupercellGroup → ℕ → MatrixView K24 → MatrixView K24 → ℕ → ℕ → ℕ → Exact24
entry_in s d left right = factored_entry k24_laws exact24 d (length s.translations) left right

pub record IsStacked (s : SupercellGroup) (d : ℕ) (left right : MatrixView K24) : Type 0 where
  pub left_rows : left.rows ≡ length s.translations * d
  pub left_cols : left.cols ≡ d
  pub right_rows : right.rows ≡ length s.parent.ops * d
  pub right_cols : right.cols ≡ d

abbrev pub AreNarrow : SupercellGroup → ℕ → MatrixView K24 → MatrixView K24 → Type 0
AreNarrow s d left right =
    (p r j : ℕ) → p < left.rows → r < length s.parent.ops → j < d → IsWideDot k24 d (entry k24_laws exact24 left p) (λ k. entry k24_laws exact24 right (r * d + k) j) → ⊥

-- what a real form of d dimensions keeps of its matrices
pub record IsHeld (s : SupercellGroup) (d : ℕ) (left right : MatrixView K24) : Type 0 where
  pub stacked : IsStacked s d left right
  pub narrow : AreNarrow s d left right
  pub identity : AreEqualBelow d (entry_in s d left right 0) (unit_entry k24_laws)
  pub multiplies : IsRepresentation k24_laws (quotient_group s) d (entry_in s d left right)
