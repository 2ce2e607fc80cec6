-- The written numbers of fixed subspaces: where forming the rows of an A(q) - 1, or one of their insertions, is wide.
--
-- IsFormAfter f w us row k ss: ss is the one form of width w that vanishes where us and the rows before row k do
-- IsWideInserts f w us n row: inserting n rows in order into the form us is wide
-- row_of rows i: row i
-- IsWideMover f act q: forming a row of A(q) - 1 is wide
-- IsWideCut f act q us: inserting the equations of Fix(q), or the rows of A(q) - 1, into us is wide
-- IsWideFixes f act: forming a row of an A(q) - 1, or an insertion for fixed subspaces, is wide
use Rattle.std.specs.Prelude.{◌≡◌, ◌↔◌, ℕ, ◌<◌, IsTrue, List, [], ◌∷◌, ◌⊎◌, length, get_or}
use Rattle.algebra.specs.NumberedGroup.{AllBelow}
use Rattle.cyclo24.specs.ExactField.{ExactField, Value}
use Rattle.cyclo24.specs.FieldOn.{FieldOn}
use Rattle.lin_alg.specs.Action.{Action, entry_of}
use Rattle.lin_alg.specs.Equations.{dot}
use Rattle.fix_lattice.specs.Lattice.{IsInSpace}
use Rattle.lin_alg.specs.Fixed.{IsFixForm, mover}
use Rattle.lin_alg.specs.Insertion.{IsWideInsert}
use Rattle.lin_alg.specs.Reduced.{IsForm}

-- ss is the one form of width w that vanishes where us and the rows before row k do
pub record IsFormAfter {K : Type 0} (f : FieldOn K) (w : ℕ) (us : List (ℕ × (ℕ → K))) (row : ℕ → ℕ → K) (k : ℕ) (ss : List (ℕ × (ℕ → K))) : Type 0 where
  pub form : IsForm f w ss
  pub vanishes : (v : ℕ → K) → IsInSpace f w ss v ↔ (((i : ℕ) → i < k → dot f w (row i) v ≡ f.nought) × IsInSpace f w us v)

-- inserting n rows in order into the form us is wide: row k is, into the form after the rows before it
abbrev pub IsWideInserts : (f : ExactField) → ℕ → List (ℕ × (ℕ → Value f)) → ℕ → (ℕ → ℕ → Value f) → Type 0
IsWideInserts f w us n row =
    (k : ℕ) × (k < n) × (ss : List (ℕ × (ℕ → Value f))) × IsFormAfter f.laws w us row k ss × IsWideInsert f ss (row k)

-- row i, and 0 behind the last
abbrev pub row_of : {K : Type 0} → FieldOn K → List (ℕ × (ℕ → K)) → ℕ → ℕ → K
row_of f rows i = (get_or rows i (0, λ _. f.nought)).1

-- forming a row of A(q) - 1 is wide
abbrev pub IsWideMover : (f : ExactField) → Action → ℕ → Type 0
IsWideMover f act q = (i : ℕ) × (i < act.dim) × IsTrue (f.is_wide_difference (entry_of f.laws act q i i) f.laws.unit)

-- inserting the equations of Fix(q), or the rows of A(q) - 1, into the equations us is wide
abbrev pub IsWideCut : (f : ExactField) → Action → ℕ → List (ℕ × (ℕ → Value f)) → Type 0
IsWideCut f act q us =
    ((es : List (ℕ × (ℕ → Value f))) × IsFixForm f.laws act (q ∷ []) es × IsWideInserts f act.dim us (length es) (row_of f.laws es))
    ⊎ IsWideInserts f act.dim us act.dim (mover f.laws act q)

-- for an element q: forming a row of A(q) - 1, inserting these rows into an empty form, or a cut of a fixed subspace is wide
abbrev pub IsWideFixes : (f : ExactField) → Action → Type 0
IsWideFixes f act =
    (q : ℕ) × (q < act.group.order)
    × (IsWideMover f act q
    ⊎ (IsWideInserts f act.dim [] act.dim (mover f.laws act q)
    ⊎ ((h : List ℕ) × (us : List (ℕ × (ℕ → Value f))) × AllBelow act.group.order h × IsFixForm f.laws act h us × IsWideCut f act q us)))
