-- What the parts of the code of modes give.
--
-- IsPut old at n target new: new is old, with n entries of the target from place `at` on
-- rows_in vs: the rows of a list of vectors, as lists
-- row_in f value rows b: row b as an exact vector, 0 past the end
-- AreVectors f value d target rows k: the rows are the first k vectors of the target, each of d entries
-- image_row f s q c: M(q) c
-- more f v x u: v and x times u
-- turned_row f s p a c: the sum of the vectors c b times entry (b, a) of the matrix of p
-- HoldsSpan f value d a k form: the whole form of the span of the first k rows
-- spread f s ways c: the columns of all atoms, from the columns c of the first: those of atom i by the element of way i
use Rattle.std.specs.Prelude.{◌≡◌, ℕ, ◌<◌, ◌≤◌, ◌+◌, ◌/◌, ◌%◌, true, List, [], length, map, slice_index_or}
use Rattle.std.specs.declared.vec.Vec.{Vec}
use Rattle.cyclo24.specs.FieldOn.{FieldOn}
use Rattle.cyclo24.specs.Numerals.{of_whole}
use Rattle.cyclo24.specs.Sums.{total}
use Rattle.lin_alg.specs.Matrices.{apply}
use Rattle.lin_alg.specs.Rows.{vector}
use Rattle.lin_alg.specs.Spans.{IsInSpan, AreSame}
use Rattle.lin_alg.specs.Solving.{plain_rows}
use Rattle.lin_alg.specs.Echelon.{EchelonView, IsEchelon, IsSpanned}
use Rattle.mode_project.specs.AtomSpace.{AtomSpace, size_of, matrix_of}
use Rattle.mode_project.specs.Projection.{cut}

pub record IsPut {K : Type 0} (old : ℕ → K) (at n : ℕ) (target new : ℕ → K) : Type 0 where
  pub here : (a : ℕ) → a < n → new (at + a) ≡ target a
  pub before : (k : ℕ) → k < at → new k ≡ old k
  pub behind : (k : ℕ) → at + n ≤ k → new k ≡ old k

abbrev pub rows_in : {A Z : Type 0} → List (Vec A Z) → List (List A)
rows_in {A} {Z} vs = map {A = Vec A Z} {B = List A} (λ v. v.items) vs

abbrev pub row_in : {A K : Type 0} → FieldOn K → (A → K) → List (List A) → ℕ → ℕ → K
row_in f value rows b = vector f value (slice_index_or rows b [])

pub record AreVectors {A K : Type 0} (f : FieldOn K) (value : A → K) (d : ℕ) (target : ℕ → ℕ → K) (rows : List (List A)) (k : ℕ) : Type 0 where
  pub count : length rows ≡ k
  pub long : (b : ℕ) → b < k → length (slice_index_or rows b []) ≡ d
  pub exact : (b : ℕ) → b < k → row_in f value rows b ≡ target b

abbrev pub image_row : {K : Type 0} → FieldOn K → AtomSpace → ℕ → (ℕ → K) → ℕ → K
image_row f s q c = cut f (size_of s) (apply f (size_of s) (matrix_of f s q) c)

abbrev pub more : {K : Type 0} → FieldOn K → (ℕ → K) → K → (ℕ → K) → ℕ → K
more f v x u i = f.plus (v i) (f.times x (u i))

abbrev pub turned_row : {K : Type 0} → FieldOn K → AtomSpace → ℕ → ℕ → (ℕ → ℕ → K) → ℕ → K
turned_row f s p a c = cut f (size_of s) (λ r. total f s.each (λ b. f.times (of_whole f (s.turn p b a)) (c b r)))

abbrev pub spread : {K : Type 0} → FieldOn K → AtomSpace → List (ℕ × ℕ) → (ℕ → ℕ → K) → ℕ → ℕ → K
spread f s ways c k =
    let way = slice_index_or ways (k / s.each) (0, 0) in
    turned_row f s way.1 (k % s.each) (λ b. image_row f s way.0 (c b))

-- the whole form of the span of the first k rows, of d entries
pub record HoldsSpan {A K : Type 0} (f : FieldOn K) (value : A → K) (d : ℕ) (a : ℕ → ℕ → K) (k : ℕ) (form : EchelonView A) : Type 0 where
  pub width : form.width ≡ d
  pub whole : form.whole ≡ true
  pub shape : IsEchelon f value form
  pub span : AreSame (IsSpanned f value form) (IsInSpan f (plain_rows a k))
