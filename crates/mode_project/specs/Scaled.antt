-- Weights whose projection is idempotent but for a factor, and the rank that its trace tells.
--
-- conjugate_of g p q: p q p^-1
-- IsScaledAt f g w x q: at q, the convolution of the weights with themselves is x times the weight
-- IsScale f g w x: it is so at each element, and x isn't 0
-- IsRank f d a r: each reduced form of the range of a has r rows
-- image_at f s c k: image number k of the vectors c 0, c 1, .. of the first atom: first those under element 0
-- IsInImages f s c v: v is a sum of multiples of the images
-- IsInside f value d V form: the whole form of some vectors of V
use Rattle.std.specs.Prelude.{◌≡◌, ℕ, ◌<◌, ◌*◌, ◌/◌, ◌%◌, false, true, List, length}
use Rattle.algebra.specs.NumberedGroup.{Group}
use Rattle.cyclo24.specs.FieldOn.{FieldOn}
use Rattle.lin_alg.specs.Echelon.{EchelonView, IsEchelon, IsSpanned}
use Rattle.lin_alg.specs.Matrices.{convolution}
use Rattle.lin_alg.specs.Solving.{plain_rows}
use Rattle.lin_alg.specs.Spans.{IsInSpan}
use Rattle.mode_project.specs.AtomSpace.{AtomSpace}
use Rattle.mode_project.specs.Parts.{image_row}
use Rattle.mode_project.specs.Projection.{IsInRange, IsReducedFormOf}

abbrev pub conjugate_of : Group → ℕ → ℕ → ℕ
conjugate_of g p q = g.product (g.product p q) (g.inverse p)

abbrev pub IsScaledAt : {K : Type 0} → FieldOn K → Group → (ℕ → K) → K → ℕ → Type 0
IsScaledAt f g w x q = convolution f g w w q ≡ f.times x (w q)

pub record IsScale {K : Type 0} (f : FieldOn K) (g : Group) (w : ℕ → K) (x : K) : Type 0 where
  pub some : f.is_nought x ≡ false
  pub square : (q : ℕ) → q < g.order → IsScaledAt f g w x q

abbrev pub IsRank : {K : Type 0} → FieldOn K → ℕ → (ℕ → ℕ → K) → ℕ → Type 0
IsRank {K} f d a r = (rs : List (ℕ × (ℕ → K))) → IsReducedFormOf f d (IsInRange f d a) rs → length rs ≡ r

abbrev pub image_at : {K : Type 0} → FieldOn K → AtomSpace → (ℕ → ℕ → K) → ℕ → ℕ → K
image_at f s c k = image_row f s (k / s.each) (c (k % s.each))

abbrev pub IsInImages : {K : Type 0} → FieldOn K → AtomSpace → (ℕ → ℕ → K) → (ℕ → K) → Type 0
IsInImages f s c v = IsInSpan f (plain_rows (image_at f s c) (s.group.order * s.each)) v

pub record IsInside {A K : Type 0} (f : FieldOn K) (value : A → K) (d : ℕ) (V : (ℕ → K) → Type 0) (form : EchelonView A) : Type 0 where
  pub width : form.width ≡ d
  pub whole : form.whole ≡ true
  pub shape : IsEchelon f value form
  pub inside : (v : ℕ → K) → IsSpanned f value form v → V v
