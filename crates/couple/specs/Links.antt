-- Links between two representations of one group by matrices.
--
-- Pair: a group, and two representations of it
-- IsPair f p: the laws of the group and of both
-- Intertwines f p X: L(q) X = X R(q) for each q, with the left matrices L and the right ones R
-- IsZero p X: each entry is 0; HasOnlyZero f p: zero is the only intertwiner
-- average f p i j: the sum, over all q, of L(q) e R(q^-1), where e has a 1 at (i, j) alone
-- IsLink f p X: X is the first average, by (i, j), that isn't zero
-- HasRank f n w X r: the span of the first n rows, of w entries, has dimension r
-- AreInverse f n X Y: X Y = Y X = 1
-- AreEquivalent f p: some intertwiner has an inverse
use Rattle.std.specs.Prelude.{◌≡◌, ℕ, ◌<◌, List, ◌⊎◌, length}
use Rattle.algebra.specs.NumberedGroup.{Group, IsGroup}
use Rattle.cyclo24.specs.FieldOn.{FieldOn}
use Rattle.cyclo24.specs.Sums.{total}
use Rattle.lin_alg.specs.Matrices.{mul, unit_entry, AreEqualBelow, IsRepresentation}
use Rattle.lin_alg.specs.Matrix.{with_entry}
use Rattle.lin_alg.specs.Reduced.{IsForm, IsWithin}
use Rattle.lin_alg.specs.Solving.{plain_rows}
use Rattle.lin_alg.specs.Spans.{row_vectors, IsInSpan, AreSame}

-- two representations of a group: by rows times rows left matrices, and cols times cols right ones
pub record Pair (K : Type 0) : Type 0 where
  pub group : Group
  pub rows : ℕ
  pub cols : ℕ
  pub left : ℕ → ℕ → ℕ → K
  pub right : ℕ → ℕ → ℕ → K

pub record IsPair {K : Type 0} (f : FieldOn K) (p : Pair K) : Type 0 where
  pub group : IsGroup p.group
  pub left : IsRepresentation f p.group p.rows p.left
  pub left_identity : AreEqualBelow p.rows (p.left 0) (unit_entry f)
  pub right : IsRepresentation f p.group p.cols p.right
  pub right_identity : AreEqualBelow p.cols (p.right 0) (unit_entry f)

-- L(q) X = X R(q) for each q
abbrev pub Intertwines : {K : Type 0} → FieldOn K → Pair K → (ℕ → ℕ → K) → Type 0
Intertwines f p X = (q a b : ℕ) → q < p.group.order → a < p.rows → b < p.cols → mul f p.rows (p.left q) X a b ≡ mul f p.cols X (p.right q) a b

abbrev pub IsZero : {K : Type 0} → FieldOn K → Pair K → (ℕ → ℕ → K) → Type 0
IsZero f p X = (a b : ℕ) → a < p.rows → b < p.cols → X a b ≡ f.nought

-- zero is the only intertwiner
abbrev pub HasOnlyZero : {K : Type 0} → FieldOn K → Pair K → Type 0
HasOnlyZero {K} f p = (X : ℕ → ℕ → K) → Intertwines f p X → IsZero f p X

-- 1 at (i, j), and 0 elsewhere
abbrev pub single : {K : Type 0} → FieldOn K → ℕ → ℕ → ℕ → ℕ → K
single f i j = with_entry i j f.unit (λ _ _. f.nought)

-- the sum of L(q) e R(q^-1) over all q
abbrev pub average : {K : Type 0} → FieldOn K → Pair K → ℕ → ℕ → ℕ → ℕ → K
average f p i j = λ a b. total f p.group.order (λ q. mul f p.cols (mul f p.rows (p.left q) (single f i j)) (p.right (p.group.inverse q)) a b)

-- each average before that of (i, j) is zero
abbrev pub AreZeroBefore : {K : Type 0} → FieldOn K → Pair K → ℕ → ℕ → Type 0
AreZeroBefore f p i j = (k l : ℕ) → k < p.rows → l < p.cols → (k < i) ⊎ ((k ≡ i) × (l < j)) → IsZero f p (average f p k l)

-- the first average that isn't zero, its rows 0 past their last entry
pub record IsLink {K : Type 0} (f : FieldOn K) (p : Pair K) (X : ℕ → ℕ → K) : Type 0 where
  pub i : ℕ
  pub is_row : i < p.rows
  pub j : ℕ
  pub is_column : j < p.cols
  pub before : AreZeroBefore f p i j
  pub average : (a b : ℕ) → a < p.rows → b < p.cols → X a b ≡ average f p i j a b
  pub within : (a : ℕ) → a < p.rows → IsWithin f p.cols (X a)
  pub nonzero : IsZero f p X → ⊥

-- the span of the first n rows of w entries has dimension r: its reduced form has r rows
abbrev pub HasRank : {K : Type 0} → FieldOn K → ℕ → ℕ → (ℕ → ℕ → K) → ℕ → Type 0
HasRank {K} f n w X r = (rs : List (ℕ × (ℕ → K))) × IsForm f w rs × AreSame (IsInSpan f (row_vectors rs)) (IsInSpan f (plain_rows X n)) × (length rs ≡ r)

-- X Y = Y X = 1
abbrev pub AreInverse : {K : Type 0} → FieldOn K → ℕ → (ℕ → ℕ → K) → (ℕ → ℕ → K) → Type 0
AreInverse f n X Y = AreEqualBelow n (mul f n X Y) (unit_entry f) × AreEqualBelow n (mul f n Y X) (unit_entry f)

-- L(q) X = X R(q) for an X that has an inverse
abbrev pub AreEquivalent : {K : Type 0} → FieldOn K → Pair K → Type 0
AreEquivalent {K} f p = (p.rows ≡ p.cols) × ((X : ℕ → ℕ → K) × Intertwines f p X × ((Y : ℕ → ℕ → K) × AreInverse f p.rows X Y))
