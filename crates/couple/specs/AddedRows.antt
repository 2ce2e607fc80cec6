-- What the parts of the code of averages hold.
--
-- IsRowAdded f m a x y l old new: the first l of m entries of row a have grown by x times those of y, all else is as it was
-- AreZeroBelow f n m X: the first n rows are zero in m columns
-- IsElementAdded f p q i j n old new: the first n rows have grown by those of L(q) e R(q^-1), the others are as they were
-- IsPartOf f p i j q X: X is the sum, over the elements below q, of L e R with a 1 at (i, j)
-- ReachesFirst f p k i: some element moves basis vector i into the span of the first k
use Rattle.std.specs.Prelude.{◌≡◌, ℕ, ◌<◌, ◌≤◌}
use Rattle.cyclo24.specs.FieldOn.{FieldOn}
use Rattle.cyclo24.specs.Sums.{total}
use Rattle.couple.specs.Links.{Pair}

-- x y is added to the first l entries of row a
pub record IsRowAdded {K : Type 0} (f : FieldOn K) (a : ℕ) (x : K) (y : ℕ → K) (l : ℕ) (old new : ℕ → ℕ → K) : Type 0 where
  pub done : (c : ℕ) → c < l → new a c ≡ f.plus (old a c) (f.times x (y c))
  pub ahead : (c : ℕ) → l ≤ c → new a c ≡ old a c
  pub others : (k c : ℕ) → (k ≡ a → ⊥) → new k c ≡ old k c

-- entry (a, b) of L(q) e R(q^-1), where e has a 1 at (i, j) alone
abbrev pub term : {K : Type 0} → FieldOn K → Pair K → ℕ → ℕ → ℕ → ℕ → ℕ → K
term f p i j q a b = f.times (p.left q a i) (p.right (p.group.inverse q) j b)

-- the first n rows have grown by L(q) e R(q^-1)
pub record IsElementAdded {K : Type 0} (f : FieldOn K) (p : Pair K) (q i j n : ℕ) (old new : ℕ → ℕ → K) : Type 0 where
  pub done : (a b : ℕ) → a < n → b < p.cols → new a b ≡ f.plus (old a b) (term f p i j q a b)
  pub ahead : (a b : ℕ) → n ≤ a → b < p.cols → new a b ≡ old a b

-- the sum of L(s) e R(s^-1) over the elements s below q
abbrev pub IsPartOf : {K : Type 0} → FieldOn K → Pair K → ℕ → ℕ → ℕ → (ℕ → ℕ → K) → Type 0
IsPartOf f p i j q X = (a b : ℕ) → a < p.rows → b < p.cols → X a b ≡ total f q (λ s. term f p i j s a b)

-- for some element, column i of its left matrix is 0 from row k on
abbrev pub ReachesFirst : {K : Type 0} → FieldOn K → Pair K → ℕ → ℕ → Type 0
ReachesFirst f p k i = (q : ℕ) × (q < p.group.order) × ((a : ℕ) → k ≤ a → a < p.rows → p.left q a i ≡ f.nought)
