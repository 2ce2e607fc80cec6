-- Finite sums in a commutative monoid.
--
-- IsCommutativeMonoid nought plus: the laws of the sum and of its neutral element
-- total nought plus n g: the sum of g k for the k below n
-- where_is nought i j x: x where i is j, else nought
-- IsRenumbering n p r: p permutes the numbers below n, and r is its inverse
-- IsSumInAnyOrder nought plus: sums do not depend on the order of their terms
use Rattle.std.specs.Prelude.{◌≡◌, ℕ, suc, zero, ◌<◌, nat_eq, if◌then◌else◌}

-- a sum without an order, and its neutral element
pub record IsCommutativeMonoid {A : Type 0} (nought : A) (plus : A → A → A) : Type 0 where
  pub plus_comm : (x y : A) → plus x y ≡ plus y x
  pub plus_assoc : (x y z : A) → plus (plus x y) z ≡ plus x (plus y z)
  pub plus-nought : (x : A) → plus x nought ≡ x

-- p numbers the numbers below n anew, and r back
pub record IsRenumbering (n : ℕ) (p r : ℕ → ℕ) : Type 0 where
  pub below : (i : ℕ) → i < n → p i < n
  pub back-below : (i : ℕ) → i < n → r i < n
  pub back : (i : ℕ) → i < n → r (p i) ≡ i
  pub forth : (i : ℕ) → i < n → p (r i) ≡ i

-- the sum of g k for the k below n, from left to right
abbrev pub total : {A : Type 0} → A → (A → A → A) → ℕ → (ℕ → A) → A
total nought plus zero g = nought
total nought plus (suc n) g = plus (total nought plus n g) (g n)

-- x where i is j, else the neutral element
abbrev pub where_is : {A : Type 0} → A → ℕ → ℕ → A → A
where_is nought i j x = if nat_eq i j then x else nought

-- a sum is the same in any order of its terms
abbrev pub IsSumInAnyOrder : {A : Type 0} → A → (A → A → A) → Type 0
IsSumInAnyOrder {A} nought plus = (n : ℕ) (p r : ℕ → ℕ) → IsRenumbering n p r → (g : ℕ → A) → total nought plus n (λ i. g (p i)) ≡ total nought plus n g
