-- Finite groups whose elements are the numbers below an order, with 0 for the identity.
--
-- Group: order, product and inverse
-- IsGroup g: its laws; the right-hand laws follow from these
-- word product generator is: the element of a word over numbered generators
-- AllBelow n is: each number of the list is below n
-- HasWord g n generator a: a is the element of a word over the generators
-- IsGenerated g n generator: each element is a word over the generators
-- HasRightLaws g: the right-hand laws
-- HoldsOfGenerated g n generator: what holds of 0 and is kept by the generators holds of each element
use Rattle.std.specs.Prelude.{◌≡◌, ℕ, ◌<◌, Bool, true, List, [], ◌∷◌}

pub record Group : Type 0 where
  pub order : ℕ
  pub product : ℕ → ℕ → ℕ
  pub inverse : ℕ → ℕ

pub record IsGroup (g : Group) : Type 0 where
  pub product_below : (a b : ℕ) → a < g.order → b < g.order → g.product a b < g.order
  pub inverse_below : (a : ℕ) → a < g.order → g.inverse a < g.order
  pub identity_below : 0 < g.order
  pub identity-product : (a : ℕ) → a < g.order → g.product 0 a ≡ a
  pub inverse-product : (a : ℕ) → a < g.order → g.product (g.inverse a) a ≡ 0
  pub product_assoc : (a b c : ℕ) → a < g.order → b < g.order → c < g.order → g.product (g.product a b) c ≡ g.product a (g.product b c)

-- the element of a word over the generators
abbrev pub word : (ℕ → ℕ → ℕ) → (ℕ → ℕ) → List ℕ → ℕ
word product generator [] = 0
word product generator (i ∷ is) = product (generator i) (word product generator is)

-- each number of the list is below n
abbrev pub AllBelow : ℕ → List ℕ → Type 0
AllBelow n [] = Unit {0}
AllBelow n (i ∷ is) = (i < n) × AllBelow n is

-- a is the element of a word over the n generators
abbrev pub HasWord : Group → ℕ → (ℕ → ℕ) → ℕ → Type 0
HasWord g n generator a = (is : List ℕ) × AllBelow n is × (a ≡ word g.product generator is)

-- each element is a word over the n generators; which one is left open, so that this has one proof
abbrev pub IsGenerated : Group → ℕ → (ℕ → ℕ) → Type 0
IsGenerated g n generator = (a : ℕ) → a < g.order → ∥ HasWord g n generator a ∥₁

-- inverses and the identity from the right, and factors that cancel from the left
pub record HasRightLaws (g : Group) : Type 0 where
  pub product-inverse : (a : ℕ) → a < g.order → g.product a (g.inverse a) ≡ 0
  pub product-identity : (a : ℕ) → a < g.order → g.product a 0 ≡ a
  pub cancel : (a b c : ℕ) → a < g.order → b < g.order → c < g.order → g.product a b ≡ g.product a c → b ≡ c

-- a test that holds of 0 and is kept by products with generators on the left holds of each element
abbrev pub HoldsOfGenerated : Group → ℕ → (ℕ → ℕ) → Type 0
HoldsOfGenerated g n generator =
    (test : ℕ → Bool) → test 0 ≡ true → ((i a : ℕ) → i < n → a < g.order → test a ≡ true → test (g.product (generator i) a) ≡ true) → (a : ℕ) → a < g.order → test a ≡ true
