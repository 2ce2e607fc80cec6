-- Finite groups by tables, that act by matrices of small whole numbers.
--
-- Tables: a product table, inverses, generators, and matrices
-- group_of t, action_of f t: the group, and the action over a field
-- all_below n test: the test holds of each number below n
-- AreLawful t words: the laws hold, as tests that compute; a word of each element starts with the generator that words names
use Rattle.std.specs.Prelude.{◌≡◌, ℕ, suc, zero, ◌+◌, ◌*◌, ℤ, pos, ◌+ℤ◌, ◌*ℤ◌, Bool, true, ◌&&◌, ◌||◌, List, length, get_or, ltb, nat_eq, if◌then◌else◌}
use Rattle.std.specs.Ordering.{int_eq}
use Rattle.algebra.specs.NumberedGroup.{Group}
use Rattle.cyclo24.specs.ExactField.{ExactField}
use Rattle.cyclo24.specs.Numerals.{of_whole}
use Rattle.lin_alg.specs.Action.{Action}

-- the product of a and b stands at a order + b, entry (i, j) of the matrix of q at (q dim + i) dim + j
pub record Tables : Type 0 where
  pub order : ℕ
  pub dim : ℕ
  pub product : List ℕ
  pub inverse : List ℕ
  pub generators : List ℕ
  pub entries : List ℤ

abbrev pub group_of : Tables → Group
group_of t = record { order = t.order; product = λ a b. get_or t.product (a * t.order + b) 0; inverse = λ a. get_or t.inverse a 0 }

abbrev pub generator_of : Tables → ℕ → ℕ
generator_of t i = get_or t.generators i 0

abbrev pub entry_at : Tables → ℕ → ℕ → ℕ → ℤ
entry_at t q i j = get_or t.entries ((q * t.dim + i) * t.dim + j) (pos 0)

abbrev pub action_of : ExactField → Tables → Action
action_of f t = record {
  group = group_of t;
  generators = length t.generators;
  generator = generator_of t;
  dim = t.dim;
  entry = λ q i j. (of_whole f.laws (entry_at t q i j)).0;
}

-- the test holds of each number below n
abbrev pub all_below : ℕ → (ℕ → Bool) → Bool
all_below zero test = true
all_below (suc n) test = test n && all_below n test

-- a sum of whole numbers from left to right
abbrev pub whole_sum : ℕ → (ℕ → ℤ) → ℤ
whole_sum zero g = pos 0
whole_sum (suc n) g = whole_sum n g +ℤ g n

-- a is a generator after an element of a smaller number
abbrev pub has_step : Tables → (ℕ → ℕ × ℕ) → ℕ → Bool
has_step t words a =
    nat_eq a 0 || (ltb (words a).0 (length t.generators) && (ltb (words a).1 a && nat_eq (get_or t.product (generator_of t (words a).0 * t.order + (words a).1) 0) a))

-- the laws of a group that acts, each as a test; those of products for a generator as the first factor
pub record AreLawful (t : Tables) (words : ℕ → ℕ × ℕ) : Type 0 where
  pub some : ltb 0 t.order ≡ true
  pub products : all_below t.order (λ a. all_below t.order (λ b. ltb ((group_of t).product a b) t.order)) ≡ true
  pub inverses : all_below t.order (λ a. ltb ((group_of t).inverse a) t.order) ≡ true
  pub identity : all_below t.order (λ a. nat_eq ((group_of t).product 0 a) a) ≡ true
  pub back : all_below t.order (λ a. nat_eq ((group_of t).product ((group_of t).inverse a) a) 0) ≡ true
  pub associates : all_below (length t.generators) (λ i. all_below t.order (λ b. all_below t.order (λ c.
      nat_eq ((group_of t).product ((group_of t).product (generator_of t i) b) c) ((group_of t).product (generator_of t i) ((group_of t).product b c))))) ≡ true
  pub generators : all_below (length t.generators) (λ i. ltb (generator_of t i) t.order) ≡ true
  pub steps : all_below t.order (has_step t words) ≡ true
  pub unit : all_below t.dim (λ i. all_below t.dim (λ j. int_eq (entry_at t 0 i j) (if nat_eq i j then pos 1 else pos 0))) ≡ true
  pub multiplies : all_below (length t.generators) (λ g. all_below t.order (λ b. all_below t.dim (λ i. all_below t.dim (λ j.
      int_eq (entry_at t ((group_of t).product (generator_of t g) b) i j) (whole_sum t.dim (λ k. entry_at t (generator_of t g) i k *ℤ entry_at t b k j)))))) ≡ true
