-- Directions with the two numbers by which they are ordered before their equations.
--
-- keys_of order dim moved: the numbers, of a direction of this dimension that so many elements move
-- ranked_cmp R a b: by the first number, the second, and the entries of the equations
use Rattle.std.specs.Prelude.{ℕ, List}
use Rattle.std.specs.declared.cmp.Ordering.{Ordering}
use Rattle.std.specs.Ordering.{on, then_cmp, nat_cmp}
use Rattle.lin_alg.specs.Compared.{lines_cmp}
use Rattle.class_list.specs.declared.order.Order.{Order}
use Rattle.class_list.specs.declared.order.Order.TheVariants.{Dimension, Index}

-- the two numbers, both rising: the dimension, and how many elements are outside the stabiliser
abbrev pub keys_of : Order → ℕ → ℕ → ℕ × ℕ
keys_of Dimension dim moved = (dim, moved)
keys_of Index dim moved = (moved, dim)

-- by the first number, the second, and the entries of the equations
abbrev pub ranked_cmp : {X A : Type 0} → (X → ℕ) → (X → ℕ) → (X → List (ℕ × List A)) → (A → A → Ordering) → X → X → Ordering
ranked_cmp first second rows R = then_cmp (on first nat_cmp) (then_cmp (on second nat_cmp) (on rows (lines_cmp R)))
