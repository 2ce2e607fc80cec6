-- Computations that write numbers on the way, and are refused where one of these is wide.
--
-- is_wide z: an absolute value of 2^126 or more
-- Checked A: a value, and the numbers that are written on the way to it
-- answer m: the value, or Wide where a written number is wide
-- then m f: f after m; give a: the value a, for which nothing is written
-- times, plus: one number is written
-- term p: a product, and then the product with its factor
-- product_of f x y: the product x y with the factor f
-- sum_of ps: a sum of products from left to right
use Rattle.std.specs.Prelude.{◌^◌, Bool, false, cond, nat_le, Result, Ok, Err, ℤ, pos, ◌+ℤ◌, ◌*ℤ◌, List, [], ◌∷◌, ◌++◌, ◌||◌}
use Rattle.std.specs.Int.RustNames.{unsigned_abs}
use Rattle.cyclo24.specs.declared.field.Wide.{Wide}
use Rattle.cyclo24.specs.declared.whole.Whole.{Whole}
use Rattle.cyclo24.specs.declared.whole.Product.{Product}

-- an absolute value of 2^126 or more
unfoldable pub is_wide : ℤ → Bool
is_wide z = nat_le (2 ^ 126) (unsigned_abs z)

-- one of them is wide
abbrev pub any_wide : List ℤ → Bool
any_wide [] = false
any_wide (z ∷ zs) = is_wide z || any_wide zs

-- a value, and the numbers that are written on the way
pub record Checked (A : Type 0) : Type 0 where
  pub written : List ℤ
  pub value : A

-- the value, or Wide where a written number is
unfoldable pub answer : {A : Type 0} → Checked A → Result A Wide
answer m = cond (any_wide m.written) (Err (record {})) (Ok m.value)

-- f after m
unfoldable pub then : {A B : Type 0} → Checked A → (A → Checked B) → Checked B
then m f = let k = f m.value in record { written = m.written ++ k.written; value = k.value }

-- a value for which nothing is written
abbrev pub give : {A : Type 0} → A → Checked A
give a = record { written = []; value = a }

-- a number that is written
abbrev pub written : ℤ → Checked Whole
written z = record { written = z ∷ []; value = record { n = z } }

abbrev pub times : Whole → Whole → Checked Whole
times x y = written (x.n *ℤ y.n)

abbrev pub plus : Whole → Whole → Checked Whole
plus x y = written (x.n +ℤ y.n)

-- the product x y with the factor f
abbrev pub product_of : ℤ → Whole → Whole → Product
product_of f x y = record { factor = record { n = f }; x = x; y = y }

-- a product, and then the product with its factor
unfoldable pub term : Product → Checked Whole
term p = then (times p.x p.y) (λ xy. times p.factor xy)

-- s and the products, from left to right
unfoldable pub sum_from : Whole → List Product → Checked Whole
sum_from s [] = give s
sum_from s (p ∷ ps) = then (term p) (λ x. then (plus s x) (λ r. sum_from r ps))

-- the sum of the products, from left to right
abbrev pub sum_of : List Product → Checked Whole
sum_of ps = sum_from (record { n = pos 0 }) ps
