-- The group of two elements on a line, where element 1 is -1 or 1: an example of an action.
--
-- sign_group: the group of two elements
-- sign_value f minus q: the number by which q acts
-- sign_action f minus: the action
use Rattle.std.specs.Prelude.{ℕ, zero, suc, Bool, true, false}
use Rattle.algebra.specs.NumberedGroup.{Group}
use Rattle.cyclo24.specs.ExactField.{ExactField, Value}
use Rattle.lin_alg.specs.Action.{Action}

-- 1 1 = 0
abbrev pub sign_product : ℕ → ℕ → ℕ
sign_product zero b = b
sign_product (suc a) zero = suc a
sign_product (suc a) (suc b) = 0

abbrev pub sign_group : Group
sign_group = record { order = 2; product = sign_product; inverse = λ a. a }

-- element 0 is 1, element 1 is -1 or 1
abbrev pub sign_value : (f : ExactField) → Bool → ℕ → Value f
sign_value f minus zero = f.laws.unit
sign_value f true (suc q) = f.laws.neg f.laws.unit
sign_value f false (suc q) = f.laws.unit

-- a line, and element 1 generates
abbrev pub sign_action : (f : ExactField) → Bool → Action
sign_action f minus = record {
  group = sign_group;
  generators = 1;
  generator = λ i. 1;
  dim = 1;
  entry = λ q i j. (sign_value f minus q).0;
}
