-- Representations whose entries are the lists of exact values.
--
-- lift-list: the list of an exact value lifts to it
-- listed p: the lists of the entries; lifted f p: the exact values that the lists are
-- lifted-listed: the second undoes the first
use Rattle.std.proofs.Common.{◌≡◌, ℤ, List, Bool, true, false, refl, sym, ◌∙◌}
use mathlib.Core.Bool.{Bool-set}
use Rattle.cyclo24.specs.FieldOn.{FieldOn}
use Rattle.cyclo24.specs.ExactField.{Exact, ExactField, Value}
use Rattle.lin_alg.specs.Action.{lift, lift_by}
use Rattle.couple.specs.Links.{Pair}

-- the lists of the entries
abbrev pub listed : {valid : List ℤ → Bool} → Pair (Exact valid) → Pair (List ℤ)
listed p = record { group = p.group; rows = p.rows; cols = p.cols; left = λ q a b. (p.left q a b).0; right = λ q a b. (p.right q a b).0 }

-- the exact values that the lists are, and 0 where one is none
abbrev pub lifted : {valid : List ℤ → Bool} → FieldOn (Exact valid) → Pair (List ℤ) → Pair (Exact valid)
lifted f p = record { group = p.group; rows = p.rows; cols = p.cols; left = λ q a b. lift f (p.left q a b); right = λ q a b. lift f (p.right q a b) }

-- the list of an exact value lifts to it
pub lift-list : (f : ExactField) (x : Value f) → lift f.laws x.0 ≡ x
lift-list f x = go (f.valid x.0) refl where
  go : (b : Bool) (e : f.valid x.0 ≡ b) → lift_by f.laws x.0 b e ≡ x
  go true e = λ i. (x.0, Bool-set (f.valid x.0) true e x.1 i)
  go false e = let t : true ≡ false = sym x.1 ∙ e in cc

pub lifted-listed : (f : ExactField) (p : Pair (Value f)) → lifted f.laws (listed p) ≡ p
lifted-listed f p = λ t. record { group = p.group; rows = p.rows; cols = p.cols; left = λ q a b. lift-list f (p.left q a b) t; right = λ q a b. lift-list f (p.right q a b) t }
