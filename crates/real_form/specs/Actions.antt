-- Matrices kept as those of translations and of listed operations, one below the other.
--
-- stacked f value m d q: matrix q of d rows in m
-- factored_entry f value d t left right q: the entries of A(q mod t) A(q / t)
-- action_by f g n generator d A: the action of a group by exact matrices; action-lawful: its laws
use Rattle.std.proofs.Common.{◌≡◌, ℕ, ◌+◌, ◌*◌, ◌/◌, ◌%◌, ◌<◌, Bool, true, false, refl, sym, ◌∙◌}
use mathlib.Core.Bool.{Bool-set}
use Rattle.algebra.specs.NumberedGroup.{Group, IsGroup, IsGenerated}
use Rattle.cyclo24.specs.FieldOn.{FieldOn}
use Rattle.cyclo24.specs.ExactField.{ExactField, Value}
use Rattle.cyclo24.specs.TotalLaws.{total-same}
use Rattle.lin_alg.specs.Matrix.{MatrixView, entry}
use Rattle.lin_alg.specs.Matrices.{mul, unit_entry, AreEqualBelow, IsRepresentation}
use Rattle.lin_alg.specs.Action.{Action, IsAction, lift, lift_by}

-- matrix q
abbrev pub stacked : {A K : Type 0} → FieldOn K → (A → K) → MatrixView A → ℕ → ℕ → ℕ → ℕ → K
stacked f value m d q i j = entry f value m (q * d + i) j

-- A(q mod t) A(q / t)
unfoldable pub factored_entry : {A K : Type 0} → FieldOn K → (A → K) → ℕ → ℕ → MatrixView A → MatrixView A → ℕ → ℕ → ℕ → K
factored_entry f value d t left right q = mul f d (stacked f value left d (q % t)) (stacked f value right d (q / t))

-- a group that acts by exact matrices
abbrev pub action_by : (f : ExactField) → Group → ℕ → (ℕ → ℕ) → ℕ → (ℕ → ℕ → ℕ → Value f) → Action
action_by f g n generator d A = record { group = g; generators = n; generator = generator; dim = d; entry = λ q i j. (A q i j).0 }

module _ (f : ExactField) where
  -- an exact value's list lifts to it
  pub lift-list : (x : Value f) → lift f.laws x.0 ≡ x
  lift-list x = go (f.valid x.0) refl where
    go : (b : Bool) (e : f.valid x.0 ≡ b) → lift_by f.laws x.0 b e ≡ x
    go true e = λ i. (x.0, Bool-set (f.valid x.0) true e x.1 i)
    go false e = let t : true ≡ false = sym x.1 ∙ e in cc

  pub action-lawful : (g : Group) (n : ℕ) (generator : ℕ → ℕ) (d : ℕ) (A : ℕ → ℕ → ℕ → Value f) → IsGroup g → ((i : ℕ) → i < n → generator i < g.order) → IsGenerated g n generator →
      AreEqualBelow d (A 0) (unit_entry f.laws) → IsRepresentation f.laws g d A → IsAction f.laws (action_by f g n generator d A)
  action-lawful g n generator d A group below generated identity multiplies = record {
    group = group;
    generator_below = below;
    generated = generated;
    entry_valid = λ q i j _ _ _. (A q i j).1;
    identity = λ i j li lj. lift-list (A 0 i j) ∙ identity i j li lj;
    multiplies = λ a b la lb i j li lj.
        lift-list (A (g.product a b) i j) ∙ multiplies a b la lb i j li lj
        ∙ sym (total-same f.laws d _ _ (λ k l. (λ t. f.laws.times (lift-list (A a i k) t) (lift-list (A b k j) t))));
  }
