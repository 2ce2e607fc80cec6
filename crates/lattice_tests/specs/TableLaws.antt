-- What actions by tables obey.
--
-- lift-value: an exact value is that of its list
-- entry-value: the entries of the matrices are those of the table
-- mul-assoc: products of matrices associate
-- table_lawful: tables whose laws hold are an action
use Rattle.std.proofs.Common.{◌≡◌, ℕ, suc, zero, ◌<◌, ℤ, pos, Bool, true, false, length, ltb, nat_eq, refl, sym, ◌∙◌, ap, if◌then◌else◌}
use Rattle.std.proofs.Math.IntN.{◌*ℤ◌}
use Rattle.std.specs.Ordering.{int_eq}
use Rattle.std.specs.Cmp.{nat_eq_equiv}
use Rattle.std.proofs.lemmas.Bool.{ltb-true}
use mathlib.Core.Bool.{Bool-set}
use Rattle.algebra.specs.GeneratedLaws.{identity-word, generator-word, product-word, words-generate}
use Rattle.algebra.specs.NumberedGroup.{IsGroup, HasWord, IsGenerated}
use Rattle.cyclo24.specs.ExactField.{ExactField, Value}
use Rattle.cyclo24.specs.FieldOn.{FieldOn}
use Rattle.cyclo24.specs.Numerals.{of_whole}
use Rattle.cyclo24.specs.NumeralLaws.{of-plus, of-times}
use Rattle.cyclo24.specs.Sums.{total}
use Rattle.cyclo24.specs.TotalLaws.{times-total, total-same, total-swap, total-times}
use Rattle.lin_alg.specs.Action.{IsAction, entry_of, lift, lift_by}
use Rattle.lin_alg.specs.EquationLaws.{dot-unit}
use Rattle.lin_alg.specs.Matrices.{AreEqualBelow, mul, unit_entry, IsRepresentation}
use Rattle.lattice_tests.specs.Tables.{Tables, AreLawful, action_of, all_below, entry_at, generator_of, group_of, whole_sum}
use Rattle.lattice_tests.specs.TableTests.{all-below, is_same, is_whole, generator_small, by-steps}

module _ (f : ExactField) where
  lift_by-value : (x : Value f) (b : Bool) (e : f.valid x.0 ≡ b) → lift_by f.laws x.0 b e ≡ x
  lift_by-value x true e = λ i. (x.0, Bool-set (f.valid x.0) true e x.1 i)
  lift_by-value x false e = let t : true ≡ false = sym x.1 ∙ e in absurd cc

  -- an exact value is that of its list
  pub lift-value : (x : Value f) → lift f.laws x.0 ≡ x
  lift-value x = lift_by-value x (f.valid x.0) refl

  of-sum : (n : ℕ) (g : ℕ → ℤ) → of_whole f.laws (whole_sum n g) ≡ total f.laws n (λ k. of_whole f.laws (g k))
  of-sum zero g = refl
  of-sum (suc n) g = of-plus f.laws (whole_sum n g) (g n) ∙ ap (λ x. f.laws.plus x (of_whole f.laws (g n))) (of-sum n g)

  of-one : of_whole f.laws (pos 1) ≡ f.laws.unit
  of-one = f.laws.plus-nought f.laws.unit

  of-unit : (b : Bool) → of_whole f.laws (if b then pos 1 else pos 0) ≡ (if b then f.laws.unit else f.laws.nought)
  of-unit true = of-one
  of-unit false = refl

  of-products : (n : ℕ) (u v : ℕ → ℤ) (p q : ℕ → Value f) → ((k : ℕ) → p k ≡ of_whole f.laws (u k)) → ((k : ℕ) → q k ≡ of_whole f.laws (v k)) →
      total f.laws n (λ k. of_whole f.laws (u k *ℤ v k)) ≡ total f.laws n (λ k. f.laws.times (p k) (q k))
  of-products zero u v p q h k = refl
  of-products (suc n) u v p q h k =
      λ s. f.laws.plus (of-products n u v p q h k s) ((of-times f.laws (u n) (v n) ∙ (λ r. f.laws.times (sym (h n) r) (sym (k n) r))) s)

module _ {K : Type 0} (f : FieldOn K) (d : ℕ) where
  -- products of matrices associate
  pub mul-assoc : (a b c : ℕ → ℕ → K) (i j : ℕ) → mul f d (mul f d a b) c i j ≡ mul f d a (mul f d b c) i j
  mul-assoc a b c i j =
      let x : ℕ → ℕ → K = λ k l. f.times (f.times (a i k) (b k l)) (c l j) in
      total-same f d _ (λ l. total f d (λ k. x k l)) (λ l _. sym (times-total f d (c l j) (λ k. f.times (a i k) (b k l))))
      ∙ total-swap f d d (λ l k. x k l)
      ∙ total-same f d _ _ (λ k _. total-same f d _ _ (λ l _. f.times_assoc (a i k) (b k l) (c l j)) ∙ total-times f d (a i k) (λ l. f.times (b k l) (c l j)))

  -- a unit matrix times a matrix
  unit-mul : (u a : ℕ → ℕ → K) → AreEqualBelow d u (unit_entry f) → (i j : ℕ) → i < d → mul f d u a i j ≡ a i j
  unit-mul u a e i j l =
      total-same f d _ _ (λ k m. ap (λ x. f.times x (a k j)) (e i k l m) ∙ f.times_comm (unit_entry f i k) (a k j) ∙ ap (f.times (a k j)) (ap (λ b. if b then f.unit else f.nought) (nat_eq_equiv.symm i k)))
      ∙ dot-unit f d (λ k. a k j) i l

module _ (f : ExactField) (t : Tables) where
  -- the entries of the matrices are those of the table
  pub entry-value : (q i j : ℕ) → entry_of f.laws (action_of f t) q i j ≡ of_whole f.laws (entry_at t q i j)
  entry-value q i j = lift-value f (of_whole f.laws (entry_at t q i j))

module _ (t : Tables) (words : ℕ → ℕ × ℕ) (a : AreLawful t words) where
  below : (x y : ℕ) → x < t.order → y < t.order → (group_of t).product x y < t.order
  below x y l m = ltb-true ((group_of t).product x y) t.order (all-below t.order (λ y. ltb ((group_of t).product x y) t.order) (all-below t.order (λ x. all_below t.order (λ y. ltb ((group_of t).product x y) t.order)) a.products x l) y m)

  identity : (x : ℕ) → x < t.order → (group_of t).product 0 x ≡ x
  identity x l = is_same ((group_of t).product 0 x) x (all-below t.order (λ x. nat_eq ((group_of t).product 0 x) x) a.identity x l)

  -- products associate where the first factor is a generator
  generator-first : (i y z : ℕ) → i < length t.generators → y < t.order → z < t.order →
      (group_of t).product ((group_of t).product (generator_of t i) y) z ≡ (group_of t).product (generator_of t i) ((group_of t).product y z)
  generator-first i y z il yl zl =
      let test : ℕ → ℕ → ℕ → Bool = λ i y z. nat_eq ((group_of t).product ((group_of t).product (generator_of t i) y) z) ((group_of t).product (generator_of t i) ((group_of t).product y z)) in
      is_same ((group_of t).product ((group_of t).product (generator_of t i) y) z) ((group_of t).product (generator_of t i) ((group_of t).product y z))
      (all-below t.order (test i y) (all-below t.order (λ y. all_below t.order (test i y)) (all-below (length t.generators) (λ i. all_below t.order (λ y. all_below t.order (test i y))) a.associates i il) y yl) z zl)

  Associates : ℕ → Type 0
  Associates x = (y z : ℕ) → y < t.order → z < t.order → (group_of t).product ((group_of t).product x y) z ≡ (group_of t).product x ((group_of t).product y z)

  associates-more : (i w : ℕ) → i < length t.generators → w < t.order → Associates w → Associates ((group_of t).product (generator_of t i) w)
  unfolding Associates
  associates-more i w il wl h y z yl zl =
      ap (λ u. (group_of t).product u z) (generator-first i w y il wl yl) ∙ generator-first i ((group_of t).product w y) z il (below w y wl yl) zl
      ∙ ap ((group_of t).product (generator_of t i)) (h y z yl zl) ∙ sym (generator-first i w ((group_of t).product y z) il wl (below y z yl zl))

  associates : (x : ℕ) → x < t.order → Associates x
  unfolding Associates
  associates =
      by-steps t words a Associates
      (λ y z yl zl. ap (λ u. (group_of t).product u z) (identity y yl) ∙ sym (identity ((group_of t).product y z) (below y z yl zl)))
      associates-more

  group_lawful : IsGroup (group_of t)
  unfolding Associates
  group_lawful = record {
    product_below = below;
    inverse_below = λ x l. ltb-true ((group_of t).inverse x) t.order (all-below t.order (λ x. ltb ((group_of t).inverse x) t.order) a.inverses x l);
    identity_below = ltb-true 0 t.order a.some;
    identity-product = identity;
    inverse-product = λ x l. is_same ((group_of t).product ((group_of t).inverse x) x) 0 (all-below t.order (λ x. nat_eq ((group_of t).product ((group_of t).inverse x) x) 0) a.back x l);
    product_assoc = λ x y z l m n. associates x l y z m n;
  }

  -- each element has a word
  word-of : (x : ℕ) → x < t.order → HasWord (group_of t) (length t.generators) (generator_of t) x
  word-of =
      by-steps t words a (HasWord (group_of t) (length t.generators) (generator_of t))
      (identity-word (group_of t) group_lawful (length t.generators) (generator_of t) (generator_small t words a))
      (λ i y il yl h. product-word (group_of t) group_lawful (length t.generators) (generator_of t) (generator_small t words a) (generator_of t i) y
      (generator-word (group_of t) group_lawful (length t.generators) (generator_of t) (generator_small t words a) i il) h)

  generated : IsGenerated (group_of t) (length t.generators) (generator_of t)
  generated = words-generate (group_of t) group_lawful (length t.generators) (generator_of t) (generator_small t words a) word-of

  module _ (f : ExactField) where
    unit : AreEqualBelow t.dim (entry_of f.laws (action_of f t) 0) (unit_entry f.laws)
    unit i j l m =
        entry-value f t 0 i j
        ∙ ap (of_whole f.laws) (is_whole (entry_at t 0 i j) (if nat_eq i j then pos 1 else pos 0)
        (all-below t.dim (λ j. int_eq (entry_at t 0 i j) (if nat_eq i j then pos 1 else pos 0)) (all-below t.dim (λ i. all_below t.dim (λ j. int_eq (entry_at t 0 i j) (if nat_eq i j then pos 1 else pos 0))) a.unit i l) j m))
        ∙ of-unit f (nat_eq i j)

    -- the matrix of a generator times a matrix
    generator-multiplies : (g y : ℕ) → g < length t.generators → y < t.order →
        AreEqualBelow t.dim (entry_of f.laws (action_of f t) ((group_of t).product (generator_of t g) y)) (mul f.laws t.dim (entry_of f.laws (action_of f t) (generator_of t g)) (entry_of f.laws (action_of f t) y))
    generator-multiplies g y gl yl i j l m =
        let x : ℕ = generator_of t g in
        let z : ℕ = (group_of t).product x y in
        let test : ℕ → ℕ → ℕ → ℕ → Bool = λ g y i j. int_eq (entry_at t ((group_of t).product (generator_of t g) y) i j) (whole_sum t.dim (λ k. entry_at t (generator_of t g) i k *ℤ entry_at t y k j)) in
        let e : entry_at t z i j ≡ whole_sum t.dim (λ k. entry_at t x i k *ℤ entry_at t y k j) =
        is_whole (entry_at t z i j) (whole_sum t.dim (λ k. entry_at t x i k *ℤ entry_at t y k j))
        (all-below t.dim (λ j. test g y i j) (all-below t.dim (λ i. all_below t.dim (λ j. test g y i j))
        (all-below t.order (λ y. all_below t.dim (λ i. all_below t.dim (λ j. test g y i j))) (all-below (length t.generators) (λ g. all_below t.order (λ y. all_below t.dim (λ i. all_below t.dim (λ j. test g y i j)))) a.multiplies g gl) y yl) i l) j m) in
        entry-value f t z i j ∙ ap (of_whole f.laws) e ∙ of-sum f t.dim (λ k. entry_at t x i k *ℤ entry_at t y k j)
        ∙ of-products f t.dim (λ k. entry_at t x i k) (λ k. entry_at t y k j) (λ k. entry_of f.laws (action_of f t) x i k) (λ k. entry_of f.laws (action_of f t) y k j) (λ k. entry-value f t x i k) (λ k. entry-value f t y k j)

    Multiplies : ℕ → Type 0
    Multiplies x = (y : ℕ) → y < t.order → AreEqualBelow t.dim (entry_of f.laws (action_of f t) ((group_of t).product x y)) (mul f.laws t.dim (entry_of f.laws (action_of f t) x) (entry_of f.laws (action_of f t) y))

    none-multiplies : Multiplies 0
    unfolding Multiplies
    none-multiplies y yl i j l m =
        ap (λ (z : ℕ). entry_of f.laws (action_of f t) z i j) (identity y yl)
        ∙ sym (unit-mul f.laws t.dim (entry_of f.laws (action_of f t) 0) (entry_of f.laws (action_of f t) y) unit i j l)

    more-multiplies : (g w : ℕ) → g < length t.generators → w < t.order → Multiplies w → Multiplies ((group_of t).product (generator_of t g) w)
    unfolding Multiplies
    more-multiplies g w gl wl h y yl i j l m =
        let e : ℕ → ℕ → ℕ → Value f = entry_of f.laws (action_of f t) in
        let x : ℕ = generator_of t g in
        ap (λ (z : ℕ). entry_of f.laws (action_of f t) z i j) (generator-first g w y gl wl yl)
        ∙ generator-multiplies g ((group_of t).product w y) gl (below w y wl yl) i j l m
        ∙ total-same f.laws t.dim _ _ (λ k n. ap (f.laws.times (e x i k)) (h y yl k j n m))
        ∙ sym (mul-assoc f.laws t.dim (e x) (e w) (e y) i j)
        ∙ total-same f.laws t.dim _ _ (λ k n. ap (λ z. f.laws.times z (e y k j)) (sym (generator-multiplies g w gl wl i k l n)))

    multiplies : IsRepresentation f.laws (group_of t) t.dim (entry_of f.laws (action_of f t))
    unfolding Multiplies
    multiplies x y lx ly = by-steps t words a Multiplies none-multiplies more-multiplies x lx y ly

    -- tables whose laws hold are an action
    pub table_lawful : IsAction f.laws (action_of f t)
    table_lawful = record {
      group = group_lawful;
      generator_below = generator_small t words a;
      generated = generated;
      entry_valid = λ q i j l m n. (of_whole f.laws (entry_at t q i j)).1;
      identity = unit;
      multiplies = multiplies;
    }
