-- What tests that hold tell.
--
-- all-below: a test of all numbers below n holds of each
-- is_same, is_whole: equal numbers
-- step-of: an element is 0, or a generator after an element of a smaller number
use Rattle.std.proofs.Common.{◌≡◌, ℕ, suc, zero, ◌<◌, ◌⊎◌, inl, inr, ℤ, Bool, true, false, ◌&&◌, ◌||◌, length, ltb, nat_eq, refl, subst, sym, arith}
use Rattle.std.specs.Ordering.{int_eq}
use Rattle.std.proofs.lemmas.Bool.{ltb-true}
use Rattle.std.proofs.lemmas.Bool.Decides.{Decides-eqb, Decides-int_eq}
use Rattle.lattice_tests.specs.Tables.{Tables, AreLawful, all_below, generator_of, group_of, has_step}

both : (a b : Bool) → (a && b) ≡ true → (a ≡ true) × (b ≡ true)
both true b h = (refl, h)
both false b h = let t : false ≡ true = h in absurd cc

either : (a b : Bool) → (a || b) ≡ true → (a ≡ true) ⊎ (b ≡ true)
either true b h = inl refl
either false b h = inr h

last_or : (i n : ℕ) → i < suc n → (i ≡ n) ⊎ (i < n)
last_or i n l = grind arith

pub all-below : (n : ℕ) (test : ℕ → Bool) → all_below n test ≡ true → (i : ℕ) → i < n → test i ≡ true
all-below zero test h i l = absurd (omega arith)
all-below (suc n) test h i l =
    let b = both (test n) (all_below n test) h in
    elim (last_or i n l) [ inl e ↦ subst (λ (z : ℕ). test z ≡ true) (sym e) b.0 | inr k ↦ all-below n test b.1 i k ]

pub is_same : (a b : ℕ) → nat_eq a b ≡ true → a ≡ b
is_same a b h = (Decides-eqb a b).0 h

pub is_whole : (x y : ℤ) → int_eq x y ≡ true → x ≡ y
is_whole x y h = (Decides-int_eq x y).0 h

-- a generator after an element of a smaller number
abbrev pub IsStep : Tables → ℕ → ℕ → ℕ → Type 0
IsStep t x i y = (i < length t.generators) × ((y < x) × (x ≡ (group_of t).product (generator_of t i) y))

module _ (t : Tables) (words : ℕ → ℕ × ℕ) (a : AreLawful t words) where
  pub generator_small : (i : ℕ) → i < length t.generators → generator_of t i < t.order
  generator_small i l = ltb-true (generator_of t i) t.order (all-below (length t.generators) (λ i. ltb (generator_of t i) t.order) a.generators i l)

  pub step-of : (x : ℕ) → x < t.order → (x ≡ 0) ⊎ ((i y : ℕ) × IsStep t x i y)
  step-of x m =
      let w : ℕ × ℕ = words x in
      let p : ℕ = (group_of t).product (generator_of t w.0) w.1 in
      elim (either (nat_eq x 0) (ltb w.0 (length t.generators) && (ltb w.1 x && nat_eq p x)) (all-below t.order (has_step t words) a.steps x m)) [
        | inl e ↦ inl (is_same x 0 e)
        | inr h ↦
            let one = both (ltb w.0 (length t.generators)) (ltb w.1 x && nat_eq p x) h in
            let two = both (ltb w.1 x) (nat_eq p x) one.1 in
            inr (w.0, w.1, (ltb-true w.0 (length t.generators) one.0, (ltb-true w.1 x two.0, sym (is_same p x two.1))))
      ]

  -- what holds of 0, and of a generator after an element of which it holds, holds of each element
  pub by-steps : (P : ℕ → Type 0) → P 0 → ((i y : ℕ) → i < length t.generators → y < t.order → P y → P ((group_of t).product (generator_of t i) y)) → (x : ℕ) → x < t.order → P x
  by-steps P none more x l = upto (suc x) x (omega arith) l
    where
      upto : (k x : ℕ) → x < k → x < t.order → P x
      upto zero x l m = absurd (omega arith)
      upto (suc k) x l m =
          elim (step-of x m) [
            | inl e ↦ subst P (sym e) none
            | inr (i, y, s) ↦
                let below = s.1.0 in
                let yl : y < t.order = omega arith in
                let yk : y < k = omega arith in
                subst P (sym s.1.1) (more i y s.0 yl (upto k y yk yl))
          ]
