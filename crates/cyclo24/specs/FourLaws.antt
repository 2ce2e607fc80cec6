-- What numbers over r2, r3 and r6 obey.
--
-- same4: equal coefficients make equal numbers
-- solve4: equal expressions over three times four variables
-- four_ring: these numbers are a commutative ring
-- mul4_adj: a (adj4 a) is the norm
-- scaled: multiples, coefficient by coefficient
use Rattle.std.proofs.Common.{◌≡◌, ℕ, suc, refl, sym, [], ◌∷◌, true}
use Rattle.algebra.specs.Ring.{Ops, IsRing}
use Rattle.cyclo24.specs.Four.{Four, mul4, add4, neg4, num4, norm4, adj4, four_ops}
use Rattle.algebra.specs.Solve.{Exp, V, K, Mul, exps, same, value, at}
use Rattle.algebra.specs.SolveLaws.{solve}

abbrev pub vars : ℕ → Four Exp
vars i = record { c0 = V i; c1 = V (suc i); c2 = V (suc (suc i)); c3 = V (suc (suc (suc i))) }

-- four numbers are the same where each is
pub same4 : {A : Type 0} (a b : Four A) → a.c0 ≡ b.c0 → a.c1 ≡ b.c1 → a.c2 ≡ b.c2 → a.c3 ≡ b.c3 → a ≡ b
same4 a b p q r s = λ i. record { c0 = p i; c1 = q i; c2 = r i; c3 = s i }

abbrev pub three : {A : Type 0} → A → Four A → Four A → Four A → ℕ → A
three d a b c = at d (a.c0 ∷ a.c1 ∷ a.c2 ∷ a.c3 ∷ b.c0 ∷ b.c1 ∷ b.c2 ∷ b.c3 ∷ c.c0 ∷ c.c1 ∷ c.c2 ∷ c.c3 ∷ [])

abbrev pub values : {A : Type 0} → Ops A → (ℕ → A) → Four Exp → Four A
values o v e = record { c0 = value o v e.c0; c1 = value o v e.c1; c2 = value o v e.c2; c3 = value o v e.c3 }

module _ {A : Type 0} (o : Ops A) (r : IsRing o) where
  -- equal expressions over three times four variables
  pub solve4 : (a b c : Four A) (e f : Four Exp) → same e.c0 f.c0 ≡ true → same e.c1 f.c1 ≡ true → same e.c2 f.c2 ≡ true → same e.c3 f.c3 ≡ true →
      values o (three (o.num 0) a b c) e ≡ values o (three (o.num 0) a b c) f
  solve4 a b c e f p q s t = let v = three (o.num 0) a b c in
      same4 (values o v e) (values o v f) (solve o r v e.c0 f.c0 p) (solve o r v e.c1 f.c1 q) (solve o r v e.c2 f.c2 s) (solve o r v e.c3 f.c3 t)

  pub mul4_assoc : (a b c : Four A) → mul4 o (mul4 o a b) c ≡ mul4 o a (mul4 o b c)
  mul4_assoc a b c = solve4 a b c (mul4 exps (mul4 exps (vars 0) (vars 4)) (vars 8)) (mul4 exps (vars 0) (mul4 exps (vars 4) (vars 8))) refl refl refl refl

  pub mul4_comm : (a b : Four A) → mul4 o a b ≡ mul4 o b a
  mul4_comm a b = solve4 a b b (mul4 exps (vars 0) (vars 4)) (mul4 exps (vars 4) (vars 0)) refl refl refl refl

  pub mul4_add : (a b c : Four A) → mul4 o a (add4 o b c) ≡ add4 o (mul4 o a b) (mul4 o a c)
  mul4_add a b c = solve4 a b c (mul4 exps (vars 0) (add4 exps (vars 4) (vars 8))) (add4 exps (mul4 exps (vars 0) (vars 4)) (mul4 exps (vars 0) (vars 8))) refl refl refl refl

  -- the inverse times the norm
  pub mul4_adj : (a : Four A) → mul4 o a (adj4 o a) ≡ num4 o (norm4 o a)
  mul4_adj a = solve4 a a a (mul4 exps (vars 0) (adj4 exps (vars 0))) (num4 exps (norm4 exps (vars 0))) refl refl refl refl

  pub four_ring : IsRing (four_ops o)
  four_ring = record {
    add_assoc = λ a b c. solve4 a b c (add4 exps (add4 exps (vars 0) (vars 4)) (vars 8)) (add4 exps (vars 0) (add4 exps (vars 4) (vars 8))) refl refl refl refl;
    add_comm = λ a b. solve4 a b b (add4 exps (vars 0) (vars 4)) (add4 exps (vars 4) (vars 0)) refl refl refl refl;
    add_zero = λ a. solve4 a a a (add4 exps (num4 exps (K 0)) (vars 0)) (vars 0) refl refl refl refl;
    add_neg = λ a. solve4 a a a (add4 exps (vars 0) (neg4 exps (vars 0))) (num4 exps (K 0)) refl refl refl refl;
    mul_assoc = mul4_assoc;
    mul_comm = mul4_comm;
    mul_one = λ a. solve4 a a a (mul4 exps (num4 exps (K 1)) (vars 0)) (vars 0) refl refl refl refl;
    mul_add = mul4_add;
    num_suc = λ n. same4 (num4 o (o.num (suc n))) (add4 o (num4 o (o.num 1)) (num4 o (o.num n))) (r.num_suc n) (sym (r.add_zero (o.num 0))) (sym (r.add_zero (o.num 0))) (sym (r.add_zero (o.num 0)));
  }

  -- a multiple, part by part
  pub scaled : (n : A) (x : Four A) → mul4 o (num4 o n) x ≡ record { c0 = o.mul n x.c0; c1 = o.mul n x.c1; c2 = o.mul n x.c2; c3 = o.mul n x.c3 }
  scaled n x = solve4 (num4 o n) x x (mul4 exps (num4 exps (V 0)) (vars 4)) (record { c0 = Mul (V 0) (V 4); c1 = Mul (V 0) (V 5); c2 = Mul (V 0) (V 6); c3 = Mul (V 0) (V 7) }) refl refl refl refl
