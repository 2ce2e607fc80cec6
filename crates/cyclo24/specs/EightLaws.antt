-- Laws of the numbers c0 + c1 z + .. + c7 z^7 over a commutative ring.
--
-- eight_ring: they are a commutative ring
-- conj8-..: conjugation is an involution that respects sums and products
-- re8-.., im8-.., parts8: real and imaginary parts
-- real8-..: real numbers
use Rattle.std.proofs.Common.{◌≡◌, ℕ, ◌+◌, suc, refl, sym, [], ◌∷◌, true, false, Bool}
use Rattle.algebra.specs.Ring.{Ops, IsRing}
use Rattle.cyclo24.specs.Four.{Four, mul4, add4, neg4, num4}
use Rattle.cyclo24.specs.Eight.{Eight, mul8, add8, neg8, num8, eight_ops}
use Rattle.cyclo24.specs.EightParts.{conj8, re8, im8, real8, i8}
use Rattle.algebra.specs.Solve.{Exp, V, K, Mul, exps, same, value, and_then, at}
use Rattle.algebra.specs.SolveLaws.{solve}
use Rattle.cyclo24.specs.FourLaws.{vars, values, same4}

abbrev pub vars8 : ℕ → Eight Exp
vars8 i = record { c0 = V (i + 0); c1 = V (i + 1); c2 = V (i + 2); c3 = V (i + 3); c4 = V (i + 4); c5 = V (i + 5); c6 = V (i + 6); c7 = V (i + 7) }

abbrev pub values8 : {A : Type 0} → Ops A → (ℕ → A) → Eight Exp → Eight A
values8 o v e = record {
  c0 = value o v e.c0;
  c1 = value o v e.c1;
  c2 = value o v e.c2;
  c3 = value o v e.c3;
  c4 = value o v e.c4;
  c5 = value o v e.c5;
  c6 = value o v e.c6;
  c7 = value o v e.c7;
}

abbrev pub three8 : {A : Type 0} → A → Eight A → Eight A → Eight A → ℕ → A
three8 d a b c =
    at d
    (a.c0 ∷ a.c1 ∷ a.c2 ∷ a.c3 ∷ a.c4 ∷ a.c5 ∷ a.c6 ∷ a.c7 ∷ b.c0 ∷ b.c1 ∷ b.c2 ∷ b.c3 ∷ b.c4 ∷ b.c5 ∷ b.c6 ∷ b.c7 ∷ c.c0 ∷ c.c1 ∷ c.c2 ∷ c.c3 ∷ c.c4 ∷ c.c5 ∷ c.c6 ∷ c.c7 ∷ [])

-- eight expressions have the same normal forms
abbrev pub are_same8 : Eight Exp → Eight Exp → Bool
are_same8 e f =
    and_then (same e.c0 f.c0)
    (and_then (same e.c1 f.c1) (and_then (same e.c2 f.c2) (and_then (same e.c3 f.c3) (and_then (same e.c4 f.c4) (and_then (same e.c5 f.c5) (and_then (same e.c6 f.c6) (same e.c7 f.c7)))))))

abbrev pub are_same4 : Four Exp → Four Exp → Bool
are_same4 e f = and_then (same e.c0 f.c0) (and_then (same e.c1 f.c1) (and_then (same e.c2 f.c2) (same e.c3 f.c3)))

left : (a b : Bool) → and_then a b ≡ true → a ≡ true
left true b e = refl
left false b e = cc

right : (a b : Bool) → and_then a b ≡ true → b ≡ true
right true b e = e
right false b e = cc

-- eight numbers are the same where each is
pub same8 : {A : Type 0} (a b : Eight A) → a.c0 ≡ b.c0 → a.c1 ≡ b.c1 → a.c2 ≡ b.c2 → a.c3 ≡ b.c3 → a.c4 ≡ b.c4 → a.c5 ≡ b.c5 → a.c6 ≡ b.c6 → a.c7 ≡ b.c7 → a ≡ b
same8 a b p q r s t u v w = λ i. record { c0 = p i; c1 = q i; c2 = r i; c3 = s i; c4 = t i; c5 = u i; c6 = v i; c7 = w i }

module _ {A : Type 0} (o : Ops A) (r : IsRing o) where
  -- equal expressions in variables
  pub solve8 : (v : ℕ → A) (e f : Eight Exp) → are_same8 e f ≡ true → values8 o v e ≡ values8 o v f
  solve8 v e f h =
      let h1 = right (same e.c0 f.c0) _ h in
      let h2 = right (same e.c1 f.c1) _ h1 in
      let h3 = right (same e.c2 f.c2) _ h2 in
      let h4 = right (same e.c3 f.c3) _ h3 in
      let h5 = right (same e.c4 f.c4) _ h4 in
      let h6 = right (same e.c5 f.c5) _ h5 in
      let h7 = right (same e.c6 f.c6) _ h6 in
      same8 (values8 o v e) (values8 o v f)
      (solve o r v e.c0 f.c0 (left (same e.c0 f.c0) _ h))
      (solve o r v e.c1 f.c1 (left (same e.c1 f.c1) _ h1))
      (solve o r v e.c2 f.c2 (left (same e.c2 f.c2) _ h2))
      (solve o r v e.c3 f.c3 (left (same e.c3 f.c3) _ h3))
      (solve o r v e.c4 f.c4 (left (same e.c4 f.c4) _ h4))
      (solve o r v e.c5 f.c5 (left (same e.c5 f.c5) _ h5))
      (solve o r v e.c6 f.c6 (left (same e.c6 f.c6) _ h6))
      (solve o r v e.c7 f.c7 h7)

  pub solve4' : (v : ℕ → A) (e f : Four Exp) → are_same4 e f ≡ true → values o v e ≡ values o v f
  solve4' v e f h =
      let h1 = right (same e.c0 f.c0) _ h in
      let h2 = right (same e.c1 f.c1) _ h1 in
      let h3 = right (same e.c2 f.c2) _ h2 in
      same4 (values o v e) (values o v f)
      (solve o r v e.c0 f.c0 (left (same e.c0 f.c0) _ h))
      (solve o r v e.c1 f.c1 (left (same e.c1 f.c1) _ h1))
      (solve o r v e.c2 f.c2 (left (same e.c2 f.c2) _ h2))
      (solve o r v e.c3 f.c3 h3)

  pub mul8_assoc : (a b c : Eight A) → mul8 o (mul8 o a b) c ≡ mul8 o a (mul8 o b c)
  unfolding mul8
  mul8_assoc a b c = solve8 (three8 (o.num 0) a b c) (mul8 exps (mul8 exps (vars8 0) (vars8 8)) (vars8 16)) (mul8 exps (vars8 0) (mul8 exps (vars8 8) (vars8 16))) refl

  pub mul8_comm : (a b : Eight A) → mul8 o a b ≡ mul8 o b a
  unfolding mul8
  mul8_comm a b = solve8 (three8 (o.num 0) a b b) (mul8 exps (vars8 0) (vars8 8)) (mul8 exps (vars8 8) (vars8 0)) refl

  pub mul8_add : (a b c : Eight A) → mul8 o a (add8 o b c) ≡ add8 o (mul8 o a b) (mul8 o a c)
  unfolding mul8
  mul8_add a b c = solve8 (three8 (o.num 0) a b c) (mul8 exps (vars8 0) (add8 exps (vars8 8) (vars8 16))) (add8 exps (mul8 exps (vars8 0) (vars8 8)) (mul8 exps (vars8 0) (vars8 16))) refl

  mul8_one : (a : Eight A) → mul8 o (num8 o (o.num 1)) a ≡ a
  unfolding mul8
  mul8_one a = solve8 (three8 (o.num 0) a a a) (mul8 exps (num8 exps (K 1)) (vars8 0)) (vars8 0) refl

  pub eight_ring : IsRing (eight_ops o)
  eight_ring = record {
    add_assoc = λ a b c. solve8 (three8 (o.num 0) a b c) (add8 exps (add8 exps (vars8 0) (vars8 8)) (vars8 16)) (add8 exps (vars8 0) (add8 exps (vars8 8) (vars8 16))) refl;
    add_comm = λ a b. solve8 (three8 (o.num 0) a b b) (add8 exps (vars8 0) (vars8 8)) (add8 exps (vars8 8) (vars8 0)) refl;
    add_zero = λ a. solve8 (three8 (o.num 0) a a a) (add8 exps (num8 exps (K 0)) (vars8 0)) (vars8 0) refl;
    add_neg = λ a. solve8 (three8 (o.num 0) a a a) (add8 exps (vars8 0) (neg8 exps (vars8 0))) (num8 exps (K 0)) refl;
    mul_assoc = mul8_assoc;
    mul_comm = mul8_comm;
    mul_one = mul8_one;
    mul_add = mul8_add;
    num_suc = λ n.
        same8 (num8 o (o.num (suc n))) (add8 o (num8 o (o.num 1)) (num8 o (o.num n))) (r.num_suc n) (sym (r.add_zero (o.num 0))) (sym (r.add_zero (o.num 0))) (sym (r.add_zero (o.num 0)))
        (sym (r.add_zero (o.num 0))) (sym (r.add_zero (o.num 0))) (sym (r.add_zero (o.num 0))) (sym (r.add_zero (o.num 0)));
  }

  -- a multiple, part by part
  pub scaled8 : (n : A) (x : Eight A)
      → mul8 o (num8 o n) x ≡ record { c0 = o.mul n x.c0; c1 = o.mul n x.c1; c2 = o.mul n x.c2; c3 = o.mul n x.c3; c4 = o.mul n x.c4; c5 = o.mul n x.c5; c6 = o.mul n x.c6; c7 = o.mul n x.c7 }
  unfolding mul8
  scaled8 n x =
      solve8 (three8 (o.num 0) (num8 o n) x x) (mul8 exps (num8 exps (V 0)) (vars8 8))
      (record { c0 = Mul (V 0) (V 8); c1 = Mul (V 0) (V 9); c2 = Mul (V 0) (V 10); c3 = Mul (V 0) (V 11); c4 = Mul (V 0) (V 12); c5 = Mul (V 0) (V 13); c6 = Mul (V 0) (V 14); c7 = Mul (V 0) (V 15) })
      refl

  -- conjugation
  pub conj8-conj8 : (a : Eight A) → conj8 o (conj8 o a) ≡ a
  unfolding conj8
  conj8-conj8 a = solve8 (three8 (o.num 0) a a a) (conj8 exps (conj8 exps (vars8 0))) (vars8 0) refl

  pub conj8-add8 : (a b : Eight A) → conj8 o (add8 o a b) ≡ add8 o (conj8 o a) (conj8 o b)
  unfolding conj8
  conj8-add8 a b = solve8 (three8 (o.num 0) a b b) (conj8 exps (add8 exps (vars8 0) (vars8 8))) (add8 exps (conj8 exps (vars8 0)) (conj8 exps (vars8 8))) refl

  pub conj8-mul8 : (a b : Eight A) → conj8 o (mul8 o a b) ≡ mul8 o (conj8 o a) (conj8 o b)
  unfolding conj8 mul8
  conj8-mul8 a b = solve8 (three8 (o.num 0) a b b) (conj8 exps (mul8 exps (vars8 0) (vars8 8))) (mul8 exps (conj8 exps (vars8 0)) (conj8 exps (vars8 8))) refl

  pub conj8-num8 : (n : A) → conj8 o (num8 o n) ≡ num8 o n
  unfolding conj8
  conj8-num8 n = solve8 (three8 (o.num 0) (num8 o n) (num8 o n) (num8 o n)) (conj8 exps (num8 exps (V 0))) (num8 exps (V 0)) refl

  abbrev pub two_four : Four A → Four A → ℕ → A
  two_four a b = at (o.num 0) (a.c0 ∷ a.c1 ∷ a.c2 ∷ a.c3 ∷ b.c0 ∷ b.c1 ∷ b.c2 ∷ b.c3 ∷ [])

  -- real numbers
  pub real8-add4 : (a b : Four A) → real8 o (add4 o a b) ≡ add8 o (real8 o a) (real8 o b)
  unfolding real8
  real8-add4 a b = solve8 (two_four a b) (real8 exps (add4 exps (vars 0) (vars 4))) (add8 exps (real8 exps (vars 0)) (real8 exps (vars 4))) refl

  pub real8-mul4 : (a b : Four A) → real8 o (mul4 o a b) ≡ mul8 o (real8 o a) (real8 o b)
  unfolding real8 mul8
  real8-mul4 a b = solve8 (two_four a b) (real8 exps (mul4 exps (vars 0) (vars 4))) (mul8 exps (real8 exps (vars 0)) (real8 exps (vars 4))) refl

  pub real8-num4 : (n : A) → real8 o (num4 o n) ≡ num8 o n
  unfolding real8
  real8-num4 n = solve8 (two_four (num4 o n) (num4 o n)) (real8 exps (num4 exps (V 0))) (num8 exps (V 0)) refl

  pub conj8-real8 : (a : Four A) → conj8 o (real8 o a) ≡ real8 o a
  unfolding conj8 real8
  conj8-real8 a = solve8 (two_four a a) (conj8 exps (real8 exps (vars 0))) (real8 exps (vars 0)) refl

  -- parts
  pub re8-add8 : (a b : Eight A) → re8 o (add8 o a b) ≡ add4 o (re8 o a) (re8 o b)
  unfolding re8
  re8-add8 a b = solve4' (three8 (o.num 0) a b b) (re8 exps (add8 exps (vars8 0) (vars8 8))) (add4 exps (re8 exps (vars8 0)) (re8 exps (vars8 8))) refl

  pub im8-add8 : (a b : Eight A) → im8 o (add8 o a b) ≡ add4 o (im8 o a) (im8 o b)
  unfolding im8
  im8-add8 a b = solve4' (three8 (o.num 0) a b b) (im8 exps (add8 exps (vars8 0) (vars8 8))) (add4 exps (im8 exps (vars8 0)) (im8 exps (vars8 8))) refl

  -- 4 x is the sum of its parts
  pub parts8 : (a : Eight A) → mul8 o (num8 o (o.num 4)) a ≡ add8 o (real8 o (re8 o a)) (mul8 o (i8 o) (real8 o (im8 o a)))
  unfolding re8 im8 real8 mul8
  parts8 a =
      solve8 (three8 (o.num 0) a a a) (mul8 exps (num8 exps (K 4)) (vars8 0))
      (add8 exps (real8 exps (re8 exps (vars8 0))) (mul8 exps (i8 exps) (real8 exps (im8 exps (vars8 0))))) refl

  pub re8-real8 : (a : Four A) → re8 o (real8 o a) ≡ mul4 o (num4 o (o.num 4)) a
  unfolding re8 real8
  re8-real8 a = solve4' (two_four a a) (re8 exps (real8 exps (vars 0))) (mul4 exps (num4 exps (K 4)) (vars 0)) refl

  pub im8-real8 : (a : Four A) → im8 o (real8 o a) ≡ num4 o (o.num 0)
  unfolding im8 real8
  im8-real8 a = solve4' (two_four a a) (im8 exps (real8 exps (vars 0))) (num4 exps (K 0)) refl

  -- parts of a product
  pub re8-mul8 : (a b : Eight A) → mul4 o (num4 o (o.num 4)) (re8 o (mul8 o a b)) ≡ add4 o (mul4 o (re8 o a) (re8 o b)) (neg4 o (mul4 o (im8 o a) (im8 o b)))
  unfolding re8 im8 mul8
  re8-mul8 a b =
      solve4' (three8 (o.num 0) a b b) (mul4 exps (num4 exps (K 4)) (re8 exps (mul8 exps (vars8 0) (vars8 8))))
      (add4 exps (mul4 exps (re8 exps (vars8 0)) (re8 exps (vars8 8))) (neg4 exps (mul4 exps (im8 exps (vars8 0)) (im8 exps (vars8 8))))) refl

  pub im8-mul8 : (a b : Eight A) → mul4 o (num4 o (o.num 4)) (im8 o (mul8 o a b)) ≡ add4 o (mul4 o (re8 o a) (im8 o b)) (mul4 o (im8 o a) (re8 o b))
  unfolding re8 im8 mul8
  im8-mul8 a b =
      solve4' (three8 (o.num 0) a b b) (mul4 exps (num4 exps (K 4)) (im8 exps (mul8 exps (vars8 0) (vars8 8))))
      (add4 exps (mul4 exps (re8 exps (vars8 0)) (im8 exps (vars8 8))) (mul4 exps (im8 exps (vars8 0)) (re8 exps (vars8 8)))) refl

  -- parts of a conjugate
  pub re8-conj8 : (a : Eight A) → re8 o (conj8 o a) ≡ re8 o a
  unfolding re8 conj8
  re8-conj8 a = solve4' (three8 (o.num 0) a a a) (re8 exps (conj8 exps (vars8 0))) (re8 exps (vars8 0)) refl

  pub im8-conj8 : (a : Eight A) → im8 o (conj8 o a) ≡ neg4 o (im8 o a)
  unfolding im8 conj8
  im8-conj8 a = solve4' (three8 (o.num 0) a a a) (im8 exps (conj8 exps (vars8 0))) (neg4 exps (im8 exps (vars8 0))) refl

  -- x times its conjugate is real
  pub mul8-conj8 : (a : Eight A) → mul8 o (num8 o (o.num 4)) (mul8 o a (conj8 o a)) ≡ real8 o (re8 o (mul8 o a (conj8 o a)))
  unfolding re8 conj8 mul8 real8
  mul8-conj8 a = solve8 (three8 (o.num 0) a a a) (mul8 exps (num8 exps (K 4)) (mul8 exps (vars8 0) (conj8 exps (vars8 0)))) (real8 exps (re8 exps (mul8 exps (vars8 0) (conj8 exps (vars8 0))))) refl

  -- parts of i times a real number
  pub re8-i : (a : Four A) → re8 o (mul8 o (i8 o) (real8 o a)) ≡ num4 o (o.num 0)
  unfolding re8 real8 mul8
  re8-i a = solve4' (two_four a a) (re8 exps (mul8 exps (i8 exps) (real8 exps (vars 0)))) (num4 exps (K 0)) refl

  pub im8-i : (a : Four A) → im8 o (mul8 o (i8 o) (real8 o a)) ≡ mul4 o (num4 o (o.num 4)) a
  unfolding im8 real8 mul8
  im8-i a = solve4' (two_four a a) (im8 exps (mul8 exps (i8 exps) (real8 exps (vars 0)))) (mul4 exps (num4 exps (K 4)) (vars 0)) refl

  -- i i = -1
  pub i8-i8 : mul8 o (i8 o) (i8 o) ≡ neg8 o (num8 o (o.num 1))
  unfolding mul8
  i8-i8 = solve8 (at (o.num 0) []) (mul8 exps (i8 exps) (i8 exps)) (neg8 exps (num8 exps (K 1))) refl

  pub conj8-i8 : conj8 o (i8 o) ≡ neg8 o (i8 o)
  unfolding conj8
  conj8-i8 = solve8 (at (o.num 0) []) (conj8 exps (i8 exps)) (neg8 exps (i8 exps)) refl

  -- multiples
  pub conj8-scale : (n : A) (x : Eight A) → conj8 o (mul8 o (num8 o n) x) ≡ mul8 o (num8 o n) (conj8 o x)
  unfolding conj8 mul8
  conj8-scale n x = solve8 (three8 (o.num 0) (num8 o n) x x) (conj8 exps (mul8 exps (num8 exps (V 0)) (vars8 8))) (mul8 exps (num8 exps (V 0)) (conj8 exps (vars8 8))) refl

  pub re8-scale : (n : A) (x : Eight A) → re8 o (mul8 o (num8 o n) x) ≡ mul4 o (num4 o n) (re8 o x)
  unfolding re8 mul8
  re8-scale n x = solve4' (three8 (o.num 0) (num8 o n) x x) (re8 exps (mul8 exps (num8 exps (V 0)) (vars8 8))) (mul4 exps (num4 exps (V 0)) (re8 exps (vars8 8))) refl

  pub im8-scale : (n : A) (x : Eight A) → im8 o (mul8 o (num8 o n) x) ≡ mul4 o (num4 o n) (im8 o x)
  unfolding im8 mul8
  im8-scale n x = solve4' (three8 (o.num 0) (num8 o n) x x) (im8 exps (mul8 exps (num8 exps (V 0)) (vars8 8))) (mul4 exps (num4 exps (V 0)) (im8 exps (vars8 8))) refl

  pub real8-scale : (n : A) (a : Four A) → real8 o (mul4 o (num4 o n) a) ≡ mul8 o (num8 o n) (real8 o a)
  unfolding real8 mul8
  real8-scale n a = solve8 (at (o.num 0) (n ∷ a.c0 ∷ a.c1 ∷ a.c2 ∷ a.c3 ∷ [])) (real8 exps (mul4 exps (num4 exps (V 0)) (vars 1))) (mul8 exps (num8 exps (V 0)) (real8 exps (vars 1))) refl
