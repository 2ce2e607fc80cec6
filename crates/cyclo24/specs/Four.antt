-- Numbers a0 + a1 r2 + a2 r3 + a3 r6 over a ring, where r2 r2 = 2, r3 r3 = 3 and r2 r3 = r6.
--
-- Four A: four coefficients
-- mul4, add4, neg4, num4: the operations, and a number of the ring as such a number
-- norm4 o a, adj4 o a: a (adj4 a) is the number norm4 a
-- four_ops o: the operations of the ring of such numbers
use Rattle.algebra.specs.Ring.{Ops}

pub record Four (A : Type 0) : Type 0 where
  pub c0 : A
  pub c1 : A
  pub c2 : A
  pub c3 : A

abbrev pub mul4 : {A : Type 0} → Ops A → Four A → Four A → Four A
mul4 o a b = record {
  c0 = o.add (o.add (o.add (o.mul a.c0 b.c0) (o.mul (o.num 2) (o.mul a.c1 b.c1))) (o.mul (o.num 3) (o.mul a.c2 b.c2))) (o.mul (o.num 6) (o.mul a.c3 b.c3));
  c1 = o.add (o.add (o.add (o.mul a.c0 b.c1) (o.mul a.c1 b.c0)) (o.mul (o.num 3) (o.mul a.c2 b.c3))) (o.mul (o.num 3) (o.mul a.c3 b.c2));
  c2 = o.add (o.add (o.add (o.mul a.c0 b.c2) (o.mul a.c2 b.c0)) (o.mul (o.num 2) (o.mul a.c1 b.c3))) (o.mul (o.num 2) (o.mul a.c3 b.c1));
  c3 = o.add (o.add (o.add (o.mul a.c0 b.c3) (o.mul a.c3 b.c0)) (o.mul a.c1 b.c2)) (o.mul a.c2 b.c1);
}

abbrev pub add4 : {A : Type 0} → Ops A → Four A → Four A → Four A
add4 o a b = record { c0 = o.add a.c0 b.c0; c1 = o.add a.c1 b.c1; c2 = o.add a.c2 b.c2; c3 = o.add a.c3 b.c3 }

abbrev pub neg4 : {A : Type 0} → Ops A → Four A → Four A
neg4 o a = record { c0 = o.neg a.c0; c1 = o.neg a.c1; c2 = o.neg a.c2; c3 = o.neg a.c3 }

abbrev pub num4 : {A : Type 0} → Ops A → A → Four A
num4 o x = record { c0 = x; c1 = o.num 0; c2 = o.num 0; c3 = o.num 0 }

abbrev pub less : {A : Type 0} → Ops A → A → A → A
less o x y = o.add x (o.neg y)

abbrev pub norm_u : {A : Type 0} → Ops A → Four A → A
norm_u o a = less o (less o (o.add (o.mul a.c0 a.c0) (o.mul (o.num 2) (o.mul a.c1 a.c1))) (o.mul (o.num 3) (o.mul a.c2 a.c2))) (o.mul (o.num 6) (o.mul a.c3 a.c3))

abbrev pub norm_v : {A : Type 0} → Ops A → Four A → A
norm_v o a = less o (o.mul (o.num 2) (o.mul a.c0 a.c1)) (o.mul (o.num 6) (o.mul a.c2 a.c3))

abbrev pub norm4 : {A : Type 0} → Ops A → Four A → A
norm4 o a = let u = norm_u o a in let v = norm_v o a in less o (o.mul u u) (o.mul (o.num 2) (o.mul v v))

-- the inverse times the norm
abbrev pub adj4 : {A : Type 0} → Ops A → Four A → Four A
adj4 o a = let u = norm_u o a in let v = norm_v o a in record {
  c0 = less o (o.mul a.c0 u) (o.mul (o.num 2) (o.mul a.c1 v));
  c1 = less o (o.mul a.c1 u) (o.mul a.c0 v);
  c2 = o.add (o.neg (o.mul a.c2 u)) (o.mul (o.num 2) (o.mul a.c3 v));
  c3 = o.add (o.neg (o.mul a.c3 u)) (o.mul a.c2 v);
}

abbrev pub four_ops : {A : Type 0} → Ops A → Ops (Four A)
four_ops o = record { num = λ n. num4 o (o.num n); neg = neg4 o; add = add4 o; mul = mul4 o }
