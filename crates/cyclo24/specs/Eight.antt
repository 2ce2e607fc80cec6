-- Numbers c0 + c1 z + .. + c7 z^7 over a ring, where z^8 = z^4 - 1.
--
-- Eight A: the eight coefficients
-- mul8, add8, neg8, num8: what is done with them
use Rattle.algebra.specs.Ring.{Ops}

pub record Eight (A : Type 0) : Type 0 where
  pub c0 : A
  pub c1 : A
  pub c2 : A
  pub c3 : A
  pub c4 : A
  pub c5 : A
  pub c6 : A
  pub c7 : A

abbrev pub minus : {A : Type 0} → Ops A → A → A → A
minus o x y = o.add x (o.neg y)

-- the sum of the products a_i b_j with i + j = m, i rising, for m from 0 to 14
abbrev pub s0 : {A : Type 0} → Ops A → Eight A → Eight A → A
s0 o a b = o.mul a.c0 b.c0

abbrev pub s1 : {A : Type 0} → Ops A → Eight A → Eight A → A
s1 o a b = o.add (o.mul a.c0 b.c1) (o.mul a.c1 b.c0)

abbrev pub s2 : {A : Type 0} → Ops A → Eight A → Eight A → A
s2 o a b = o.add (o.add (o.mul a.c0 b.c2) (o.mul a.c1 b.c1)) (o.mul a.c2 b.c0)

abbrev pub s3 : {A : Type 0} → Ops A → Eight A → Eight A → A
s3 o a b = o.add (o.add (o.add (o.mul a.c0 b.c3) (o.mul a.c1 b.c2)) (o.mul a.c2 b.c1)) (o.mul a.c3 b.c0)

abbrev pub s4 : {A : Type 0} → Ops A → Eight A → Eight A → A
s4 o a b = o.add (o.add (o.add (o.add (o.mul a.c0 b.c4) (o.mul a.c1 b.c3)) (o.mul a.c2 b.c2)) (o.mul a.c3 b.c1)) (o.mul a.c4 b.c0)

abbrev pub s5 : {A : Type 0} → Ops A → Eight A → Eight A → A
s5 o a b = o.add (o.add (o.add (o.add (o.add (o.mul a.c0 b.c5) (o.mul a.c1 b.c4)) (o.mul a.c2 b.c3)) (o.mul a.c3 b.c2)) (o.mul a.c4 b.c1)) (o.mul a.c5 b.c0)

abbrev pub s6 : {A : Type 0} → Ops A → Eight A → Eight A → A
s6 o a b =
    o.add (o.add (o.add (o.add (o.add (o.add (o.mul a.c0 b.c6) (o.mul a.c1 b.c5)) (o.mul a.c2 b.c4)) (o.mul a.c3 b.c3)) (o.mul a.c4 b.c2)) (o.mul a.c5 b.c1)) (o.mul a.c6 b.c0)

abbrev pub s7 : {A : Type 0} → Ops A → Eight A → Eight A → A
s7 o a b =
    o.add (o.add (o.add (o.add (o.add (o.add (o.add (o.mul a.c0 b.c7) (o.mul a.c1 b.c6)) (o.mul a.c2 b.c5)) (o.mul a.c3 b.c4)) (o.mul a.c4 b.c3)) (o.mul a.c5 b.c2)) (o.mul a.c6 b.c1)) (o.mul a.c7 b.c0)

abbrev pub s8 : {A : Type 0} → Ops A → Eight A → Eight A → A
s8 o a b =
    o.add (o.add (o.add (o.add (o.add (o.add (o.mul a.c1 b.c7) (o.mul a.c2 b.c6)) (o.mul a.c3 b.c5)) (o.mul a.c4 b.c4)) (o.mul a.c5 b.c3)) (o.mul a.c6 b.c2)) (o.mul a.c7 b.c1)

abbrev pub s9 : {A : Type 0} → Ops A → Eight A → Eight A → A
s9 o a b = o.add (o.add (o.add (o.add (o.add (o.mul a.c2 b.c7) (o.mul a.c3 b.c6)) (o.mul a.c4 b.c5)) (o.mul a.c5 b.c4)) (o.mul a.c6 b.c3)) (o.mul a.c7 b.c2)

abbrev pub s10 : {A : Type 0} → Ops A → Eight A → Eight A → A
s10 o a b = o.add (o.add (o.add (o.add (o.mul a.c3 b.c7) (o.mul a.c4 b.c6)) (o.mul a.c5 b.c5)) (o.mul a.c6 b.c4)) (o.mul a.c7 b.c3)

abbrev pub s11 : {A : Type 0} → Ops A → Eight A → Eight A → A
s11 o a b = o.add (o.add (o.add (o.mul a.c4 b.c7) (o.mul a.c5 b.c6)) (o.mul a.c6 b.c5)) (o.mul a.c7 b.c4)

abbrev pub s12 : {A : Type 0} → Ops A → Eight A → Eight A → A
s12 o a b = o.add (o.add (o.mul a.c5 b.c7) (o.mul a.c6 b.c6)) (o.mul a.c7 b.c5)

abbrev pub s13 : {A : Type 0} → Ops A → Eight A → Eight A → A
s13 o a b = o.add (o.mul a.c6 b.c7) (o.mul a.c7 b.c6)

abbrev pub s14 : {A : Type 0} → Ops A → Eight A → Eight A → A
s14 o a b = o.mul a.c7 b.c7

-- the product, by z^8 = z^4 - 1 and z^12 = -1
unfoldable pub mul8 : {A : Type 0} → Ops A → Eight A → Eight A → Eight A
mul8 o a b = record {
  c0 = minus o (minus o (s0 o a b) (s8 o a b)) (s12 o a b);
  c1 = minus o (minus o (s1 o a b) (s9 o a b)) (s13 o a b);
  c2 = minus o (minus o (s2 o a b) (s10 o a b)) (s14 o a b);
  c3 = minus o (s3 o a b) (s11 o a b);
  c4 = o.add (s4 o a b) (s8 o a b);
  c5 = o.add (s5 o a b) (s9 o a b);
  c6 = o.add (s6 o a b) (s10 o a b);
  c7 = o.add (s7 o a b) (s11 o a b);
}

abbrev pub add8 : {A : Type 0} → Ops A → Eight A → Eight A → Eight A
add8 o a b = record {
  c0 = o.add a.c0 b.c0;
  c1 = o.add a.c1 b.c1;
  c2 = o.add a.c2 b.c2;
  c3 = o.add a.c3 b.c3;
  c4 = o.add a.c4 b.c4;
  c5 = o.add a.c5 b.c5;
  c6 = o.add a.c6 b.c6;
  c7 = o.add a.c7 b.c7;
}

abbrev pub neg8 : {A : Type 0} → Ops A → Eight A → Eight A
neg8 o a = record { c0 = o.neg a.c0; c1 = o.neg a.c1; c2 = o.neg a.c2; c3 = o.neg a.c3; c4 = o.neg a.c4; c5 = o.neg a.c5; c6 = o.neg a.c6; c7 = o.neg a.c7 }

-- a number of the ring
abbrev pub num8 : {A : Type 0} → Ops A → A → Eight A
num8 o x = record { c0 = x; c1 = o.num 0; c2 = o.num 0; c3 = o.num 0; c4 = o.num 0; c5 = o.num 0; c6 = o.num 0; c7 = o.num 0 }

abbrev pub eight_ops : {A : Type 0} → Ops A → Ops (Eight A)
eight_ops o = record { num = λ n. num8 o (o.num n); neg = neg8 o; add = add8 o; mul = mul8 o }
