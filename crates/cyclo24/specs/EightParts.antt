-- Conjugates and parts of the numbers c0 + c1 z + .. + c7 z^7, where z^8 = z^4 - 1.
--
-- conj8: the conjugate, z to 1/z
-- re8, im8: four times the real and the imaginary part, in 1, r2, r3, r6
-- real8: a real number a0 + a1 r2 + a2 r3 + a3 r6, in powers of z
-- z8, i8: z and the imaginary unit z^6
use Rattle.algebra.specs.Ring.{Ops}
use Rattle.cyclo24.specs.Four.{Four}
use Rattle.cyclo24.specs.Eight.{Eight, minus}

-- the conjugate
unfoldable pub conj8 : {A : Type 0} → Ops A → Eight A → Eight A
conj8 o a = record {
  c0 = o.add a.c0 a.c4;
  c1 = a.c3;
  c2 = a.c2;
  c3 = a.c1;
  c4 = o.neg a.c4;
  c5 = minus o (o.neg a.c3) a.c7;
  c6 = minus o (o.neg a.c2) a.c6;
  c7 = minus o (o.neg a.c1) a.c5;
}

-- four times the real part
unfoldable pub re8 : {A : Type 0} → Ops A → Eight A → Four A
re8 o a = record {
  c0 = o.add (o.mul (o.num 4) a.c0) (o.mul (o.num 2) a.c4);
  c1 = o.add (minus o (o.add a.c1 (o.mul (o.num 2) a.c3)) a.c5) a.c7;
  c2 = o.mul (o.num 2) a.c2;
  c3 = minus o (o.add a.c1 a.c5) a.c7;
}

-- four times the imaginary part
unfoldable pub im8 : {A : Type 0} → Ops A → Eight A → Four A
im8 o a = record {
  c0 = o.add (o.mul (o.num 2) a.c2) (o.mul (o.num 4) a.c6);
  c1 = o.add (o.add (o.add (o.neg a.c1) (o.mul (o.num 2) a.c3)) a.c5) a.c7;
  c2 = o.mul (o.num 2) a.c4;
  c3 = o.add (o.add a.c1 a.c5) a.c7;
}

-- a real number: r2 = z + z^3 - z^5, r3 = 2 z^2 - z^6, r6 = z + z^3 + z^5 - 2 z^7
unfoldable pub real8 : {A : Type 0} → Ops A → Four A → Eight A
real8 o a = record {
  c0 = a.c0;
  c1 = o.add a.c1 a.c3;
  c2 = o.mul (o.num 2) a.c2;
  c3 = o.add a.c1 a.c3;
  c4 = o.num 0;
  c5 = o.add (o.neg a.c1) a.c3;
  c6 = o.neg a.c2;
  c7 = o.neg (o.mul (o.num 2) a.c3);
}

-- z and z^6
abbrev pub z8 : {A : Type 0} → Ops A → Eight A
z8 o = record { c0 = o.num 0; c1 = o.num 1; c2 = o.num 0; c3 = o.num 0; c4 = o.num 0; c5 = o.num 0; c6 = o.num 0; c7 = o.num 0 }

abbrev pub i8 : {A : Type 0} → Ops A → Eight A
i8 o = record { c0 = o.num 0; c1 = o.num 0; c2 = o.num 0; c3 = o.num 0; c4 = o.num 0; c5 = o.num 0; c6 = o.num 1; c7 = o.num 0 }
