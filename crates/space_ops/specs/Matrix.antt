-- Columns of three numbers, and 3 by 3 matrices, over a ring.
--
-- Vector A, Matrix A: a column x, y, z; a matrix row by row
-- row_times o a b c v: the row (a b c) times the column v
-- matrix_times o a b, image_under o a v: a times b; a times the column v
-- vector_sum o v w, minus_vector o v, zero_vector o: of columns
-- unit_matrix o, scaled o c a: the unit matrix; c times a
-- determinant o a, adjugate o a: det a; the matrix with a (adjugate a) = det a
use Rattle.algebra.specs.Ring.{Ops}

pub record Vector (A : Type 0) : Type 0 where
  pub x : A
  pub y : A
  pub z : A

-- entry i j stands in row i and column j
pub record Matrix (A : Type 0) : Type 0 where
  pub r00 : A
  pub r01 : A
  pub r02 : A
  pub r10 : A
  pub r11 : A
  pub r12 : A
  pub r20 : A
  pub r21 : A
  pub r22 : A

-- a row times a column
abbrev pub row_times : {A : Type 0} → Ops A → A → A → A → A → A → A → A
row_times o a b c x y z = o.add (o.add (o.mul a x) (o.mul b y)) (o.mul c z)

-- each row of a times each column of b
abbrev pub matrix_times : {A : Type 0} → Ops A → Matrix A → Matrix A → Matrix A
matrix_times o a b = record {
  r00 = row_times o a.r00 a.r01 a.r02 b.r00 b.r10 b.r20;
  r01 = row_times o a.r00 a.r01 a.r02 b.r01 b.r11 b.r21;
  r02 = row_times o a.r00 a.r01 a.r02 b.r02 b.r12 b.r22;
  r10 = row_times o a.r10 a.r11 a.r12 b.r00 b.r10 b.r20;
  r11 = row_times o a.r10 a.r11 a.r12 b.r01 b.r11 b.r21;
  r12 = row_times o a.r10 a.r11 a.r12 b.r02 b.r12 b.r22;
  r20 = row_times o a.r20 a.r21 a.r22 b.r00 b.r10 b.r20;
  r21 = row_times o a.r20 a.r21 a.r22 b.r01 b.r11 b.r21;
  r22 = row_times o a.r20 a.r21 a.r22 b.r02 b.r12 b.r22;
}

-- each row of a times the column
abbrev pub image_under : {A : Type 0} → Ops A → Matrix A → Vector A → Vector A
image_under o a v = record {
  x = row_times o a.r00 a.r01 a.r02 v.x v.y v.z;
  y = row_times o a.r10 a.r11 a.r12 v.x v.y v.z;
  z = row_times o a.r20 a.r21 a.r22 v.x v.y v.z;
}

abbrev pub vector_sum : {A : Type 0} → Ops A → Vector A → Vector A → Vector A
vector_sum o v w = record { x = o.add v.x w.x; y = o.add v.y w.y; z = o.add v.z w.z }

abbrev pub minus_vector : {A : Type 0} → Ops A → Vector A → Vector A
minus_vector o v = record { x = o.neg v.x; y = o.neg v.y; z = o.neg v.z }

abbrev pub zero_vector : {A : Type 0} → Ops A → Vector A
zero_vector o = record { x = o.num 0; y = o.num 0; z = o.num 0 }

abbrev pub unit_matrix : {A : Type 0} → Ops A → Matrix A
unit_matrix o = record {
  r00 = o.num 1;
  r01 = o.num 0;
  r02 = o.num 0;
  r10 = o.num 0;
  r11 = o.num 1;
  r12 = o.num 0;
  r20 = o.num 0;
  r21 = o.num 0;
  r22 = o.num 1;
}

abbrev pub scaled : {A : Type 0} → Ops A → A → Matrix A → Matrix A
scaled o c a = record {
  r00 = o.mul c a.r00;
  r01 = o.mul c a.r01;
  r02 = o.mul c a.r02;
  r10 = o.mul c a.r10;
  r11 = o.mul c a.r11;
  r12 = o.mul c a.r12;
  r20 = o.mul c a.r20;
  r21 = o.mul c a.r21;
  r22 = o.mul c a.r22;
}

-- the determinant (a b; c d) of two rows
abbrev pub minor : {A : Type 0} → Ops A → A → A → A → A → A
minor o a b c d = o.add (o.mul a d) (o.neg (o.mul b c))

-- the first row times the cross product of the others
abbrev pub determinant : {A : Type 0} → Ops A → Matrix A → A
determinant o a =
    row_times o a.r00 a.r01 a.r02 (minor o a.r11 a.r12 a.r21 a.r22) (minor o a.r12 a.r10 a.r22 a.r20) (minor o a.r10 a.r11 a.r20 a.r21)

-- its columns are the cross products of the second and third row, the third and first, the first and second
abbrev pub adjugate : {A : Type 0} → Ops A → Matrix A → Matrix A
adjugate o a = record {
  r00 = minor o a.r11 a.r12 a.r21 a.r22;
  r01 = minor o a.r21 a.r22 a.r01 a.r02;
  r02 = minor o a.r01 a.r02 a.r11 a.r12;
  r10 = minor o a.r12 a.r10 a.r22 a.r20;
  r11 = minor o a.r22 a.r20 a.r02 a.r00;
  r12 = minor o a.r02 a.r00 a.r12 a.r10;
  r20 = minor o a.r10 a.r11 a.r20 a.r21;
  r21 = minor o a.r20 a.r21 a.r00 a.r01;
  r22 = minor o a.r00 a.r01 a.r10 a.r11;
}
