-- Seitz operations {R|t}, x' = R x + t, over a ring.
--
-- Seitz A: a rotation R and a translation t
-- seitz_product o g h: {R|t}{S|s} = {RS | t + R s}
-- seitz_inverse o g: {R^-1 | -R^-1 t}, where the determinant of R is 1 or -1
-- seitz_identity o: {E|0}
use Rattle.algebra.specs.Ring.{Ops}
use Rattle.space_ops.specs.Matrix.{Matrix, Vector, matrix_times, image_under, vector_sum, minus_vector, zero_vector, unit_matrix, scaled, determinant, adjugate}

pub record Seitz (A : Type 0) : Type 0 where
  pub rot : Matrix A
  pub shift : Vector A

-- {R|t}{S|s} = {RS | t + R s}
abbrev pub seitz_product : {A : Type 0} → Ops A → Seitz A → Seitz A → Seitz A
seitz_product o g h = record {
  rot = matrix_times o g.rot h.rot;
  shift = vector_sum o g.shift (image_under o g.rot h.shift);
}

-- the inverse of a matrix of determinant 1 or -1: its determinant times its adjugate
abbrev pub inverse_matrix : {A : Type 0} → Ops A → Matrix A → Matrix A
inverse_matrix o a = scaled o (determinant o a) (adjugate o a)

-- {R^-1 | -R^-1 t}
abbrev pub seitz_inverse : {A : Type 0} → Ops A → Seitz A → Seitz A
seitz_inverse o g = record {
  rot = inverse_matrix o g.rot;
  shift = minus_vector o (image_under o (inverse_matrix o g.rot) g.shift);
}

-- {E|0}
abbrev pub seitz_identity : {A : Type 0} → Ops A → Seitz A
seitz_identity o = record { rot = unit_matrix o; shift = zero_vector o }
