-- Expressions for three rows, a column and two matrices, for the ring solver.
--
-- vk, vl, vm, vt, va, vb: the variables
-- env k l m t a b: their values
-- value_exp, product_exp, difference_exp: a row times a column, a row times a matrix, a difference of rows
use Rattle.std.proofs.Common.{ℕ, ℤ, pos, [], ◌∷◌}
use Rattle.algebra.specs.Solve.{Exp, V, exps, at}
use Rattle.space_ops.specs.Matrix.{Matrix, Vector, row_times, vector_sum, minus_vector}

abbrev pub vk : Vector Exp
vk = record { x = V 0; y = V 1; z = V 2 }

abbrev pub vl : Vector Exp
vl = record { x = V 3; y = V 4; z = V 5 }

abbrev pub vm : Vector Exp
vm = record { x = V 6; y = V 7; z = V 8 }

abbrev pub vt : Vector Exp
vt = record { x = V 9; y = V 10; z = V 11 }

abbrev pub va : Matrix Exp
va = record { r00 = V 12; r01 = V 13; r02 = V 14; r10 = V 15; r11 = V 16; r12 = V 17; r20 = V 18; r21 = V 19; r22 = V 20 }

abbrev pub vb : Matrix Exp
vb = record { r00 = V 21; r01 = V 22; r02 = V 23; r10 = V 24; r11 = V 25; r12 = V 26; r20 = V 27; r21 = V 28; r22 = V 29 }

abbrev pub env : Vector ℤ → Vector ℤ → Vector ℤ → Vector ℤ → Matrix ℤ → Matrix ℤ → ℕ → ℤ
env k l m t a b = at (pos 0) (k.x ∷ k.y ∷ k.z ∷ l.x ∷ l.y ∷ l.z ∷ m.x ∷ m.y ∷ m.z ∷ t.x ∷ t.y ∷ t.z
    ∷ a.r00 ∷ a.r01 ∷ a.r02 ∷ a.r10 ∷ a.r11 ∷ a.r12 ∷ a.r20 ∷ a.r21 ∷ a.r22
    ∷ b.r00 ∷ b.r01 ∷ b.r02 ∷ b.r10 ∷ b.r11 ∷ b.r12 ∷ b.r20 ∷ b.r21 ∷ b.r22 ∷ [])

abbrev pub value_exp : Vector Exp → Vector Exp → Exp
value_exp k t = row_times exps k.x k.y k.z t.x t.y t.z

abbrev pub product_exp : Vector Exp → Matrix Exp → Vector Exp
product_exp k a = record {
  x = row_times exps k.x k.y k.z a.r00 a.r10 a.r20;
  y = row_times exps k.x k.y k.z a.r01 a.r11 a.r21;
  z = row_times exps k.x k.y k.z a.r02 a.r12 a.r22;
}

abbrev pub difference_exp : Vector Exp → Vector Exp → Vector Exp
difference_exp k l = vector_sum exps k (minus_vector exps l)
