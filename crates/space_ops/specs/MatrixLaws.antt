-- Laws of matrices and columns over a commutative ring.
--
-- same_matrix, same_vector: equal where their entries are
-- matrix_times-assoc, matrix_times-unit, unit-matrix_times: matrices are a monoid
-- matrix_times-adjugate, adjugate-matrix_times, determinant-matrix_times: adjugate and determinant
-- image_under-product, image_under-minus, image_under-zero, zero-image_under, image_under-sum, image_under-difference: images of columns
-- less_itself, minus_and_itself, scaled-one, square_of_product: small equations
use Rattle.std.proofs.Common.{◌≡◌, ℕ, refl, [], ◌∷◌, true}
use Rattle.algebra.specs.Ring.{Ops, IsRing}
use Rattle.algebra.specs.Solve.{Exp, V, K, Mul, exps, at, same, value}
use Rattle.algebra.specs.SolveLaws.{solve}
use Rattle.space_ops.specs.Matrix.{Matrix, Vector, matrix_times, image_under, vector_sum, minus_vector, unit_matrix, zero_vector, determinant, adjugate, scaled}

pub same_matrix : {A : Type 0} (a b : Matrix A) → a.r00 ≡ b.r00 → a.r01 ≡ b.r01 → a.r02 ≡ b.r02 → a.r10 ≡ b.r10 → a.r11 ≡ b.r11 → a.r12 ≡ b.r12 → a.r20 ≡ b.r20 → a.r21 ≡ b.r21 → a.r22 ≡ b.r22 → a ≡ b
same_matrix a b e0 e1 e2 e3 e4 e5 e6 e7 e8 = λ i. record { r00 = e0 i; r01 = e1 i; r02 = e2 i; r10 = e3 i; r11 = e4 i; r12 = e5 i; r20 = e6 i; r21 = e7 i; r22 = e8 i }

pub same_vector : {A : Type 0} (a b : Vector A) → a.x ≡ b.x → a.y ≡ b.y → a.z ≡ b.z → a ≡ b
same_vector a b e f g = λ i. record { x = e i; y = f i; z = g i }

abbrev va : Matrix Exp
va = record { r00 = V 0; r01 = V 1; r02 = V 2; r10 = V 3; r11 = V 4; r12 = V 5; r20 = V 6; r21 = V 7; r22 = V 8 }

abbrev vb : Matrix Exp
vb = record { r00 = V 9; r01 = V 10; r02 = V 11; r10 = V 12; r11 = V 13; r12 = V 14; r20 = V 15; r21 = V 16; r22 = V 17 }

abbrev vc : Matrix Exp
vc = record { r00 = V 18; r01 = V 19; r02 = V 20; r10 = V 21; r11 = V 22; r12 = V 23; r20 = V 24; r21 = V 25; r22 = V 26 }

abbrev ts : Vector Exp
ts = record { x = V 27; y = V 28; z = V 29 }

abbrev tt' : Vector Exp
tt' = record { x = V 30; y = V 31; z = V 32 }

abbrev tu : Vector Exp
tu = record { x = V 33; y = V 34; z = V 35 }

abbrev env : {A : Type 0} → A → Matrix A → Matrix A → Matrix A → Vector A → Vector A → Vector A → ℕ → A
env d a b c s t u = at d (a.r00 ∷ a.r01 ∷ a.r02 ∷ a.r10 ∷ a.r11 ∷ a.r12 ∷ a.r20 ∷ a.r21 ∷ a.r22 ∷ b.r00 ∷ b.r01 ∷ b.r02 ∷ b.r10 ∷ b.r11 ∷ b.r12 ∷ b.r20 ∷ b.r21 ∷ b.r22 ∷ c.r00 ∷ c.r01 ∷ c.r02 ∷ c.r10 ∷ c.r11 ∷ c.r12 ∷ c.r20 ∷ c.r21 ∷ c.r22 ∷ s.x ∷ s.y ∷ s.z ∷ t.x ∷ t.y ∷ t.z ∷ u.x ∷ u.y ∷ u.z ∷ [])

abbrev matrix_value : {A : Type 0} → Ops A → (ℕ → A) → Matrix Exp → Matrix A
matrix_value o v e = record { r00 = value o v e.r00; r01 = value o v e.r01; r02 = value o v e.r02; r10 = value o v e.r10; r11 = value o v e.r11; r12 = value o v e.r12; r20 = value o v e.r20; r21 = value o v e.r21; r22 = value o v e.r22 }

abbrev vector_value : {A : Type 0} → Ops A → (ℕ → A) → Vector Exp → Vector A
vector_value o v e = record { x = value o v e.x; y = value o v e.y; z = value o v e.z }

module _ {A : Type 0} (o : Ops A) (r : IsRing o) where
  solve_matrix : (v : ℕ → A) (e f : Matrix Exp) → same e.r00 f.r00 ≡ true → same e.r01 f.r01 ≡ true → same e.r02 f.r02 ≡ true → same e.r10 f.r10 ≡ true → same e.r11 f.r11 ≡ true → same e.r12 f.r12 ≡ true → same e.r20 f.r20 ≡ true → same e.r21 f.r21 ≡ true → same e.r22 f.r22 ≡ true → matrix_value o v e ≡ matrix_value o v f
  solve_matrix v e f e0 e1 e2 e3 e4 e5 e6 e7 e8 = same_matrix (matrix_value o v e) (matrix_value o v f) (solve o r v e.r00 f.r00 e0) (solve o r v e.r01 f.r01 e1) (solve o r v e.r02 f.r02 e2) (solve o r v e.r10 f.r10 e3) (solve o r v e.r11 f.r11 e4) (solve o r v e.r12 f.r12 e5) (solve o r v e.r20 f.r20 e6) (solve o r v e.r21 f.r21 e7) (solve o r v e.r22 f.r22 e8)

  solve_vector : (v : ℕ → A) (e f : Vector Exp) → same e.x f.x ≡ true → same e.y f.y ≡ true → same e.z f.z ≡ true → vector_value o v e ≡ vector_value o v f
  solve_vector v e f p q s = same_vector (vector_value o v e) (vector_value o v f) (solve o r v e.x f.x p) (solve o r v e.y f.y q) (solve o r v e.z f.z s)

  pub matrix_times-assoc : (a b c : Matrix A) → matrix_times o (matrix_times o a b) c ≡ matrix_times o a (matrix_times o b c)
  matrix_times-assoc a b c = solve_matrix (env (o.num 0) a b c (zero_vector o) (zero_vector o) (zero_vector o)) (matrix_times exps (matrix_times exps va vb) vc) (matrix_times exps va (matrix_times exps vb vc)) refl refl refl refl refl refl refl refl refl

  pub matrix_times-unit : (a : Matrix A) → matrix_times o a (unit_matrix o) ≡ a
  matrix_times-unit a = solve_matrix (env (o.num 0) a a a (zero_vector o) (zero_vector o) (zero_vector o)) (matrix_times exps va (unit_matrix exps)) va refl refl refl refl refl refl refl refl refl

  pub unit-matrix_times : (a : Matrix A) → matrix_times o (unit_matrix o) a ≡ a
  unit-matrix_times a = solve_matrix (env (o.num 0) a a a (zero_vector o) (zero_vector o) (zero_vector o)) (matrix_times exps (unit_matrix exps) va) va refl refl refl refl refl refl refl refl refl

  -- a (det a adj a) = det a ^2
  pub matrix_times-adjugate : (a : Matrix A) → matrix_times o a (scaled o (determinant o a) (adjugate o a)) ≡ scaled o (o.mul (determinant o a) (determinant o a)) (unit_matrix o)
  matrix_times-adjugate a = solve_matrix (env (o.num 0) a a a (zero_vector o) (zero_vector o) (zero_vector o)) (matrix_times exps va (scaled exps (determinant exps va) (adjugate exps va))) (scaled exps (Mul (determinant exps va) (determinant exps va)) (unit_matrix exps)) refl refl refl refl refl refl refl refl refl

  pub adjugate-matrix_times : (a : Matrix A) → matrix_times o (scaled o (determinant o a) (adjugate o a)) a ≡ scaled o (o.mul (determinant o a) (determinant o a)) (unit_matrix o)
  adjugate-matrix_times a = solve_matrix (env (o.num 0) a a a (zero_vector o) (zero_vector o) (zero_vector o)) (matrix_times exps (scaled exps (determinant exps va) (adjugate exps va)) va) (scaled exps (Mul (determinant exps va) (determinant exps va)) (unit_matrix exps)) refl refl refl refl refl refl refl refl refl

  pub determinant-matrix_times : (a b : Matrix A) → determinant o (matrix_times o a b) ≡ o.mul (determinant o a) (determinant o b)
  determinant-matrix_times a b = solve o r (env (o.num 0) a b a (zero_vector o) (zero_vector o) (zero_vector o)) (determinant exps (matrix_times exps va vb)) (Mul (determinant exps va) (determinant exps vb)) refl

  -- s + a t + (a b) u = s + a (t + b u)
  pub image_under-product : (a b : Matrix A) (s t u : Vector A) → vector_sum o (vector_sum o s (image_under o a t)) (image_under o (matrix_times o a b) u) ≡ vector_sum o s (image_under o a (vector_sum o t (image_under o b u)))
  image_under-product a b s t u = solve_vector (env (o.num 0) a b a s t u) (vector_sum exps (vector_sum exps ts (image_under exps va tt')) (image_under exps (matrix_times exps va vb) tu)) (vector_sum exps ts (image_under exps va (vector_sum exps tt' (image_under exps vb tu)))) refl refl refl

  pub image_under-minus : (a b : Matrix A) (s : Vector A) → image_under o a (minus_vector o (image_under o b s)) ≡ minus_vector o (image_under o (matrix_times o a b) s)
  image_under-minus a b s = solve_vector (env (o.num 0) a b a s s s) (image_under exps va (minus_vector exps (image_under exps vb ts))) (minus_vector exps (image_under exps (matrix_times exps va vb) ts)) refl refl refl

  pub less_itself : (s : Vector A) → vector_sum o s (minus_vector o (image_under o (unit_matrix o) s)) ≡ zero_vector o
  less_itself s = solve_vector (env (o.num 0) (unit_matrix o) (unit_matrix o) (unit_matrix o) s s s) (vector_sum exps ts (minus_vector exps (image_under exps (unit_matrix exps) ts))) (zero_vector exps) refl refl refl

  pub minus_and_itself : (s : Vector A) → vector_sum o (minus_vector o s) s ≡ zero_vector o
  minus_and_itself s = solve_vector (env (o.num 0) (unit_matrix o) (unit_matrix o) (unit_matrix o) s s s) (vector_sum exps (minus_vector exps ts) ts) (zero_vector exps) refl refl refl

  pub zero-image_under : (s : Vector A) → vector_sum o (zero_vector o) (image_under o (unit_matrix o) s) ≡ s
  zero-image_under s = solve_vector (env (o.num 0) (unit_matrix o) (unit_matrix o) (unit_matrix o) s s s) (vector_sum exps (zero_vector exps) (image_under exps (unit_matrix exps) ts)) ts refl refl refl

  pub image_under-zero : (a : Matrix A) (s : Vector A) → vector_sum o s (image_under o a (zero_vector o)) ≡ s
  image_under-zero a s = solve_vector (env (o.num 0) a a a s s s) (vector_sum exps ts (image_under exps va (zero_vector exps))) ts refl refl refl

  pub scaled-one : (a : Matrix A) → scaled o (o.num 1) a ≡ a
  scaled-one a = solve_matrix (env (o.num 0) a a a (zero_vector o) (zero_vector o) (zero_vector o)) (scaled exps (K 1) va) va refl refl refl refl refl refl refl refl refl

  pub square_of_product : (d e : A) → o.mul (o.mul d e) (o.mul d e) ≡ o.mul (o.mul d d) (o.mul e e)
  square_of_product d e = solve o r (at (o.num 0) (d ∷ e ∷ [])) (Mul (Mul (V 0) (V 1)) (Mul (V 0) (V 1))) (Mul (Mul (V 0) (V 0)) (Mul (V 1) (V 1))) refl

  -- a (s + c u) = a s + c (a u), for a variable c
  pub image_under-sum : (a : Matrix A) (c : A) (s u : Vector A) →
      image_under o a (vector_sum o s (record { x = o.mul c u.x; y = o.mul c u.y; z = o.mul c u.z }))
      ≡ vector_sum o (image_under o a s) (record { x = o.mul c (image_under o a u).x; y = o.mul c (image_under o a u).y; z = o.mul c (image_under o a u).z })
  image_under-sum a c s u =
      let v = image_under exps va tu in
      solve_vector (env (o.num 0) a a a s (record { x = c; y = c; z = c }) u)
      (image_under exps va (vector_sum exps ts (record { x = Mul (V 30) (V 33); y = Mul (V 30) (V 34); z = Mul (V 30) (V 35) })))
      (vector_sum exps (image_under exps va ts) (record { x = Mul (V 30) v.x; y = Mul (V 30) v.y; z = Mul (V 30) v.z })) refl refl refl

  pub image_under-difference : (a : Matrix A) (s t : Vector A) → image_under o a (vector_sum o s (minus_vector o t)) ≡ vector_sum o (image_under o a s) (minus_vector o (image_under o a t))
  image_under-difference a s t = solve_vector (env (o.num 0) a a a s t t) (image_under exps va (vector_sum exps ts (minus_vector exps tt'))) (vector_sum exps (image_under exps va ts) (minus_vector exps (image_under exps va tt'))) refl refl refl
