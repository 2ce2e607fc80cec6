-- Laws of wave vectors.
--
-- equivalent-refl, equivalent-sym, equivalent-trans: equivalence is an equivalence
-- row_value-product: (k a).t = k.(a t)
-- row_value-sum, row_value-difference: sums and differences
-- whole-edges, whole-centrings, whole-generated: a row is whole exactly where it is on the unit translations and the centring vectors
-- phases-lattice: where k.c is a multiple of 1/24 for each centring vector, k.t is for each lattice vector
use Rattle.std.proofs.Common.{◌≡◌, refl, sym, ap, ◌∙◌, subst, ℕ, ◌<◌, ℤ, pos, ◌+ℤ◌, ◌*ℤ◌, neg_ℤ, length, arith}
use Rattle.std.proofs.lemmas.Int.{ints}
use Rattle.space_ops.specs.declared.lattice.Lattice.{Lattice}
use Rattle.algebra.specs.Whole.{whole}
use Rattle.algebra.specs.WholeLaws.{whole_ring}
use Rattle.algebra.specs.Solve.{V, exps}
use Rattle.algebra.specs.SolveLaws.{solve}
use Rattle.space_ops.specs.Matrix.{Matrix, Vector, image_under, vector_sum, zero_vector, unit_matrix}
use Rattle.space_ops.specs.Lattice.{centrings_of}
use Rattle.space_ops.specs.Words.{centring_at, cell_edges, vector_difference, IsLatticeVector}
use Rattle.space_ops.specs.LatticeLaws.{zero-lattice, edges-lattice, centring-lattice}
use Rattle.kstar.specs.RowExpressions.{vk, vl, vm, vt, va, env, value_exp, product_exp, difference_exp}
use Rattle.algebra.specs.MultipleLaws.{multiple_zero, multiple_sum, multiple_minus}
use Rattle.algebra.specs.Multiples.{IsMultiple}
use Rattle.kstar.specs.WaveVector.{row_value, row_product, IsWhole, AreEquivalent, HasPhase, HasPhases}

-- (k a).t = k.(a t)
pub row_value-product : (k : Vector ℤ) (a : Matrix ℤ) (t : Vector ℤ) → row_value (row_product k a) t ≡ row_value k (image_under whole a t)
row_value-product k a t = solve whole whole_ring (env k k k t a a) (value_exp (product_exp vk va) vt) (value_exp vk (image_under exps va vt)) refl

-- k.(s + t) = k.s + k.t
pub row_value-sum : (k s t : Vector ℤ) → row_value k (vector_sum whole s t) ≡ row_value k s +ℤ row_value k t
row_value-sum k s t =
    let e = unit_matrix whole in
    solve whole whole_ring (env k s k t e e) (value_exp vk (vector_sum exps vl vt)) (exps.add (value_exp vk vl) (value_exp vk vt)) refl

-- (k - l).t = k.t - l.t
pub row_value-difference : (k l t : Vector ℤ) → row_value (vector_difference k l) t ≡ row_value k t +ℤ neg_ℤ (row_value l t)
row_value-difference k l t =
    let e = unit_matrix whole in
    solve whole whole_ring (env k l k t e e) (value_exp (difference_exp vk vl) vt) (exps.add (value_exp vk vt) (exps.neg (value_exp vl vt))) refl

itself : (k t : Vector ℤ) → pos 0 ≡ row_value (vector_difference k k) t
itself k t = let e = unit_matrix whole in solve whole whole_ring (env k k k t e e) (exps.num 0) (value_exp (difference_exp vk vk) vt) refl

turned : (k l t : Vector ℤ) → neg_ℤ (row_value (vector_difference k l) t) ≡ row_value (vector_difference l k) t
turned k l t =
    let e = unit_matrix whole in
    solve whole whole_ring (env k l k t e e) (exps.neg (value_exp (difference_exp vk vl) vt)) (value_exp (difference_exp vl vk) vt) refl

joined : (k l m t : Vector ℤ) → row_value (vector_difference k l) t +ℤ row_value (vector_difference l m) t ≡ row_value (vector_difference k m) t
joined k l m t =
    let e = unit_matrix whole in
    solve whole whole_ring (env k l m t e e) (exps.add (value_exp (difference_exp vk vl) vt) (value_exp (difference_exp vl vm) vt)) (value_exp (difference_exp vk vm) vt) refl

module _ (lattice : Lattice) where
  pub equivalent-refl : (k : Vector ℤ) → AreEquivalent lattice k k
  equivalent-refl k t h = subst (IsMultiple 144) (itself k t) (multiple_zero 144)

  pub equivalent-sym : (k l : Vector ℤ) → AreEquivalent lattice k l → AreEquivalent lattice l k
  equivalent-sym k l e t h = subst (IsMultiple 144) (turned k l t) (multiple_minus 144 (row_value (vector_difference k l) t) (e t h))

  pub equivalent-trans : (k l m : Vector ℤ) → AreEquivalent lattice k l → AreEquivalent lattice l m → AreEquivalent lattice k m
  equivalent-trans k l m e f t h =
      subst (IsMultiple 144) (joined k l m t) (multiple_sum 144 (row_value (vector_difference k l) t) (row_value (vector_difference l m) t) (e t h) (f t h))

-- the value on a centring vector and whole cell edges
edges_value : (k c u : Vector ℤ) → row_value k (vector_sum whole c (cell_edges u)) ≡ row_value k c +ℤ pos 12 *ℤ row_value k u
edges_value k c u =
    let e = unit_matrix whole in
    solve whole whole_ring (env k (record { x = pos 12; y = pos 12; z = pos 12 }) c u e e)
    (value_exp vk (vector_sum exps vm (record { x = exps.mul (V 3) (V 9); y = exps.mul (V 3) (V 10); z = exps.mul (V 3) (V 11) })))
    (exps.add (value_exp vk vm) (exps.mul (V 3) (value_exp vk vt))) refl

twelve_times : (q u : Vector ℤ) → row_value (cell_edges q) u ≡ pos 12 *ℤ row_value q u
twelve_times q u =
    let e = unit_matrix whole in
    solve whole whole_ring (env q (record { x = pos 12; y = pos 12; z = pos 12 }) q u e e)
    (value_exp (record { x = exps.mul (V 3) (V 0); y = exps.mul (V 3) (V 1); z = exps.mul (V 3) (V 2) }) vt)
    (exps.mul (V 3) (value_exp vk vt)) refl

gross : (x y : ℤ) → x ≡ pos 12 *ℤ y → pos 12 *ℤ x ≡ pos 144 *ℤ y
gross x y e = omega (arith, ints, e)

dozen : (x y : ℤ) → pos 12 *ℤ x ≡ pos 144 *ℤ y → x ≡ pos 12 *ℤ y
dozen x y e = omega (arith, ints, e)

six : (x : ℤ) → pos 12 *ℤ x ≡ pos 6 *ℤ (x +ℤ x)
six x = omega (arith, ints)

-- whole multiples of 12 in each coordinate
pub record IsDozens (k : Vector ℤ) : Type 0 where
  pub x : IsMultiple 12 k.x
  pub y : IsMultiple 12 k.y
  pub z : IsMultiple 12 k.z

pub whole-generated : (lattice : Lattice) (k : Vector ℤ) → IsDozens k
    → ((i : ℕ) → i < length (centrings_of lattice) → IsMultiple 144 (row_value k (centring_at lattice i))) → IsWhole lattice k
whole-generated lattice k d on t h =
    let q : Vector ℤ = record { x = d.x.quotient; y = d.y.quotient; z = d.z.quotient } in
    let c = centring_at lattice h.centring in
    let e : row_value k h.edges ≡ pos 12 *ℤ row_value q h.edges =
    ap (λ (r : Vector ℤ). row_value r h.edges) (λ i. record { x = d.x.is i; y = d.y.is i; z = d.z.is i }) ∙ twelve_times q h.edges in
    subst (IsMultiple 144) (sym (ap (row_value k) h.is ∙ edges_value k c h.edges))
    (multiple_sum 144 (row_value k c) (pos 12 *ℤ row_value k h.edges) (on h.centring h.listed)
    (record { quotient = row_value q h.edges; is = gross (row_value k h.edges) (row_value q h.edges) e }))

pub whole-centrings : (lattice : Lattice) (k : Vector ℤ) → IsWhole lattice k → (i : ℕ) → i < length (centrings_of lattice) → IsMultiple 144 (row_value k (centring_at lattice i))
whole-centrings lattice k w i l = w (centring_at lattice i) (centring-lattice lattice i l)

edge : (k u : Vector ℤ) → row_value k (vector_sum whole (zero_vector whole) (cell_edges u)) ≡ pos 12 *ℤ row_value k u
edge k u = edges_value k (zero_vector whole) u ∙ on_zero k (pos 12 *ℤ row_value k u) where
  on_zero : (k : Vector ℤ) (y : ℤ) → row_value k (zero_vector whole) +ℤ y ≡ y
  on_zero k y =
      let e = unit_matrix whole in
      solve whole whole_ring (env k (record { x = y; y = y; z = y }) k k e e) (exps.add (value_exp vk (zero_vector exps)) (V 3)) (V 3) refl

on_x : (k : Vector ℤ) → row_value k (record { x = pos 1; y = pos 0; z = pos 0 }) ≡ k.x
on_x k = let e = unit_matrix whole in solve whole whole_ring (env k k k k e e) (value_exp vk (record { x = exps.num 1; y = exps.num 0; z = exps.num 0 })) (V 0) refl

on_y : (k : Vector ℤ) → row_value k (record { x = pos 0; y = pos 1; z = pos 0 }) ≡ k.y
on_y k = let e = unit_matrix whole in solve whole whole_ring (env k k k k e e) (value_exp vk (record { x = exps.num 0; y = exps.num 1; z = exps.num 0 })) (V 1) refl

on_z : (k : Vector ℤ) → row_value k (record { x = pos 0; y = pos 0; z = pos 1 }) ≡ k.z
on_z k = let e = unit_matrix whole in solve whole whole_ring (env k k k k e e) (value_exp vk (record { x = exps.num 0; y = exps.num 0; z = exps.num 1 })) (V 2) refl

pub whole-edges : (lattice : Lattice) (k : Vector ℤ) → IsWhole lattice k → IsDozens k
whole-edges lattice k w = record {
  x = coordinate (record { x = pos 1; y = pos 0; z = pos 0 }) k.x (on_x k);
  y = coordinate (record { x = pos 0; y = pos 1; z = pos 0 }) k.y (on_y k);
  z = coordinate (record { x = pos 0; y = pos 0; z = pos 1 }) k.z (on_z k);
} where
  coordinate : (u : Vector ℤ) (x : ℤ) → row_value k u ≡ x → IsMultiple 12 x
  coordinate u x e =
      let h = w (vector_sum whole (zero_vector whole) (cell_edges u)) (edges-lattice lattice (zero_vector whole) u (zero-lattice lattice)) in
      record { quotient = h.quotient; is = dozen x h.quotient (ap (λ y. pos 12 *ℤ y) (sym e) ∙ sym (edge k u) ∙ h.is) }

-- where k.c is a multiple of 1/24 for each centring vector, k.t is for each lattice vector
pub phases-lattice : (lattice : Lattice) (k : Vector ℤ) → HasPhases lattice k → (t : Vector ℤ) → IsLatticeVector lattice t → HasPhase k t
phases-lattice lattice k p t h =
    let c = centring_at lattice h.centring in
    subst (IsMultiple 6) (sym (ap (row_value k) h.is ∙ edges_value k c h.edges))
    (multiple_sum 6 (row_value k c) (pos 12 *ℤ row_value k h.edges) (p h.centring h.listed)
    (record { quotient = row_value k h.edges +ℤ row_value k h.edges; is = six (row_value k h.edges) }))
