-- Phases of the translations of a supercell.
--
-- cell-whole: k.t is whole for each translation t of a supercell on which k is whole
-- whole-cell: a row with whole products is whole on the supercell
-- phase_of-cell: the phase of each such translation is 0
-- phase_of-cells: translations that differ by one have one phase
-- arms-whole: where k is whole on a supercell of the group, each arm is
-- multipliers-whole: a wave vector of a list is whole on the supercell of its multipliers
use Rattle.std.proofs.Common.{◌≡◌, refl, sym, ap, ◌∙◌, subst, ℕ, ◌<◌, ◌*◌, ◌/◌, ◌%◌, ℤ, pos, ◌+ℤ◌, ◌*ℤ◌, neg_ℤ, unsigned_abs, List, [], ◌∷◌, length, arith}
use Rattle.std.proofs.lemmas.Int.{ints}
use Rattle.std.proofs.Math.IntN.{pos-*ℤ-pos}
use Rattle.space_ops.specs.declared.op.Op.{Op}
use Rattle.algebra.specs.Whole.{whole}
use Rattle.algebra.specs.WholeLaws.{whole_ring}
use Rattle.algebra.specs.Solve.{V, exps, at}
use Rattle.algebra.specs.SolveLaws.{solve}
use Rattle.space_ops.specs.Matrix.{Matrix, Vector, image_under, unit_matrix}
use Rattle.space_ops.specs.Seitz.{inverse_matrix}
use Rattle.space_ops.specs.Words.{op_at, vector_difference}
use Rattle.space_ops.specs.Group.{Parent, IsParentGroup}
use Rattle.space_ops.specs.GroupLaws.{parent-inverse}
use Rattle.kstar.specs.declared.wave_vector.KVector.{KVector}
use Rattle.kstar.specs.Fraction.{part_of, IsWaveVector, row_of}
use Rattle.algebra.specs.Multiples.{IsMultiple}
use Rattle.kstar.specs.WaveVector.{row_value, HasPhase, turn_of, phase_of}
use Rattle.kstar.specs.WaveVectorLaws.{row_value-product}
use Rattle.algebra.specs.MultipleLaws.{multiple_sum, multiple_minus, multiple-rem}
use Rattle.kstar.specs.RowExpressions.{vk, vl, vt, env, value_exp, difference_exp}
use Rattle.kstar.specs.PhaseLaws.{phase_of-equal}
use Rattle.kstar.specs.Star.{image_at, WaveStar, IsStarOf}
use Rattle.super_group.specs.Supercell.{multiplier, edge, IsCell, IsSupercell, AreJoined}
use Rattle.super_group.specs.SupercellLaws.{cell_image}
use Rattle.super_group.specs.Multipliers.{denominator, AreMultipliers}
use Rattle.induce.specs.CellPhase.{IsWholeOn, AreWholeOn, HasDenominators}

gross : (a b : ℤ) → a ≡ pos 12 *ℤ b → pos 12 *ℤ a ≡ pos 144 *ℤ b
gross a b e = omega (arith, ints, e)

dozen : (a b : ℤ) → pos 12 *ℤ a ≡ pos 144 *ℤ b → a ≡ pos 12 *ℤ b
dozen a b e = omega (arith, ints, e)

-- x (12 m e) = 12 ((m x) e)
moved_factor : (t m x e : ℤ) → x *ℤ ((t *ℤ m) *ℤ e) ≡ t *ℤ ((m *ℤ x) *ℤ e)
moved_factor t m x e = solve whole whole_ring (at (pos 0) (t ∷ m ∷ x ∷ e ∷ [])) (exps.mul (V 2) (exps.mul (exps.mul (V 0) (V 1)) (V 3))) (exps.mul (V 0) (exps.mul (exps.mul (V 1) (V 2)) (V 3))) refl

-- one axis: the product with a multiple of the edge
along : (m : ℕ) (x v e : ℤ) → v ≡ pos (12 * m) *ℤ e → IsMultiple 12 (pos m *ℤ x) → IsMultiple 144 (x *ℤ v)
along m x v e f h = record {
  quotient = h.quotient *ℤ e;
  is = ap (λ y. x *ℤ y) (f ∙ ap (λ y. y *ℤ e) (sym (pos-*ℤ-pos 12 m))) ∙ moved_factor (pos 12) (pos m) x e
      ∙ gross ((pos m *ℤ x) *ℤ e) (h.quotient *ℤ e) (ap (λ y. y *ℤ e) h.is ∙ whole_ring.mul_assoc (pos 12) h.quotient e);
}

pub cell-whole : (d : List ℕ) (k v : Vector ℤ) → IsWholeOn d k → IsCell d v → IsMultiple 144 (row_value k v)
cell-whole d k v w c =
    multiple_sum 144 (k.x *ℤ v.x +ℤ k.y *ℤ v.y) (k.z *ℤ v.z)
    (multiple_sum 144 (k.x *ℤ v.x) (k.y *ℤ v.y) (along (multiplier d 0) k.x v.x c.edges.x c.x w.x) (along (multiplier d 1) k.y v.y c.edges.y c.y w.y))
    (along (multiplier d 2) k.z v.z c.edges.z c.z w.z)

-- so many edges of the supercell
edges_cell : (d : List ℕ) (e : Vector ℤ) → IsCell d (record { x = edge d 0 *ℤ e.x; y = edge d 1 *ℤ e.y; z = edge d 2 *ℤ e.z })
edges_cell d e = record { edges = e; x = refl; y = refl; z = refl }

value_along : (m : ℕ) (x v : ℤ) → v ≡ x *ℤ (pos (12 * m) *ℤ pos 1) → IsMultiple 144 v → IsMultiple 12 (pos m *ℤ x)
value_along m x v e h = record {
  quotient = h.quotient;
  is = dozen (pos m *ℤ x) h.quotient (
      ap (λ y. pos 12 *ℤ y) (sym (one_more (pos m *ℤ x))) ∙ sym (moved_factor (pos 12) (pos m) x (pos 1)) ∙ ap (λ y. x *ℤ (y *ℤ pos 1)) (pos-*ℤ-pos 12 m) ∙ sym e ∙ h.is);
} where
  one_more : (y : ℤ) → y *ℤ pos 1 ≡ y
  one_more y = whole_ring.mul_comm y (pos 1) ∙ whole_ring.mul_one y

only_x : (k : Vector ℤ) (a b c : ℤ) → row_value k (record { x = a *ℤ pos 1; y = b *ℤ pos 0; z = c *ℤ pos 0 }) ≡ k.x *ℤ (a *ℤ pos 1)
only_x k a b c =
    solve whole whole_ring (at (pos 0) (k.x ∷ k.y ∷ k.z ∷ a ∷ b ∷ c ∷ []))
    (value_exp vk (record { x = exps.mul (V 3) (exps.num 1); y = exps.mul (V 4) (exps.num 0); z = exps.mul (V 5) (exps.num 0) })) (exps.mul (V 0) (exps.mul (V 3) (exps.num 1))) refl

only_y : (k : Vector ℤ) (a b c : ℤ) → row_value k (record { x = a *ℤ pos 0; y = b *ℤ pos 1; z = c *ℤ pos 0 }) ≡ k.y *ℤ (b *ℤ pos 1)
only_y k a b c =
    solve whole whole_ring (at (pos 0) (k.x ∷ k.y ∷ k.z ∷ a ∷ b ∷ c ∷ []))
    (value_exp vk (record { x = exps.mul (V 3) (exps.num 0); y = exps.mul (V 4) (exps.num 1); z = exps.mul (V 5) (exps.num 0) })) (exps.mul (V 1) (exps.mul (V 4) (exps.num 1))) refl

only_z : (k : Vector ℤ) (a b c : ℤ) → row_value k (record { x = a *ℤ pos 0; y = b *ℤ pos 0; z = c *ℤ pos 1 }) ≡ k.z *ℤ (c *ℤ pos 1)
only_z k a b c =
    solve whole whole_ring (at (pos 0) (k.x ∷ k.y ∷ k.z ∷ a ∷ b ∷ c ∷ []))
    (value_exp vk (record { x = exps.mul (V 3) (exps.num 0); y = exps.mul (V 4) (exps.num 0); z = exps.mul (V 5) (exps.num 1) })) (exps.mul (V 2) (exps.mul (V 5) (exps.num 1))) refl

pub whole-cell : (d : List ℕ) (k : Vector ℤ) → ((v : Vector ℤ) → IsCell d v → IsMultiple 144 (row_value k v)) → IsWholeOn d k
whole-cell d k on = record {
  x = value_along (multiplier d 0) k.x _ (only_x k (edge d 0) (edge d 1) (edge d 2)) (on _ (edges_cell d (record { x = pos 1; y = pos 0; z = pos 0 })));
  y = value_along (multiplier d 1) k.y _ (only_y k (edge d 0) (edge d 1) (edge d 2)) (on _ (edges_cell d (record { x = pos 0; y = pos 1; z = pos 0 })));
  z = value_along (multiplier d 2) k.z _ (only_z k (edge d 0) (edge d 1) (edge d 2)) (on _ (edges_cell d (record { x = pos 0; y = pos 0; z = pos 1 })));
}

less_zero : (x : ℤ) → x ≡ x +ℤ neg_ℤ (pos 0)
less_zero x = omega (arith, ints)

six : (x : ℤ) → pos 144 *ℤ x ≡ pos 6 *ℤ (pos 24 *ℤ x)
six x = omega (arith, ints)

HasPhase-whole : (k t : Vector ℤ) → IsMultiple 144 (row_value k t) → HasPhase k t
HasPhase-whole k t h = record { quotient = pos 24 *ℤ h.quotient; is = h.is ∙ six h.quotient }

row_value-less : (k s t : Vector ℤ) → row_value k (vector_difference s t) ≡ row_value k s +ℤ neg_ℤ (row_value k t)
row_value-less k s t =
    let e = unit_matrix whole in
    solve whole whole_ring (env k s k t e e) (value_exp vk (difference_exp vl vt)) (exps.add (value_exp vk vl) (exps.neg (value_exp vk vt))) refl

-- translations that differ by one of the supercell have one phase
pub phase_of-cells : (d : List ℕ) (k s t : Vector ℤ) → IsWholeOn d k → HasPhase k s → HasPhase k t → IsCell d (vector_difference s t) → phase_of k s ≡ phase_of k t
phase_of-cells d k s t w h g c = phase_of-equal k k s t h g (subst (IsMultiple 144) (row_value-less k s t) (cell-whole d k (vector_difference s t) w c))

turn_of-whole : (x : ℤ) → IsMultiple 144 x → turn_of x ≡ 0
turn_of-whole x m = ap (λ y. unsigned_abs y / 6) (multiple-rem 144 (omega arith) (neg_ℤ x) (multiple_minus 144 x m))

pub phase_of-cell : (d : List ℕ) (k v : Vector ℤ) → IsWholeOn d k → IsCell d v → phase_of k v ≡ 0
unfolding phase_of
phase_of-cell d k v w c = turn_of-whole (row_value k v) (cell-whole d k v w c)

-- the images of k are whole where k is
pub image-whole : (p : Parent) → IsParentGroup p → (d : List ℕ) → IsSupercell p.ops d → (k : Vector ℤ) → IsWholeOn d k → (r : ℕ) → r < length p.ops → IsWholeOn d (image_at p k r)
image-whole p h d c k w r l =
    let b = inverse_matrix whole (op_at p.ops r).rot in
    let a = parent-inverse p h r l in
    whole-cell d (image_at p k r) (λ v e.
    subst (IsMultiple 144) (sym (row_value-product k b v))
    (cell-whole d k (image_under whole b v) w
    (subst (λ (m : Matrix ℤ). IsCell d (image_under whole m v)) (sym a.same.rotation) (cell_image p.ops d c a.place a.below v e))))

pub arms-whole : (p : Parent) → IsParentGroup p → (d : List ℕ) → IsSupercell p.ops d → (k : Vector ℤ) (s : WaveStar) → IsStarOf p k s → IsWholeOn d k → AreWholeOn d s
arms-whole p h d c k s star w i l = subst (IsWholeOn d) (sym (star.arms.image i l)) (image-whole p h d c k w _ (star.by.below i l))

joined-self : (ops : List Op) (i : ℕ) → AreJoined ops i i
joined-self ops i = record { chain = []; is = refl }

exact_quotient : (m n : ℕ) → 0 < n → m % n ≡ 0 → n * (m / n) ≡ m
exact_quotient m n l e = omega (arith, e)

-- m = den a and 12 = den b: m (num b) = 12 (a num)
cross : (d a n b : ℤ) → (d *ℤ a) *ℤ (n *ℤ b) ≡ (d *ℤ b) *ℤ (a *ℤ n)
cross d a n b = solve whole whole_ring (at (pos 0) (d ∷ a ∷ n ∷ b ∷ [])) (exps.mul (exps.mul (V 0) (V 1)) (exps.mul (V 2) (V 3))) (exps.mul (exps.mul (V 0) (V 3)) (exps.mul (V 1) (V 2))) refl

twelfths-whole : (m den : ℕ) (num : ℤ) → 0 < den → 12 % den ≡ 0 → m % den ≡ 0 → IsMultiple 12 (pos m *ℤ (num *ℤ pos (12 / den)))
twelfths-whole m den num l e f = record {
  quotient = pos (m / den) *ℤ num;
  is = ap (λ x. x *ℤ (num *ℤ pos (12 / den))) (sym (pos-*ℤ-pos den (m / den) ∙ ap pos (exact_quotient m den l f)))
      ∙ cross (pos den) (pos (m / den)) num (pos (12 / den)) ∙ ap (λ x. x *ℤ (pos (m / den) *ℤ num)) (pos-*ℤ-pos den (12 / den) ∙ ap pos (exact_quotient 12 den l e));
}

pub multipliers-whole : (ops : List Op) (dens : List (List ℕ)) (d : List ℕ) → AreMultipliers ops dens d → (n : ℕ) (k : KVector) → IsWaveVector k → HasDenominators dens n k → IsWholeOn d (row_of k)
multipliers-whole ops dens d m n k w h =
    let rest : (i : ℕ) → i < 3 → (den : ℕ) → denominator dens n i ≡ den → multiplier d i % den ≡ 0 = λ i l den e. subst (λ x. multiplier d i % x ≡ 0) e (m.common i l n i h.listed l (joined-self ops i)) in
    record {
      x = twelfths-whole (multiplier d 0) (part_of k 0).den (part_of k 0).num w.first.positive w.first.divides (rest 0 (omega arith) (part_of k 0).den h.first);
      y = twelfths-whole (multiplier d 1) (part_of k 1).den (part_of k 1).num w.second.positive w.second.divides (rest 1 (omega arith) (part_of k 1).den h.second);
      z = twelfths-whole (multiplier d 2) (part_of k 2).den (part_of k 2).num w.third.positive w.third.divides (rest 2 (omega arith) (part_of k 2).den h.third);
    }
