-- Laws of supercells.
--
-- cell_zero, cell_sum, cell_minus: the translations of a supercell are a group
-- cell_image, member-cell: a listed rotation and that of a member take cells to cells
-- cell_differ-sym, cell_differ-trans: differing by a cell is symmetric and transitive
-- cell-lattice: a translation of the supercell is a lattice vector
-- same-refl, same-sym, same-trans: being the same element is an equivalence
-- same-product, same-inverse: products and inverses of the same elements are the same
-- member-inverse: the inverse of a member is a member
-- reduced-cell, reduced-inside: the reduced vector differs by a cell, and is inside
-- reduced-lattice, reduced-same: that of a lattice vector is one, and vectors that differ by a cell have one
-- inside-unique: vectors inside that differ by a cell are equal
use Rattle.std.proofs.Common.{◌≡◌, refl, sym, ap, ◌∙◌, subst, ℕ, zero, suc, ◌<◌, ◌*◌, ℤ, pos, negsuc, ◌+ℤ◌, ◌*ℤ◌, List, [], ◌∷◌, length, arith}
use Rattle.std.proofs.lemmas.Int.{ints}
use Rattle.space_ops.specs.declared.op.Op.{Op}
use Rattle.space_ops.specs.declared.lattice.Lattice.{Lattice}
use Rattle.algebra.specs.Multiples.{IsMultiple}
use Rattle.algebra.specs.MultipleLaws.{multiple_zero, multiple_sum, multiple_minus, multiple_times, rem-within, rem-differs, within-unique}
use Rattle.algebra.specs.Whole.{whole}
use Rattle.algebra.specs.WholeLaws.{whole_ring}
use Rattle.space_ops.specs.Matrix.{Matrix, Vector, matrix_times, image_under, vector_sum, minus_vector, zero_vector}
use Rattle.space_ops.specs.MatrixLaws.{same_vector, image_under-difference}
use Rattle.space_ops.specs.Seitz.{Seitz, seitz_product, seitz_inverse, inverse_matrix}
use Rattle.space_ops.specs.Words.{op_at, vector_difference, cell_edges, IsLatticeVector}
use Rattle.space_ops.specs.LatticeLaws.{zero-lattice, edges-lattice, sum-lattice, difference_step, minus_difference, zero_difference}
use Rattle.space_ops.specs.WordLaws.{word-inverse}
use Rattle.space_ops.specs.GroupLaws.{word-unimodular, parent-word}
use Rattle.super_group.specs.Supercell.{entry, multiplier, IsSupercell, IsCell, IsSameElement, IsInside, reduced}
use Rattle.super_group.specs.Quotient.{SupercellGroup, IsQuotient, IsMember}

zero_times : (n : ℕ) (u : ℤ) → IsMultiple n (pos 0 *ℤ u)
zero_times n u = subst (IsMultiple n) (sym (none u)) (multiple_zero n) where
  none : (u : ℤ) → pos 0 *ℤ u ≡ pos 0
  none u = omega (arith, ints)

-- a cell is a multiple of the edge along each axis
cell_of : (d : List ℕ) (v : Vector ℤ) → IsMultiple (12 * multiplier d 0) v.x → IsMultiple (12 * multiplier d 1) v.y → IsMultiple (12 * multiplier d 2) v.z → IsCell d v
cell_of d v a b c = record { edges = record { x = a.quotient; y = b.quotient; z = c.quotient }; x = a.is; y = b.is; z = c.is }

pub cell_zero : (d : List ℕ) → IsCell d (zero_vector whole)
cell_zero d = cell_of d (zero_vector whole) (multiple_zero (12 * multiplier d 0)) (multiple_zero (12 * multiplier d 1)) (multiple_zero (12 * multiplier d 2))

pub cell_sum : (d : List ℕ) (v w : Vector ℤ) → IsCell d v → IsCell d w → IsCell d (vector_sum whole v w)
cell_sum d v w h k =
    cell_of d (vector_sum whole v w) (multiple_sum (12 * multiplier d 0) v.x w.x (record { quotient = h.edges.x; is = h.x }) (record { quotient = k.edges.x; is = k.x }))
    (multiple_sum (12 * multiplier d 1) v.y w.y (record { quotient = h.edges.y; is = h.y }) (record { quotient = k.edges.y; is = k.y })) (multiple_sum (12 * multiplier d 2) v.z w.z (record { quotient = h.edges.z; is = h.z }) (record { quotient = k.edges.z; is = k.z }))

pub cell_minus : (d : List ℕ) (v : Vector ℤ) → IsCell d v → IsCell d (minus_vector whole v)
cell_minus d v h =
    cell_of d (minus_vector whole v) (multiple_minus (12 * multiplier d 0) v.x (record { quotient = h.edges.x; is = h.x })) (multiple_minus (12 * multiplier d 1) v.y (record { quotient = h.edges.y; is = h.y }))
    (multiple_minus (12 * multiplier d 2) v.z (record { quotient = h.edges.z; is = h.z }))

-- axes that an entry joins have one multiplier
linked_edges : (ops : List Op) (d : List ℕ) → IsSupercell ops d → (n : ℕ) → n < length ops → (i j : ℕ) → i < 3 → j < 3
    → (entry (op_at ops n).rot i j ≡ pos 0 → ⊥) → multiplier d j ≡ multiplier d i
linked_edges ops d h n l i j p q f =
    sym (h.joined i j p q (record { chain = j ∷ []; is = (record { place = n; listed = l; first = p; second = q; nonzero = λ z. f z.0 }, refl) }))

-- an entry of a listed rotation times a multiple of the other axis's edge
entry_multiple : (ops : List Op) (d : List ℕ) → IsSupercell ops d → (n : ℕ) → n < length ops → (i j : ℕ) → i < 3 → j < 3
    → (a x : ℤ) → entry (op_at ops n).rot i j ≡ a → IsMultiple (12 * multiplier d j) x → IsMultiple (12 * multiplier d i) (a *ℤ x)
entry_multiple ops d h n l i j p q (pos zero) x e m = zero_times (12 * multiplier d i) x
entry_multiple ops d h n l i j p q (pos (suc a)) x e m =
    multiple_times (12 * multiplier d i) (pos (suc a)) x
    (subst (λ (k : ℕ). IsMultiple (12 * k) x) (linked_edges ops d h n l i j p q (λ z. let f : pos (suc a) ≡ pos 0 = sym e ∙ z in absurd (omega (arith, ints, f)))) m)
entry_multiple ops d h n l i j p q (negsuc a) x e m =
    multiple_times (12 * multiplier d i) (negsuc a) x
    (subst (λ (k : ℕ). IsMultiple (12 * k) x) (linked_edges ops d h n l i j p q (λ z. let f : negsuc a ≡ pos 0 = sym e ∙ z in absurd (omega (arith, ints, f)))) m)

-- a listed rotation takes cells to cells
pub cell_image : (ops : List Op) (d : List ℕ) → IsSupercell ops d → (n : ℕ) → n < length ops → (v : Vector ℤ) → IsCell d v
    → IsCell d (image_under whole (op_at ops n).rot v)
cell_image ops d h n l v c =
    let r = (op_at ops n).rot in
    let row : (i : ℕ) → i < 3 → IsMultiple (12 * multiplier d i) ((entry r i 0 *ℤ v.x +ℤ entry r i 1 *ℤ v.y) +ℤ entry r i 2 *ℤ v.z) =
    λ i p.
    multiple_sum (12 * multiplier d i) (entry r i 0 *ℤ v.x +ℤ entry r i 1 *ℤ v.y) (entry r i 2 *ℤ v.z)
    (multiple_sum (12 * multiplier d i) (entry r i 0 *ℤ v.x) (entry r i 1 *ℤ v.y)
    (entry_multiple ops d h n l i 0 p (omega arith) (entry r i 0) v.x refl (record { quotient = c.edges.x; is = c.x }))
    (entry_multiple ops d h n l i 1 p (omega arith) (entry r i 1) v.y refl (record { quotient = c.edges.y; is = c.y })))
    (entry_multiple ops d h n l i 2 p (omega arith) (entry r i 2) v.z refl (record { quotient = c.edges.z; is = c.z }))
    in
    cell_of d (image_under whole r v) (row 0 (omega arith)) (row 1 (omega arith)) (row 2 (omega arith))

-- a translation of the supercell is a lattice vector
pub cell-lattice : (lattice : Lattice) (d : List ℕ) (v : Vector ℤ) → IsCell d v → IsLatticeVector lattice v
cell-lattice lattice d v c =
    let u : Vector ℤ = record { x = pos (multiplier d 0) *ℤ c.edges.x; y = pos (multiplier d 1) *ℤ c.edges.y; z = pos (multiplier d 2) *ℤ c.edges.z } in
    subst (IsLatticeVector lattice)
    (same_vector (vector_sum whole (zero_vector whole) (cell_edges u)) v (along (multiplier d 0) c.edges.x v.x c.x) (along (multiplier d 1) c.edges.y v.y c.y)
    (along (multiplier d 2) c.edges.z v.z c.z))
    (edges-lattice lattice (zero_vector whole) u (zero-lattice lattice))
  where
    along : (m : ℕ) (u x : ℤ) → x ≡ pos (12 * m) *ℤ u → pos 0 +ℤ (pos 12 *ℤ (pos m *ℤ u)) ≡ x
    along m u x e = whole_ring.add_zero (pos 12 *ℤ (pos m *ℤ u)) ∙ sym (whole_ring.mul_assoc (pos 12) (pos m) u) ∙ sym e

pub cell_differ-sym : (d : List ℕ) (s t : Vector ℤ) → IsCell d (vector_difference s t) → IsCell d (vector_difference t s)
cell_differ-sym d s t h = subst (IsCell d) (minus_difference s t) (cell_minus d (vector_difference s t) h)

pub cell_differ-trans : (d : List ℕ) (r s t : Vector ℤ) → IsCell d (vector_difference r s) → IsCell d (vector_difference s t) → IsCell d (vector_difference r t)
cell_differ-trans d r s t h k = subst (IsCell d) (difference_step r s t) (cell_sum d (vector_difference r s) (vector_difference s t) h k)

pub same-refl : (d : List ℕ) (g : Seitz ℤ) → IsSameElement d g g
same-refl d g = record { rotation = refl; translation = subst (IsCell d) (zero_difference g.shift) (cell_zero d) }

pub same-sym : (d : List ℕ) (g h : Seitz ℤ) → IsSameElement d g h → IsSameElement d h g
same-sym d g h a = record { rotation = sym a.rotation; translation = cell_differ-sym d g.shift h.shift a.translation }

pub same-trans : (d : List ℕ) (g h k : Seitz ℤ) → IsSameElement d g h → IsSameElement d h k → IsSameElement d g k
same-trans d g h k a b = record { rotation = a.rotation ∙ b.rotation; translation = cell_differ-trans d g.shift h.shift k.shift a.translation b.translation }

-- the rotation of a member takes cells to cells
pub member-cell : (s : SupercellGroup) → IsQuotient s → (g : Seitz ℤ) → IsMember s g → (v : Vector ℤ) → IsCell s.d v → IsCell s.d (image_under whole g.rot v)
member-cell s h g m v c =
    let a = parent-word s.parent h.parent g m in
    subst (λ (r : Matrix ℤ). IsCell s.d (image_under whole r v)) (sym a.same.rotation) (cell_image s.parent.ops s.d h.supercell a.place a.below v c)

split_sums : (s t v w : Vector ℤ) → vector_sum whole (vector_difference s t) (vector_difference v w) ≡ vector_difference (vector_sum whole s v) (vector_sum whole t w)
split_sums s t v w = same_vector _ _ (omega (arith, ints)) (omega (arith, ints)) (omega (arith, ints))

pub same-product : (s : SupercellGroup) → IsQuotient s → (g g' h h' : Seitz ℤ) → IsMember s g → IsMember s g' → IsMember s h → IsMember s h'
    → IsSameElement s.d g g' → IsSameElement s.d h h' → IsSameElement s.d (seitz_product whole g h) (seitz_product whole g' h')
same-product s q g g' h h' mg mg' mh mh' a b = record {
  rotation = λ i. matrix_times whole (a.rotation i) (b.rotation i);
  translation =
      let image = image_under whole g.rot in
      subst (IsCell s.d)
      (split_sums g.shift g'.shift (image h.shift) (image h'.shift)
      ∙ ap (λ r. vector_difference (vector_sum whole g.shift (image h.shift)) (vector_sum whole g'.shift (image_under whole r h'.shift))) a.rotation)
      (cell_sum s.d (vector_difference g.shift g'.shift) (vector_difference (image h.shift) (image h'.shift)) a.translation
      (subst (IsCell s.d) (image_under-difference whole whole_ring g.rot h.shift h'.shift) (member-cell s q g mg (vector_difference h.shift h'.shift) b.translation)));
}

-- the inverse of a member
pub member-inverse : (s : SupercellGroup) → IsQuotient s → (g : Seitz ℤ) → IsMember s g → IsMember s (seitz_inverse whole g)
member-inverse s q g m =
    let u = q.parent.generators.unimodular in
    word-inverse s.parent.generators s.parent.lattice u g m (word-unimodular s.parent.generators s.parent.lattice u g m)

turned_difference : (s t : Vector ℤ) → minus_vector whole (vector_difference s t) ≡ vector_difference (minus_vector whole s) (minus_vector whole t)
turned_difference s t = same_vector _ _ (omega (arith, ints)) (omega (arith, ints)) (omega (arith, ints))

pub same-inverse : (s : SupercellGroup) → IsQuotient s → (g g' : Seitz ℤ) → IsMember s g → IsMember s g' → IsSameElement s.d g g'
    → IsSameElement s.d (seitz_inverse whole g) (seitz_inverse whole g')
same-inverse s q g g' mg mg' a = record {
  rotation = ap (inverse_matrix whole) a.rotation;
  translation =
      let image = image_under whole (inverse_matrix whole g.rot) in
      subst (IsCell s.d)
      (ap (minus_vector whole) (image_under-difference whole whole_ring (inverse_matrix whole g.rot) g.shift g'.shift)
      ∙ turned_difference (image g.shift) (image g'.shift)
      ∙ ap (λ r. vector_difference (minus_vector whole (image g.shift)) (minus_vector whole (image_under whole (inverse_matrix whole r) g'.shift))) a.rotation)
      (cell_minus s.d (image (vector_difference g.shift g'.shift))
      (member-cell s q (seitz_inverse whole g) (member-inverse s q g mg) (vector_difference g.shift g'.shift) a.translation));
}

edge_positive : (m : ℕ) → 0 < m → 0 < 12 * m
edge_positive m l = omega arith

pub reduced-cell : (d : List ℕ) → ((i : ℕ) → i < 3 → 0 < multiplier d i) → (v : Vector ℤ) → IsCell d (vector_difference (reduced d v) v)
reduced-cell d p v =
    cell_of d (vector_difference (reduced d v) v) (rem-differs (12 * multiplier d 0) (edge_positive _ (p 0 (omega arith))) v.x)
    (rem-differs (12 * multiplier d 1) (edge_positive _ (p 1 (omega arith))) v.y) (rem-differs (12 * multiplier d 2) (edge_positive _ (p 2 (omega arith))) v.z)

pub reduced-inside : (d : List ℕ) → ((i : ℕ) → i < 3 → 0 < multiplier d i) → (v : Vector ℤ) → IsInside d (reduced d v)
reduced-inside d p v = (
  rem-within (12 * multiplier d 0) (edge_positive _ (p 0 (omega arith))) v.x,
  rem-within (12 * multiplier d 1) (edge_positive _ (p 1 (omega arith))) v.y,
  rem-within (12 * multiplier d 2) (edge_positive _ (p 2 (omega arith))) v.z,
)

pub inside-unique : (d : List ℕ) (v w : Vector ℤ) → IsInside d v → IsInside d w → IsCell d (vector_difference v w) → v ≡ w
inside-unique d v w h k c =
    same_vector v w (within-unique (12 * multiplier d 0) v.x w.x h.0 k.0 (record { quotient = c.edges.x; is = c.x })) (within-unique (12 * multiplier d 1) v.y w.y h.1 k.1 (record { quotient = c.edges.y; is = c.y }))
    (within-unique (12 * multiplier d 2) v.z w.z h.2 k.2 (record { quotient = c.edges.z; is = c.z }))

less_more : (v w : Vector ℤ) → vector_sum whole (vector_difference w v) v ≡ w
less_more v w = same_vector _ _ (omega (arith, ints)) (omega (arith, ints)) (omega (arith, ints))

module _ (d : List ℕ) (p : (i : ℕ) → i < 3 → 0 < multiplier d i) where
  pub reduced-lattice : (lattice : Lattice) (v : Vector ℤ) → IsLatticeVector lattice v → IsLatticeVector lattice (reduced d v)
  reduced-lattice lattice v l =
      subst (IsLatticeVector lattice) (less_more v (reduced d v))
      (sum-lattice lattice (vector_difference (reduced d v) v) v (cell-lattice lattice d (vector_difference (reduced d v) v) (reduced-cell d p v)) l)

  pub reduced-same : (v w : Vector ℤ) → IsCell d (vector_difference v w) → reduced d v ≡ reduced d w
  reduced-same v w c =
      inside-unique d (reduced d v) (reduced d w) (reduced-inside d p v) (reduced-inside d p w)
      (cell_differ-trans d (reduced d v) v (reduced d w) (reduced-cell d p v)
      (cell_differ-trans d v w (reduced d w) c (cell_differ-sym d (reduced d w) w (reduced-cell d p w))))
