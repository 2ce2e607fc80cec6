-- Laws of a listed group.
--
-- no_more_rotations: a short list of small rotations that has those of all words refutes too many rotations
-- parent-not_many, parent-not_extra: a listed group has neither too many rotations nor an extra translation
-- word-unimodular: the rotation of a word has determinant 1 or -1
-- parent-word: the value of each word is a lattice translation after a listed operation
-- parent-product, parent-inverse: so are products and inverses of listed operations
-- parent-keeps: listed rotations take lattice vectors to lattice vectors
-- place_of ops r, place_of-is, rotation_group ops: the number of a rotation in a list; the group of these numbers
-- rotation_group-lawful: the numbers of a listed group's rotations are a group
-- by_bool: a property of one of two numbers, by a test
use Rattle.std.proofs.Common.{◌≡◌, refl, sym, ap, ◌∙◌, subst, ℕ, zero, suc, ◌<◌, ◌≤◌, inl, inr, Bool, true, false, ℤ, List, [], ◌∷◌, length, cond, arith}
use Rattle.std.proofs.lemmas.Int.{ints}
use Rattle.std.proofs.lemmas.Cmp.{lists_total, int_cmp_total, tied_itself}
use Rattle.std.proofs.lemmas.Map.Lookups.{exact_signed}
use Rattle.std.specs.Ordering.{int_cmp, is_eq}
use Rattle.std.specs.Cmp.Lexicographic.{slice_cmp}
use Rattle.std.specs.declared.cmp.Ordering.{Ordering}
use Rattle.std.specs.declared.cmp.Ordering.TheVariants.{Less, Equal, Greater}
use Rattle.algebra.specs.NumberedGroup.{Group, IsGroup}
use Rattle.space_ops.specs.declared.op.Op.{Op}
use Rattle.space_ops.specs.declared.lattice.Lattice.{Lattice}
use Rattle.algebra.specs.Whole.{whole}
use Rattle.algebra.specs.WholeLaws.{whole_ring}
use Rattle.space_ops.specs.Matrix.{Matrix, Vector, matrix_times, image_under, vector_sum, unit_matrix}
use Rattle.space_ops.specs.MatrixLaws.{same_vector, matrix_times-unit, matrix_times-assoc, unit-matrix_times}
use Rattle.space_ops.specs.Seitz.{Seitz, seitz_product, seitz_inverse, seitz_identity, inverse_matrix}
use Rattle.space_ops.specs.Op.{seitz_of, matrix_of, rows_of, IsSmallMatrix, IsUnimodular}
use Rattle.space_ops.specs.OpLaws.{product_unimodular, inverse_unimodular, back-matrix}
use Rattle.space_ops.specs.Words.{op_at, vector_difference, IsLatticeVector, AreSteps, word_value, IsWord, HasTooManyRotations, HasExtraTranslation}
use Rattle.space_ops.specs.WordLaws.{AreUnimodular, translation, word-product, word-inverse, word-lattice, more_less}
use Rattle.space_ops.specs.LeastShiftLaws.{lists_exact}
use Rattle.space_ops.specs.Group.{Parent, IsListed, IsParentGroup, matrix_cmp}
use Rattle.algebra.specs.PigeonholeLaws.{pigeonhole}

-- r is the rotation of a listed operation
abbrev pub HasRotation : List Op → Matrix ℤ → Type 0
HasRotation ops r = (j : ℕ) × (j < length ops) × (r ≡ (op_at ops j).rot)

pub no_more_rotations : (G : List Op) (L : Lattice) (H : List Op) → length H ≤ 48 → ((i : ℕ) → i < length H → IsSmallMatrix (op_at H i).rot)
    → ((g : Seitz ℤ) → IsWord G L g → HasRotation H g.rot) → HasTooManyRotations G L → ⊥
no_more_rotations G L H few small all (inl m) =
    let at : (i : ℕ) → i ≤ 48 → HasRotation H (m.number i) = λ i l. let w = m.are_words i l in subst (HasRotation H) w.rotation (all w.element w.is_word) in
    let k : 49 ≤ length H =
    pigeonhole 49 (length H) (λ i l. (at i (omega arith)).0) (λ i l. (at i (omega arith)).1)
    (λ i j l k e. m.apart i j (omega arith) (omega arith) ((at i (omega arith)).2 ∙ ap (λ n. (op_at H n).rot) e ∙ sym (at j (omega arith)).2)) in
    absurd (omega arith)
no_more_rotations G L H few small all (inr m) =
    let w = m.is_word in
    let h = all w.element w.is_word in
    m.not_small (subst IsSmallMatrix (sym h.2 ∙ w.rotation) (small h.0 h.1))

steps-unimodular : (G : List Op) (L : Lattice) → AreUnimodular G → (w : List (Seitz ℤ)) → AreSteps G L w → IsUnimodular (word_value w).rot
steps-unimodular G L u [] h = refl
steps-unimodular G L u (s ∷ w) (inl (i, l, e), k) =
    product_unimodular s.rot (word_value w).rot (subst (λ (g : Seitz ℤ). IsUnimodular g.rot) (sym e) (u i l)) (steps-unimodular G L u w k)
steps-unimodular G L u (s ∷ w) (inr (inl (i, l, e)), k) =
    product_unimodular s.rot (word_value w).rot (subst (λ (g : Seitz ℤ). IsUnimodular g.rot) (sym e) (inverse_unimodular (op_at G i).rot (u i l))) (steps-unimodular G L u w k)
steps-unimodular G L u (s ∷ w) (inr (inr t), k) = product_unimodular s.rot (word_value w).rot (subst IsUnimodular (sym t.0) refl) (steps-unimodular G L u w k)

pub word-unimodular : (G : List Op) (L : Lattice) → AreUnimodular G → (g : Seitz ℤ) → IsWord G L g → IsUnimodular g.rot
word-unimodular G L u g w = subst (λ (x : Seitz ℤ). IsUnimodular x.rot) w.value (steps-unimodular G L u w.word w.steps)

module _ (p : Parent) (h : IsParentGroup p) where
  pub parent-word : (g : Seitz ℤ) → IsWord p.generators p.lattice g → IsListed p.lattice p.ops g
  parent-word = h.list.complete

  pub parent-not_many : HasTooManyRotations p.generators p.lattice → ⊥
  parent-not_many = no_more_rotations p.generators p.lattice p.ops h.few h.small (λ g w. let a = h.list.complete g w in (a.place, a.below, a.same.rotation))

  pub parent-not_extra : HasExtraTranslation p.generators p.lattice → ⊥
  parent-not_extra x =
      let a = h.list.complete x.extra x.is_word in
      let k : a.place ≡ 0 = h.list.apart a.place 0 a.below h.list.some (sym a.same.rotation ∙ x.is_pure ∙ ap (λ (g : Seitz ℤ). g.rot) (sym h.list.identity)) in
      let e : op_at p.ops a.place ≡ seitz_identity whole = ap (op_at p.ops) k ∙ h.list.identity in
      x.outside (subst (IsLatticeVector p.lattice) (ap (λ (g : Seitz ℤ). vector_difference x.extra.shift g.shift) e ∙ less_nothing x.extra.shift) a.same.translation)
    where
      less_nothing : (v : Vector ℤ) → vector_difference v (seitz_identity whole).shift ≡ v
      less_nothing v = same_vector _ _ (omega (arith, ints)) (omega (arith, ints)) (omega (arith, ints))

  pub parent-unimodular : (i : ℕ) → i < length p.ops → IsUnimodular (op_at p.ops i).rot
  parent-unimodular i l = word-unimodular p.generators p.lattice h.generators.unimodular (op_at p.ops i) (h.list.are_words i l)

  pub parent-product : (i j : ℕ) → i < length p.ops → j < length p.ops → IsListed p.lattice p.ops (seitz_product whole (op_at p.ops i) (op_at p.ops j))
  parent-product i j l m =
      h.list.complete (seitz_product whole (op_at p.ops i) (op_at p.ops j))
      (word-product p.generators p.lattice (op_at p.ops i) (op_at p.ops j) (h.list.are_words i l) (h.list.are_words j m))

  pub parent-inverse : (i : ℕ) → i < length p.ops → IsListed p.lattice p.ops (seitz_inverse whole (op_at p.ops i))
  parent-inverse i l =
      h.list.complete (seitz_inverse whole (op_at p.ops i))
      (word-inverse p.generators p.lattice h.generators.unimodular (op_at p.ops i) (h.list.are_words i l) (parent-unimodular i l))

  -- the image of a lattice vector, from the product with its translation
  pub parent-keeps : (i : ℕ) → i < length p.ops → (v : Vector ℤ) → IsLatticeVector p.lattice v → IsLatticeVector p.lattice (image_under whole (op_at p.ops i).rot v)
  parent-keeps i l v k =
      let g = op_at p.ops i in
      let a =
      h.list.complete (seitz_product whole g (translation v)) (word-product p.generators p.lattice g (translation v) (h.list.are_words i l) (word-lattice p.generators p.lattice v k)) in
      let e : a.place ≡ i = h.list.apart a.place i a.below l (sym a.same.rotation ∙ matrix_times-unit whole whole_ring g.rot) in
      subst (IsLatticeVector p.lattice)
      (ap (λ n. vector_difference (vector_sum whole g.shift (image_under whole g.rot v)) (op_at p.ops n).shift) e ∙ more_less g.shift (image_under whole g.rot v))
      a.same.translation

-- whether an operation has this rotation
abbrev pub has_rotation : Matrix ℤ → Op → Bool
has_rotation r op = is_eq (matrix_cmp (seitz_of op).rot r)

-- the number of the first operation with this rotation
unfoldable pub place_of : List Op → Matrix ℤ → ℕ
place_of [] r = 0
place_of (op ∷ ops) r = cond (has_rotation r op) 0 (suc (place_of ops r))

-- numbers multiply as their rotations
abbrev pub rotation_group : List Op → Group
rotation_group ops = record {
  order = length ops;
  product = λ a b. place_of ops (matrix_times whole (op_at ops a).rot (op_at ops b).rot);
  inverse = λ a. place_of ops (inverse_matrix whole (op_at ops a).rot);
}

matrix_equal : (a b : Matrix ℤ) → matrix_cmp a b ≡ Equal → a ≡ b
matrix_equal a b e =
    let f : rows_of a ≡ rows_of b = lists_exact (slice_cmp int_cmp) (lists_exact int_cmp exact_signed) (rows_of a) (rows_of b) e in
    ap matrix_of f

has-itself : (r : Matrix ℤ) (op : Op) → (seitz_of op).rot ≡ r → has_rotation r op ≡ true
has-itself r op e = ap (λ a. is_eq (matrix_cmp a r)) e ∙ ap is_eq (tied_itself (lists_total (lists_total int_cmp_total)) (rows_of r))

has-means : (r : Matrix ℤ) (op : Op) → has_rotation r op ≡ true → (seitz_of op).rot ≡ r
has-means r op e = matrix_equal (seitz_of op).rot r (equal (matrix_cmp (seitz_of op).rot r) e) where
  equal : (o : Ordering) → is_eq o ≡ true → o ≡ Equal
  equal Less e = let d : false ≡ true = e in cc
  equal Equal e = refl
  equal Greater e = let d : false ≡ true = e in cc

-- one of two numbers, by a test
pub by_bool : (b : Bool) (Q : ℕ → Type 0) (n : ℕ) → (b ≡ true → Q 0) → (b ≡ false → Q n) → Q (cond b 0 n)
by_bool true Q n f g = f refl
by_bool false Q n f g = g refl

later : (op : Op) (ops : List Op) (r : Matrix ℤ) → HasRotation (op ∷ ops) r → has_rotation r op ≡ false → HasRotation ops r
later op ops r (zero, l, e) f = let d : true ≡ false = sym (has-itself r op (sym e)) ∙ f in cc
later op ops r (suc j, l, e) f = (j, omega arith, e)

-- the place of a rotation that is listed has it
pub place_of-is : (ops : List Op) (r : Matrix ℤ) → HasRotation ops r → (place_of ops r < length ops) × ((op_at ops (place_of ops r)).rot ≡ r)
unfolding place_of
place_of-is [] r (j, l, e) = absurd (omega arith)
place_of-is (op ∷ ops) r k =
    by_bool (has_rotation r op) (λ n. (n < suc (length ops)) × ((op_at (op ∷ ops) n).rot ≡ r)) (suc (place_of ops r)) (λ t. (omega arith, has-means r op t))
    (λ f. let q = place_of-is ops r (later op ops r k f) in let l : place_of ops r < length ops = q.0 in (omega arith, q.1))

module _ (p : Parent) (h : IsParentGroup p) where
  -- the rotation of a place, and the place of a rotation
  product_at : (a b : ℕ) → a < length p.ops → b < length p.ops
      → (place_of p.ops (matrix_times whole (op_at p.ops a).rot (op_at p.ops b).rot) < length p.ops)
      × ((op_at p.ops (place_of p.ops (matrix_times whole (op_at p.ops a).rot (op_at p.ops b).rot))).rot ≡ matrix_times whole (op_at p.ops a).rot (op_at p.ops b).rot)
  product_at a b l m =
      let k = parent-product p h a b l m in
      place_of-is p.ops (matrix_times whole (op_at p.ops a).rot (op_at p.ops b).rot) (k.place, k.below, k.same.rotation)

  inverse_at : (a : ℕ) → a < length p.ops
      → (place_of p.ops (inverse_matrix whole (op_at p.ops a).rot) < length p.ops)
      × ((op_at p.ops (place_of p.ops (inverse_matrix whole (op_at p.ops a).rot))).rot ≡ inverse_matrix whole (op_at p.ops a).rot)
  inverse_at a l =
      let k = parent-inverse p h a l in
      place_of-is p.ops (inverse_matrix whole (op_at p.ops a).rot) (k.place, k.below, k.same.rotation)

  unit_at : (op_at p.ops 0).rot ≡ unit_matrix whole
  unit_at = ap (λ (g : Seitz ℤ). g.rot) h.list.identity

  pub rotation_group-lawful : IsGroup (rotation_group p.ops)
  rotation_group-lawful = record {
    product_below = λ a b l m. (product_at a b l m).0;
    inverse_below = λ a l. (inverse_at a l).0;
    identity_below = h.list.some;
    identity-product = λ a l.
        let q = product_at 0 a h.list.some l in
        h.list.apart _ a q.0 l (q.1 ∙ ap (λ r. matrix_times whole r (op_at p.ops a).rot) unit_at ∙ unit-matrix_times whole whole_ring (op_at p.ops a).rot);
    inverse-product = λ a l.
        let i = inverse_at a l in
        let q = product_at (place_of p.ops (inverse_matrix whole (op_at p.ops a).rot)) a i.0 l in
        h.list.apart _ 0 q.0 h.list.some
        (q.1 ∙ ap (λ r. matrix_times whole r (op_at p.ops a).rot) i.1 ∙ back-matrix (op_at p.ops a).rot (parent-unimodular p h a l) ∙ sym unit_at);
    product_assoc = λ a b c l m n.
        let ab = product_at a b l m in
        let bc = product_at b c m n in
        let x = product_at (place_of p.ops (matrix_times whole (op_at p.ops a).rot (op_at p.ops b).rot)) c ab.0 n in
        let y = product_at a (place_of p.ops (matrix_times whole (op_at p.ops b).rot (op_at p.ops c).rot)) l bc.0 in
        h.list.apart _ _ x.0 y.0
        (x.1 ∙ ap (λ r. matrix_times whole r (op_at p.ops c).rot) ab.1
        ∙ matrix_times-assoc whole whole_ring (op_at p.ops a).rot (op_at p.ops b).rot (op_at p.ops c).rot
        ∙ sym (y.1 ∙ ap (matrix_times whole (op_at p.ops a).rot) bc.1));
  }
