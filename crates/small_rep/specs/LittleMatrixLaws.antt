-- The matrices of the members of the little group.
--
-- listed-contains, contains-listed: the test of a list says what it contains
-- little-listed, listed-little: a number of the list of the little group is that of a rotation in it
-- rest_of-product: what a product of members has more
-- little_matrix-product, little_matrices-multiply: G(h) G(h') = G(h h'), where h and h' are in the little group
-- little_matrix-identity: G of the identity is the unit matrix
-- little_matrix-same: G is the same on members with the same rotation and the same phase
use Rattle.std.proofs.Common.{◌≡◌, sym, ap, ◌∙◌, subst, ℕ, ◌<◌, ◌+◌, ◌%◌, ℤ, true, List, length, get_or, arith, nat_eq, eqb-true, eq-eqb}
use Rattle.std.proofs.lemmas.Int.{ints}
use Rattle.std.proofs.lemmas.List.{get_or_default}
use Rattle.std.proofs.lemmas.List.Folds.{Any-from_list_any, list_any_at}
use Rattle.std.specs.Prelude.{Contains}
use Rattle.cyclo24.specs.ExactZ24.{z24_laws, power}
use Rattle.cyclo24.specs.FieldLaws.{unit-times}
use Rattle.cyclo24.specs.Sums.{total}
use Rattle.cyclo24.specs.Z24RootsLaws.{times-power}
use Rattle.lin_alg.specs.Matrices.{AreEqualBelow, mul, unit_entry}
use Rattle.algebra.specs.Whole.{whole}
use Rattle.algebra.specs.WholeLaws.{whole_ring}
use Rattle.space_ops.specs.Matrix.{Vector, image_under, vector_sum, zero_vector}
use Rattle.space_ops.specs.MatrixLaws.{same_vector, image_under-difference}
use Rattle.space_ops.specs.Seitz.{Seitz, seitz_product, seitz_identity}
use Rattle.space_ops.specs.Words.{op_at, vector_difference, IsLatticeVector}
use Rattle.space_ops.specs.WordLaws.{word-product}
use Rattle.space_ops.specs.LatticeLaws.{sum-lattice}
use Rattle.space_ops.specs.Group.{Parent, IsParentGroup}
use Rattle.space_ops.specs.GroupLaws.{place_of, rotation_group, parent-keeps}
use Rattle.kstar.specs.WaveVector.{HasPhase, HasPhases, phase_of}
use Rattle.kstar.specs.WaveVectorLaws.{phases-lattice}
use Rattle.kstar.specs.PhaseLaws.{phase_of-sum, phase_of-zero}
use Rattle.kstar.specs.LittleLaws.{phase-little}
use Rattle.kstar.specs.Star.{IsLittle, WaveStar, IsStarOf}
use Rattle.space_ops.specs.Member.{IsMemberOf, rotation_of, rest_of}
use Rattle.space_ops.specs.MemberLaws.{member-rotation, member-rest, rotation_of-product, rotation_of-identity}
use Rattle.lin_alg.specs.PhasedLaws.{roots-product}
use Rattle.small_rep.specs.SmallRep.{Matrices, phased, factor_of, IsSmallRep, IsLittleOp, is_listed, little_matrix}

pub contains-listed : (xs : List ℕ) (r : ℕ) → Contains xs r → is_listed xs r ≡ true
contains-listed xs r (i, l, e) = list_any_at (λ x. nat_eq x r) xs i r l (eq-eqb (get_or xs i r) r e)

pub listed-contains : (xs : List ℕ) (r : ℕ) → is_listed xs r ≡ true → Contains xs r
listed-contains xs r t = let a = Any-from_list_any (λ x. nat_eq x r) xs t in subst (Contains xs) (eqb-true a.1 r a.4) (a.0, a.2, a.3)

module _ (p : Parent) (h : IsParentGroup p) (k : Vector ℤ) (s : WaveStar) (star : IsStarOf p k s) where
  pub listed-little : (r : ℕ) → is_listed s.little r ≡ true → (r < length p.ops) × IsLittle p k r
  listed-little r t =
      let c = listed-contains s.little r t in
      let e : get_or s.little c.0 0 ≡ r = get_or_default s.little c.0 0 r c.1 ∙ c.2 in
      (subst (λ x. x < length p.ops) e (star.little.below c.0 c.1), subst (IsLittle p k) e (star.little.has c.0 c.1))

  pub little-listed : (r : ℕ) → r < length p.ops → IsLittle p k r → is_listed s.little r ≡ true
  little-listed r l q =
      let v = star.little.every r l q in
      contains-listed s.little r (v.0, v.1, sym (get_or_default s.little v.0 0 r v.1) ∙ v.2)

  abbrev product : ℕ → ℕ → ℕ
  product = (rotation_group p.ops).product

  parts : (u a t b c : Vector ℤ) → vector_difference (vector_sum whole u a) c ≡ vector_sum whole (vector_sum whole (vector_difference u t) (vector_difference a b)) (vector_difference (vector_sum whole t b) c)
  parts u a t b c = same_vector _ _ (omega (arith, ints)) (omega (arith, ints)) (omega (arith, ints))

  -- what a product has more: n + R n' and the factor of the rotations
  pub rest_of-product : (g g' : Seitz ℤ) → IsMemberOf p g → IsMemberOf p g' → rest_of p (seitz_product whole g g')
      ≡ vector_sum whole (vector_sum whole (rest_of p g) (image_under whole (op_at p.ops (rotation_of p g)).rot (rest_of p g'))) (factor_of p (rotation_of p g) (rotation_of p g'))
  rest_of-product g g' m m' =
      let a = op_at p.ops (rotation_of p g) in
      let b = op_at p.ops (rotation_of p g') in
      (λ i. vector_difference (vector_sum whole g.shift (image_under whole (sym (member-rotation p h g m).1 i) g'.shift)) (op_at p.ops (rotation_of-product p h g g' m m' i)).shift)
      ∙ parts g.shift (image_under whole a.rot g'.shift) a.shift (image_under whole a.rot b.shift) (op_at p.ops (product (rotation_of p g) (rotation_of p g'))).shift
      ∙ ap (λ w. vector_sum whole (vector_sum whole (rest_of p g) w) (factor_of p (rotation_of p g) (rotation_of p g'))) (sym (image_under-difference whole whole_ring a.rot g'.shift b.shift))

  pub factor-lattice : (a b : ℕ) → a < length p.ops → b < length p.ops → IsLatticeVector p.lattice (factor_of p a b)
  factor-lattice a b l m =
      let g = seitz_product whole (op_at p.ops a) (op_at p.ops b) in
      member-rest p h g (word-product p.generators p.lattice (op_at p.ops a) (op_at p.ops b) (h.list.are_words a l) (h.list.are_words b m))

  module _ (phases : HasPhases p.lattice k) where
    has_phase : (t : Vector ℤ) → IsLatticeVector p.lattice t → HasPhase k t
    has_phase = phases-lattice p.lattice k phases

    phase-product : (g g' : Seitz ℤ) → IsMemberOf p g → IsMemberOf p g' → IsLittle p k (rotation_of p g) → phase_of k (rest_of p (seitz_product whole g g'))
        ≡ ((phase_of k (rest_of p g) + phase_of k (rest_of p g')) % 24 + phase_of k (factor_of p (rotation_of p g) (rotation_of p g'))) % 24
    phase-product g g' m m' q =
        let a = rotation_of p g in
        let b = rotation_of p g' in
        let la : a < length p.ops = (member-rotation p h g m).0 in
        let lb : b < length p.ops = (member-rotation p h g' m').0 in
        let u = rest_of p g in
        let v = rest_of p g' in
        let w = image_under whole (op_at p.ops a).rot v in
        let c = factor_of p a b in
        let lu = member-rest p h g m in
        let lv = member-rest p h g' m' in
        let lw = parent-keeps p h a la v lv in
        ap (phase_of k) (rest_of-product g g' m m')
        ∙ phase_of-sum k (vector_sum whole u w) c (has_phase (vector_sum whole u w) (sum-lattice p.lattice u w lu lw)) (has_phase c (factor-lattice a b la lb))
        ∙ ap (λ x. (x + phase_of k c) % 24) (phase_of-sum k u w (has_phase u lu) (has_phase w lw) ∙ ap (λ x. (phase_of k u + x) % 24) (phase-little p h k v a la phases lv q))

    row-phase-product : (g g' : Seitz ℤ) → IsMemberOf p g → IsMemberOf p g' → IsLittle p k (rotation_of p g) → phase_of s.row (rest_of p (seitz_product whole g g'))
        ≡ ((phase_of s.row (rest_of p g) + phase_of s.row (rest_of p g')) % 24 + phase_of s.row (factor_of p (rotation_of p g) (rotation_of p g'))) % 24
    row-phase-product g g' m m' q =
        subst (λ (r : Vector ℤ). phase_of r (rest_of p (seitz_product whole g g')) ≡ ((phase_of r (rest_of p g) + phase_of r (rest_of p g')) % 24 + phase_of r (factor_of p (rotation_of p g) (rotation_of p g'))) % 24)
        (sym star.row) (phase-product g g' m m' q)

    -- G(g) G(g') = G(g g')
    pub little_matrix-product : (n : ℕ) (m : Matrices) → IsSmallRep p s n m → (g g' : Seitz ℤ) → IsMemberOf p g → IsMemberOf p g'
        → is_listed s.little (rotation_of p g) ≡ true → is_listed s.little (rotation_of p g') ≡ true → (x y : ℕ) → x < n → y < n
        → total z24_laws n (λ z. z24_laws.times (little_matrix p s m g x z) (little_matrix p s m g' z y)) ≡ little_matrix p s m (seitz_product whole g g') x y
    unfolding little_matrix
    little_matrix-product n m rep g g' mg mg' t t' x y lx ly =
        let a = rotation_of p g in
        let b = rotation_of p g' in
        let q = listed-little a t in
        roots-product z24_laws 24 power times-power n (phase_of s.row (rest_of p g)) (phase_of s.row (rest_of p g')) (phase_of s.row (factor_of p a b)) (phase_of s.row (rest_of p (seitz_product whole g g')))
        (λ z. m a x z) (λ z. m b z y) (m (product a b) x y) (row-phase-product g g' mg mg' q.1)
        (rep.multiplies a b (listed-contains s.little a t) (listed-contains s.little b t') x y lx ly)
        ∙ ap (λ r. phased (phase_of s.row (rest_of p (seitz_product whole g g'))) (m r x y)) (sym (rotation_of-product p h g g' mg mg'))

    -- the same of the matrices of operations of the little group
    pub little_matrices-multiply : (n : ℕ) (m : Matrices) → IsSmallRep p s n m → (g g' : Seitz ℤ) → IsLittleOp p s g → IsLittleOp p s g'
        → AreEqualBelow n (mul z24_laws n (little_matrix p s m g) (little_matrix p s m g')) (little_matrix p s m (seitz_product whole g g'))
    little_matrices-multiply n m rep g g' a b x y lx ly =
        little_matrix-product n m rep g g' a.member b.member (contains-listed s.little (rotation_of p g) a.little) (contains-listed s.little (rotation_of p g') b.little) x y lx ly

  rest_of-identity : rest_of p (seitz_identity whole) ≡ zero_vector whole
  rest_of-identity =
      ap (λ r. vector_difference (zero_vector whole) (op_at p.ops r).shift) (rotation_of-identity p h) ∙ ap (λ (g : Seitz ℤ). vector_difference (zero_vector whole) g.shift) h.list.identity
      ∙ nothing
    where
      nothing : vector_difference (zero_vector whole) (zero_vector whole) ≡ zero_vector whole
      nothing = same_vector _ _ (omega (arith, ints)) (omega (arith, ints)) (omega (arith, ints))

  -- G of the identity is the unit matrix
  pub little_matrix-identity : (n : ℕ) (m : Matrices) → IsSmallRep p s n m → (x y : ℕ) → x < n → y < n → little_matrix p s m (seitz_identity whole) x y ≡ unit_entry z24_laws x y
  unfolding little_matrix
  little_matrix-identity n m rep x y lx ly =
      (λ i. phased (phase_of s.row (rest_of-identity i)) (m (rotation_of-identity p h i) x y)) ∙ ap (λ a. phased a (m 0 x y)) (phase_of-zero s.row)
      ∙ unit-times z24_laws (m 0 x y) ∙ rep.identity x y lx ly

-- G is the same on members with the same rotation and the same phase
pub little_matrix-same : (p : Parent) (s : WaveStar) (m : Matrices) (g g' : Seitz ℤ) → rotation_of p g ≡ rotation_of p g' → phase_of s.row (rest_of p g) ≡ phase_of s.row (rest_of p g') → (x y : ℕ)
    → little_matrix p s m g x y ≡ little_matrix p s m g' x y
unfolding little_matrix
little_matrix-same p s m g g' e f x y = λ i. phased (f i) (m (e i) x y)
