-- Induced matrices multiply as the members of the group, and as the quotient.
--
-- part-member, part-number: r_j^-1 g r_i is a member, and its rotation
-- part-product: r_j^-1 (a b) r_i = (r_j^-1 a r_l)(r_l^-1 b r_i)
-- part-moves, moves-part, block-moves, moves-block: r_j^-1 g r_i is in the little group exactly where g moves arm i to arm j
-- induced_matrix-product, induced_matrix-identity: D(a) D(b) = D(a b), and D of the identity is the unit matrix
-- induced_matrix-same: D is the same on members that differ by a translation of the supercell
-- induced-multiplies, induced-identity: the same of the elements of a quotient
-- character-class, weight-class: character and weight are the same on q and p q p^-1
use Rattle.std.proofs.Common.{◌≡◌, refl, sym, ap, ◌∙◌, subst, ℕ, zero, suc, ◌<◌, ◌+◌, ◌*◌, ◌/◌, ◌%◌, ℤ, Bool, true, false, length, get_or, arith, nat_eq, if◌then◌else◌, eqb-true, eq-eqb, ne_eqb}
use Rattle.std.proofs.Math.Nat.{div-add-mod}
use Rattle.std.proofs.lemmas.Bool.{false_from_ne_true, true≢false}
use Rattle.std.proofs.lemmas.Nat.{div_below, mod_below}
use Rattle.cyclo24.specs.ExactZ24.{ExactZ24, z24_laws}
use Rattle.lin_alg.specs.Matrices.{mul, unit_entry, AreEqualBelow, IsRepresentation, IsClassFunction}
use Rattle.algebra.specs.Whole.{whole}
use Rattle.space_ops.specs.Matrix.{Vector}
use Rattle.space_ops.specs.Seitz.{Seitz, seitz_product, seitz_inverse, seitz_identity}
use Rattle.space_ops.specs.Op.{IsUnimodular}
use Rattle.space_ops.specs.OpLaws.{seitz-back, back-seitz, seitz_product-assoc, identity-seitz_product}
use Rattle.space_ops.specs.WordLaws.{word-identity, word-product, word-inverse}
use Rattle.space_ops.specs.Group.{Parent, IsParentGroup}
use Rattle.space_ops.specs.GroupLaws.{place_of, rotation_group, word-unimodular}
use Rattle.kstar.specs.WaveVector.{HasPhases}
use Rattle.kstar.specs.Star.{IsLittle, WaveStar, IsStarOf}
use Rattle.super_group.specs.Supercell.{IsSameElement}
use Rattle.super_group.specs.SupercellLaws.{same-refl, same-product, member-inverse}
use Rattle.super_group.specs.Quotient.{SupercellGroup, IsQuotient, element_of, quotient_group}
use Rattle.super_group.specs.QuotientLaws.{element-member, element-number, product-member, quotient-lawful}
use Rattle.space_ops.specs.Member.{IsMemberOf, rotation_of}
use Rattle.space_ops.specs.MemberLaws.{member-rotation, rotation_of-listed, rotation_of-product, rotation_of-inverse, rotation_of-identity}
use Rattle.kstar.specs.Moves.{MovesArm, little_number}
use Rattle.kstar.specs.MoveLaws.{move-some, move-one, move-identity, move-product, little-moves, moves-little}
use Rattle.induce.specs.CellPhase.{IsWholeOn}
use Rattle.super_group.specs.ElementLaws.{element-identity}
use Rattle.lin_alg.specs.TraceLaws.{trace-class}
use Rattle.lin_alg.specs.BlockLaws.{tested-multiply}
use Rattle.small_rep.specs.SmallRep.{Matrices, IsSmallRep, is_listed, little_matrix}
use Rattle.induce.specs.Induced.{representative, little_part, is_block, induced_matrix, dimension_of, induced_of, character_at, weight_at, weight_of}
use Rattle.small_rep.specs.LittleMatrixLaws.{listed-little, little-listed, little_matrix-product, little_matrix-identity}
use Rattle.induce.specs.CellLaws.{little_matrix-cell}

-- tests with one meaning are equal
same_tests : (b c : Bool) → (b ≡ true → c ≡ true) → (c ≡ true → b ≡ true) → b ≡ c
same_tests true c f g = sym (f refl)
same_tests false true f g = g refl
same_tests false false f g = refl

some_rows : (a n x : ℕ) → x < a * n → 0 < n
some_rows a zero x l = let c : a * 0 ≡ 0 = omega arith in absurd (omega (arith, l, c))
some_rows a (suc n) x l = omega arith

module _ (p : Parent) (h : IsParentGroup p) (k : Vector ℤ) (s : WaveStar) (star : IsStarOf p k s) where
  abbrev times : Seitz ℤ → Seitz ℤ → Seitz ℤ
  times = seitz_product whole

  abbrev inverse : Seitz ℤ → Seitz ℤ
  inverse = seitz_inverse whole

  abbrev rep : ℕ → Seitz ℤ
  rep = representative p s

  unimodular : (g : Seitz ℤ) → IsMemberOf p g → IsUnimodular g.rot
  unimodular = word-unimodular p.generators p.lattice h.generators.unimodular

  pub rep-member : (i : ℕ) → i < length s.by → IsMemberOf p (rep i)
  rep-member i l = h.list.are_words (get_or s.by i 0) (star.by.below i l)

  inverse-member : (g : Seitz ℤ) → IsMemberOf p g → IsMemberOf p (inverse g)
  inverse-member g m = word-inverse p.generators p.lattice h.generators.unimodular g m (unimodular g m)

  product-of : (g g' : Seitz ℤ) → IsMemberOf p g → IsMemberOf p g' → IsMemberOf p (times g g')
  product-of = word-product p.generators p.lattice

  pub part-member : (g : Seitz ℤ) (j i : ℕ) → IsMemberOf p g → j < length s.by → i < length s.by → IsMemberOf p (little_part p s g j i)
  part-member g j i m lj li = product-of (inverse (rep j)) (times g (rep i)) (inverse-member (rep j) (rep-member j lj)) (product-of g (rep i) m (rep-member i li))

  rep-number : (i : ℕ) → i < length s.by → rotation_of p (rep i) ≡ get_or s.by i 0
  rep-number i l = rotation_of-listed p h (rep i) (get_or s.by i 0) (star.by.below i l) refl

  pub part-number : (g : Seitz ℤ) (j i : ℕ) → IsMemberOf p g → j < length s.by → i < length s.by
      → rotation_of p (little_part p s g j i) ≡ little_number p s (rotation_of p g) j i
  part-number g j i m lj li =
      let mj = rep-member j lj in
      let mi = rep-member i li in
      let e : rotation_of p (inverse (rep j)) ≡ (rotation_group p.ops).inverse (get_or s.by j 0) = rotation_of-inverse p h (rep j) mj ∙ ap (rotation_group p.ops).inverse (rep-number j lj) in
      let f : rotation_of p (times g (rep i)) ≡ (rotation_group p.ops).product (rotation_of p g) (get_or s.by i 0) =
      rotation_of-product p h g (rep i) m mi ∙ ap ((rotation_group p.ops).product (rotation_of p g)) (rep-number i li) in
      rotation_of-product p h (inverse (rep j)) (times g (rep i)) (inverse-member (rep j) mj) (product-of g (rep i) m mi) ∙ (λ t. (rotation_group p.ops).product (e t) (f t))

  -- r_j^-1 g r_i is in the little group exactly where g moves arm i to arm j
  pub part-moves : (g : Seitz ℤ) (j i : ℕ) → IsMemberOf p g → j < length s.by → i < length s.by → IsLittle p k (rotation_of p (little_part p s g j i)) → MovesArm p s (rotation_of p g) i j
  part-moves g j i m lj li e =
      little-moves p h k s star (rotation_of p g) i j (member-rotation p h g m).0 li lj (subst (λ r. IsLittle p k r) (part-number g j i m lj li) e)

  pub moves-part : (g : Seitz ℤ) (j i : ℕ) → IsMemberOf p g → j < length s.by → i < length s.by → MovesArm p s (rotation_of p g) i j → IsLittle p k (rotation_of p (little_part p s g j i))
  moves-part g j i m lj li e =
      subst (λ r. IsLittle p k r) (sym (part-number g j i m lj li)) (moves-little p h k s star (rotation_of p g) i j (member-rotation p h g m).0 li lj e)

  pub block-moves : (g : Seitz ℤ) (j i : ℕ) → IsMemberOf p g → j < length s.by → i < length s.by → is_block p s g j i ≡ true → MovesArm p s (rotation_of p g) i j
  block-moves g j i m lj li t = part-moves g j i m lj li (listed-little p h k s star (rotation_of p (little_part p s g j i)) t).1

  pub moves-block : (g : Seitz ℤ) (j i : ℕ) → IsMemberOf p g → j < length s.by → i < length s.by → MovesArm p s (rotation_of p g) i j → is_block p s g j i ≡ true
  moves-block g j i m lj li e =
      little-listed p h k s star (rotation_of p (little_part p s g j i)) (member-rotation p h (little_part p s g j i) (part-member g j i m lj li)).0 (moves-part g j i m lj li e)

  -- r_j^-1 (a b) r_i = (r_j^-1 a r_l)(r_l^-1 b r_i)
  pub part-product : (a b : Seitz ℤ) (j l i : ℕ) → l < length s.by → little_part p s (times a b) j i ≡ times (little_part p s a j l) (little_part p s b l i)
  part-product a b j l i ll =
      let x = times b (rep i) in
      let r = rep l in
      let e : times r (times (inverse r) x) ≡ x = sym (seitz_product-assoc r (inverse r) x) ∙ ap (λ g. times g x) (seitz-back r (unimodular r (rep-member l ll))) ∙ identity-seitz_product x in
      ap (times (inverse (rep j))) (seitz_product-assoc a b (rep i) ∙ sym (seitz_product-assoc a r (times (inverse r) x) ∙ ap (times a) e))
      ∙ sym (seitz_product-assoc (inverse (rep j)) (times a r) (times (inverse r) x))

  -- the rotation of a product moves arms as its factors do
  product-moves : (a b : Seitz ℤ) (i j l : ℕ) → IsMemberOf p a → IsMemberOf p b → MovesArm p s (rotation_of p b) i j → MovesArm p s (rotation_of p a) j l → MovesArm p s (rotation_of p (times a b)) i l
  product-moves a b i j l ma mb e f =
      subst (λ r. MovesArm p s r i l) (sym (rotation_of-product p h a b ma mb))
      (move-product p h k s star (rotation_of p a) (rotation_of p b) i j l (member-rotation p h a ma).0 (member-rotation p h b mb).0 e f)

  -- where b moves arm i to l, the block (j, i) of a b is there exactly where the block (j, l) of a is
  blocks-joined : (a b : Seitz ℤ) (i l j : ℕ) → IsMemberOf p a → IsMemberOf p b → i < length s.by → l < length s.by → j < length s.by
      → MovesArm p s (rotation_of p b) i l → is_block p s (times a b) j i ≡ is_block p s a j l
  blocks-joined a b i l j ma mb li ll lj e =
      let mab = product-of a b ma mb in
      same_tests (is_block p s (times a b) j i) (is_block p s a j l)
      (λ t.
      let c = move-some p h k s star (rotation_of p a) l (member-rotation p h a ma).0 ll in
      let f : c.0 ≡ j = move-one p h k s star (rotation_of p (times a b)) i c.0 j c.1 lj (product-moves a b i l c.0 ma mb e c.2) (block-moves (times a b) j i mab lj li t) in
      moves-block a j l ma lj ll (subst (λ x. MovesArm p s (rotation_of p a) l x) f c.2))
      (λ t. moves-block (times a b) j i mab lj li (product-moves a b i l j ma mb e (block-moves a j l ma lj ll t)))

  module _ (phases : HasPhases p.lattice k) (n : ℕ) (m : Matrices) (small : IsSmallRep p s n m) where
    abbrev dim : ℕ
    dim = dimension_of s n

    abbrev entry_of_part : Seitz ℤ → ℕ → ℕ → ℕ → ℕ → ExactZ24
    entry_of_part g j i x y = little_matrix p s m (little_part p s g j i) x y

    -- D(a) D(b) = D(a b)
    pub induced_matrix-product : (a b : Seitz ℤ) → IsMemberOf p a → IsMemberOf p b → (x y : ℕ) → x < dim → y < dim
        → mul z24_laws dim (induced_matrix p s n m a) (induced_matrix p s n m b) x y ≡ induced_matrix p s n m (times a b) x y
    unfolding induced_matrix
    induced_matrix-product a b ma mb x y lx ly =
        let some = some_rows (length s.by) n y ly in
        let j = x / n in
        let i = y / n in
        let lj = div_below x n (length s.by) some lx in
        let li = div_below y n (length s.by) some ly in
        let c = move-some p h k s star (rotation_of p b) i (member-rotation p h b mb).0 li in
        let l = c.0 in
        let ll = c.1 in
        tested-multiply z24_laws (length s.by) n (is_block p s a) (is_block p s b) (is_block p s (times a b)) (entry_of_part a) (entry_of_part b) (entry_of_part (times a b)) x y l ll
        (moves-block b l i mb ll li c.2)
        (λ r lr d. false_from_ne_true (is_block p s b r i) (λ t. d (move-one p h k s star (rotation_of p b) i r l lr ll (block-moves b r i mb lr li t) c.2)))
        (blocks-joined a b i l j ma mb li ll lj c.2)
        (λ t.
        ap (λ g. little_matrix p s m g (x % n) (y % n)) (part-product a b j l i ll)
        ∙ sym (little_matrix-product p h k s star phases n m small (little_part p s a j l) (little_part p s b l i) (part-member a j l ma lj ll) (part-member b l i mb ll li) t
        (moves-block b l i mb ll li c.2) (x % n) (y % n) (mod_below x n some) (mod_below y n some)))

    part-identity : (i : ℕ) → i < length s.by → little_part p s (seitz_identity whole) i i ≡ seitz_identity whole
    part-identity i l = ap (times (inverse (rep i))) (identity-seitz_product (rep i)) ∙ back-seitz (rep i) (unimodular (rep i) (rep-member i l))

    identity-member : IsMemberOf p (seitz_identity whole)
    identity-member = word-identity p.generators p.lattice

    -- the identity has a block (j, i) exactly where j is i
    identity-moves : (i : ℕ) → MovesArm p s (rotation_of p (seitz_identity whole)) i i
    identity-moves i = subst (λ r. MovesArm p s r i i) (sym (rotation_of-identity p h)) (move-identity p h k s star i)

    identity-block : (j i : ℕ) → j < length s.by → i < length s.by → is_block p s (seitz_identity whole) j i ≡ true → j ≡ i
    identity-block j i lj li t =
        move-one p h k s star (rotation_of p (seitz_identity whole)) i j i lj li (block-moves (seitz_identity whole) j i identity-member lj li t) (identity-moves i)

    unit_at : (x y : ℕ) → x / n ≡ y / n → unit_entry z24_laws (x % n) (y % n) ≡ unit_entry z24_laws x y
    unit_at x y e =
        ap (λ t. if t then z24_laws.unit else z24_laws.nought)
        (same_tests (nat_eq (x % n) (y % n)) (nat_eq x y)
        (λ t. eq-eqb x y (sym (div-add-mod x n) ∙ (λ u. n * e u + eqb-true (x % n) (y % n) t u) ∙ div-add-mod y n))
        (λ t. eq-eqb (x % n) (y % n) (ap (λ z. z % n) (eqb-true x y t))))

    unit_apart : (x y : ℕ) → (x / n ≡ y / n → ⊥) → unit_entry z24_laws x y ≡ z24_laws.nought
    unit_apart x y d = ap (λ t. if t then z24_laws.unit else z24_laws.nought) (ne_eqb x y (λ e. d (ap (λ z. z / n) e)))

    by_block : (b : Bool) (u v w : ExactZ24) → (b ≡ true → u ≡ w) → (b ≡ false → v ≡ w) → (if b then u else v) ≡ w
    by_block true u v w f g = f refl
    by_block false u v w f g = g refl

    -- D of the identity is the unit matrix
    pub induced_matrix-identity : (x y : ℕ) → x < dim → y < dim → induced_matrix p s n m (seitz_identity whole) x y ≡ unit_entry z24_laws x y
    unfolding induced_matrix
    induced_matrix-identity x y lx ly =
        let one = seitz_identity whole in
        let some = some_rows (length s.by) n y ly in
        let j = x / n in
        let i = y / n in
        let lj = div_below x n (length s.by) some lx in
        let li = div_below y n (length s.by) some ly in
        by_block (is_block p s one j i) (little_matrix p s m (little_part p s one j i) (x % n) (y % n)) z24_laws.nought (unit_entry z24_laws x y)
        (λ t.
        let e = identity-block j i lj li t in
        ap (λ g. little_matrix p s m g (x % n) (y % n)) (ap (λ r. little_part p s one r i) e ∙ part-identity i li)
        ∙ little_matrix-identity p h k s star n m small (x % n) (y % n) (mod_below x n some) (mod_below y n some) ∙ unit_at x y e)
        (λ t. sym (unit_apart x y (λ e. true≢false (sym (subst (λ r. is_block p s one r i ≡ true) (sym e) (moves-block one i i identity-member li li (identity-moves i))) ∙ t))))

module _ (q : SupercellGroup) (hq : IsQuotient q) (k : Vector ℤ) (s : WaveStar) (star : IsStarOf q.parent k s) where
  pub part-same : (g g' : Seitz ℤ) (j i : ℕ) → IsMemberOf q.parent g → IsMemberOf q.parent g' → IsSameElement q.d g g' → j < length s.by → i < length s.by
      → IsSameElement q.d (little_part q.parent s g j i) (little_part q.parent s g' j i)
  part-same g g' j i mg mg' e lj li =
      let p = q.parent in
      let h = hq.parent in
      let ri = representative p s i in
      let rj = seitz_inverse whole (representative p s j) in
      let mi = rep-member p h k s star i li in
      let mj = member-inverse q hq (representative p s j) (rep-member p h k s star j lj) in
      same-product q hq rj rj (seitz_product whole g ri) (seitz_product whole g' ri) mj mj (product-member q hq g ri mg mi) (product-member q hq g' ri mg' mi) (same-refl q.d rj)
      (same-product q hq g g' ri ri mg mg' mi mi e (same-refl q.d ri))

module _ (q : SupercellGroup) (hq : IsQuotient q) (k : Vector ℤ) (s : WaveStar) (star : IsStarOf q.parent k s) (phases : HasPhases q.parent.lattice k) (cells : IsWholeOn q.d k)
    (n : ℕ) (m : Matrices) where
  -- D is the same on members that differ by a translation of the supercell
  pub induced_matrix-same : (g g' : Seitz ℤ) → IsMemberOf q.parent g → IsMemberOf q.parent g' → IsSameElement q.d g g' → (x y : ℕ) → x < dimension_of s n → y < dimension_of s n
      → induced_matrix q.parent s n m g x y ≡ induced_matrix q.parent s n m g' x y
  unfolding induced_matrix
  induced_matrix-same g g' mg mg' e x y lx ly =
      let p = q.parent in
      let h = hq.parent in
      let some = some_rows (length s.by) n y ly in
      let j = x / n in
      let i = y / n in
      let lj = div_below x n (length s.by) some lx in
      let li = div_below y n (length s.by) some ly in
      let f = part-same q hq k s star g g' j i mg mg' e lj li in
      let c = little_matrix-cell p h k s star q.d cells phases m (little_part p s g j i) (little_part p s g' j i) (part-member p h k s star g j i mg lj li) (part-member p h k s star g' j i mg' lj li) f (x % n) (y % n) in
      (λ t. if is_listed s.little (place_of p.ops (f.rotation t)) then c t else z24_laws.nought)

  module _ (small : IsSmallRep q.parent s n m) where
    pub induced-multiplies : IsRepresentation z24_laws (quotient_group q) (dimension_of s n) (induced_of q s n m)
    induced-multiplies a b la lb x y lx ly =
        let ma = element-member q hq a la in
        let mb = element-member q hq b lb in
        let c = (quotient_group q).product a b in
        let lc = (quotient-lawful q hq).product_below a b la lb in
        induced_matrix-same (element_of q c) (seitz_product whole (element_of q a) (element_of q b)) (element-member q hq c lc) (product-member q hq (element_of q a) (element_of q b) ma mb)
        (element-number q hq (seitz_product whole (element_of q a) (element_of q b)) (product-member q hq (element_of q a) (element_of q b) ma mb)) x y lx ly
        ∙ sym (induced_matrix-product q.parent hq.parent k s star phases n m small (element_of q a) (element_of q b) ma mb x y lx ly)

    pub induced-identity : AreEqualBelow (dimension_of s n) (induced_of q s n m 0) (unit_entry z24_laws)
    induced-identity x y lx ly =
        ap (λ g. induced_matrix q.parent s n m g x y) (element-identity q hq)
        ∙ induced_matrix-identity q.parent hq.parent k s star phases n m small x y lx ly

    -- the same on q and p q p^-1
    pub character-class : IsClassFunction (quotient_group q) (character_at q s n m)
    character-class = trace-class z24_laws (quotient_group q) (quotient-lawful q hq) (dimension_of s n) (induced_of q s n m) induced-multiplies

    pub weight-class : IsClassFunction (quotient_group q) (weight_at q s n m)
    weight-class e g le lg = ap weight_of (character-class e g le lg)
