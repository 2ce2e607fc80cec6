-- Blocks of induced matrices by the rotation and the translation of an element.
--
-- part-rotation: the rotation of r_j^-1 g r_i by that of g
-- block-moved, moved-block: block (j, i) of D(e) isn't 0 exactly where the rotation of e moves arm i to arm j
-- element-phase: what element r T + t has more has the phase of translation t
-- number-rotation, number-phase: r_j^-1 g r_i by its number
-- phase-split: the phase of r_j^-1 g r_i is that of r_j^-1 {E|t} r_j and that of r_j^-1 g' r_i, for g = {E|t} g'
-- turned-lattice, turned-phase: r_j^-1 {E|t} r_j is {E|R_j^-1 t}
-- first-block, first-rotation, first-phase: the block (0, 0) of an element of the little group
-- power-known: the phase of each r_j^-1 g r_i is that of a translation on the first arm
use Rattle.std.proofs.Common.{◌≡◌, sym, ap, ◌∙◌, subst, ℕ, ◌<◌, ◌+◌, ◌*◌, ◌/◌, ◌%◌, ℤ, true, length, get_or, arith}
use Rattle.std.proofs.lemmas.Int.{ints}
use Rattle.std.proofs.lemmas.Nat.{div-mul-add, mod-mul-add, div-add-mod', mod_below}
use Rattle.algebra.specs.Whole.{whole}
use Rattle.algebra.specs.WholeLaws.{whole_ring}
use Rattle.space_ops.specs.Matrix.{Matrix, Vector, image_under, vector_sum, minus_vector, zero_vector, unit_matrix}
use Rattle.space_ops.specs.MatrixLaws.{same_vector, unit-matrix_times, image_under-difference}
use Rattle.space_ops.specs.Seitz.{Seitz, seitz_product, seitz_inverse, seitz_identity, inverse_matrix}
use Rattle.space_ops.specs.OpLaws.{identity-seitz_product, seitz_product-identity, back-seitz}
use Rattle.space_ops.specs.Words.{op_at, vector_difference, IsLatticeVector}
use Rattle.space_ops.specs.WordLaws.{translation, word-identity, word-lattice}
use Rattle.space_ops.specs.Group.{Parent, IsParentGroup}
use Rattle.space_ops.specs.GroupLaws.{place_of, rotation_group, rotation_group-lawful, word-unimodular}
use Rattle.space_ops.specs.Member.{IsMemberOf, rotation_of, rest_of}
use Rattle.space_ops.specs.MemberLaws.{member-rotation, member-rest, rotation_of-listed}
use Rattle.kstar.specs.WaveVector.{HasPhase, phase_of}
use Rattle.kstar.specs.WaveVectorLaws.{phases-lattice}
use Rattle.kstar.specs.PhaseLaws.{phase_of-sum}
use Rattle.kstar.specs.Star.{WaveStar}
use Rattle.kstar.specs.StarLaws.{star-first}
use Rattle.kstar.specs.Moves.{MovesArm, little_number}
use Rattle.super_group.specs.Supercell.{IsSameElement}
use Rattle.super_group.specs.Quotient.{SupercellGroup, order_of, element_of, number_of, translation_at, quotient_group}
use Rattle.super_group.specs.QuotientLaws.{row_below, places-below, element-member, element-number, number-below, product-member}
use Rattle.super_group.specs.ElementLaws.{element-rotation, element-same, elements-factored}
use Rattle.small_rep.specs.SmallRep.{factor_of, is_listed}
use Rattle.small_rep.specs.LittleMatrixLaws.{rest_of-product}
use Rattle.induce.specs.Induced.{representative, little_part, is_block, part_phase, IsStarOn}
use Rattle.induce.specs.CellLaws.{rest-cell}
use Rattle.induce.specs.InducedLaws.{part-member, part-number, part-product, part-same, block-moves, moves-block}
use Rattle.induce.proofs.PartLemmas.{part_number, part_number-below, part_number-same}
use Rattle.induce.specs.Tables.{HasPower}

-- v and t, less t
less_again : (v t : Vector ℤ) → vector_difference (vector_sum whole v (image_under whole (unit_matrix whole) t)) t ≡ v
less_again v t = same_vector _ _ (omega (arith, ints)) (omega (arith, ints)) (omega (arith, ints))

plain_sum : (u v : Vector ℤ) → vector_sum whole (vector_sum whole u (image_under whole (unit_matrix whole) v)) (zero_vector whole) ≡ vector_sum whole u v
plain_sum u v = same_vector _ _ (omega (arith, ints)) (omega (arith, ints)) (omega (arith, ints))

drop_zero : (x y : Vector ℤ) → vector_difference (vector_sum whole (minus_vector whole y) x) (zero_vector whole) ≡ vector_difference x y
drop_zero x y = same_vector _ _ (omega (arith, ints)) (omega (arith, ints)) (omega (arith, ints))

-- -B t + B (v + t) = B v
turned_shift : (b : Matrix ℤ) (t v : Vector ℤ)
    → vector_difference (vector_sum whole (minus_vector whole (image_under whole b t)) (image_under whole b (vector_sum whole v (image_under whole (unit_matrix whole) t)))) (zero_vector whole)
    ≡ image_under whole b v
turned_shift b t v =
    let w = vector_sum whole v (image_under whole (unit_matrix whole) t) in
    drop_zero (image_under whole b w) (image_under whole b t) ∙ sym (image_under-difference whole whole_ring b w t) ∙ ap (image_under whole b) (less_again v t)

no_division : (t n : ℕ) → t < n → t / n ≡ 0
no_division t n l = let e : 0 * n + t ≡ t = omega arith in subst (λ x. x / n ≡ 0) e (div-mul-add 0 n t l)

no_remainder : (t n : ℕ) → t < n → t % n ≡ t
no_remainder t n l = let e : 0 * n + t ≡ t = omega arith in subst (λ x. x % n ≡ t) e (mod-mul-add 0 n t l)

below_divisor : (k n : ℕ) → 0 < n → k / n ≡ 0 → k < n
below_divisor k n l e =
    let d : 0 * n + k % n ≡ k = ap (λ z. z * n + k % n) (sym e) ∙ div-add-mod' k n in
    let m : k % n < n = mod_below k n l in
    omega (arith, d, m)

module _ (q : SupercellGroup) (s : WaveStar) (h : IsStarOn q s) where
  abbrev p : Parent
  p = q.parent

  abbrev T : ℕ
  T = length q.translations

  abbrev A : ℕ
  A = length s.by

  abbrev element : ℕ → Seitz ℤ
  element e = element_of q e

  abbrev part : ℕ → ℕ → ℕ → Seitz ℤ
  part e j i = little_part p s (element e) j i

  abbrev phase : Seitz ℤ → ℕ
  phase g = phase_of s.row (rest_of p g)

  abbrev times : Seitz ℤ → Seitz ℤ → Seitz ℤ
  times = seitz_product whole

  hp : IsParentGroup p
  hp = h.quotient.parent

  member : (e : ℕ) → e < order_of q → IsMemberOf p (element e)
  member e l = element-member q h.quotient e l

  part-of-group : (e j i : ℕ) → e < order_of q → j < A → i < A → IsMemberOf p (part e j i)
  part-of-group e j i le lj li = part-member p hp s.row s h.star (element e) j i (member e le) lj li

  same-phase : (g g' : Seitz ℤ) → IsMemberOf p g → IsMemberOf p g' → IsSameElement q.d g g' → phase g ≡ phase g'
  same-phase = rest-cell p hp s.row s h.star q.d h.cells h.phases

  pub part-rotation : (e j i : ℕ) → e < order_of q → j < A → i < A → rotation_of p (part e j i) ≡ little_number p s (e / T) j i
  part-rotation e j i le lj li = part-number p hp s.row s h.star (element e) j i (member e le) lj li ∙ ap (λ r. little_number p s r j i) (element-rotation q h.quotient e le)

  pub block-moved : (e j i : ℕ) → e < order_of q → j < A → i < A → is_block p s (element e) j i ≡ true → MovesArm p s (e / T) i j
  block-moved e j i le lj li t = subst (λ r. MovesArm p s r i j) (element-rotation q h.quotient e le) (block-moves p hp s.row s h.star (element e) j i (member e le) lj li t)

  pub moved-block : (e j i : ℕ) → e < order_of q → j < A → i < A → MovesArm p s (e / T) i j → is_block p s (element e) j i ≡ true
  moved-block e j i le lj li t = moves-block p hp s.row s h.star (element e) j i (member e le) lj li (subst (λ r. MovesArm p s r i j) (sym (element-rotation q h.quotient e le)) t)

  -- what {E|v} after operation r has more is v
  rest-translation : (v : Vector ℤ) (r : ℕ) → r < length p.ops → rest_of p (times (translation v) (op_at p.ops r)) ≡ v
  rest-translation v r l =
      let o = op_at p.ops r in
      let x = times (translation v) o in
      let e : rotation_of p x ≡ r = rotation_of-listed p hp x r l (unit-matrix_times whole whole_ring o.rot) in
      ap (λ k. vector_difference x.shift (op_at p.ops k).shift) e ∙ less_again v o.shift

  translation-of-group : (v : Vector ℤ) → IsLatticeVector p.lattice v → IsMemberOf p (translation v)
  translation-of-group v l = word-lattice p.generators p.lattice v l

  pub element-phase : (e : ℕ) → e < order_of q → phase (element e) ≡ phase_of s.row (translation_at q.translations (e % T))
  element-phase e l =
      let b = places-below q h.quotient e l in
      let v = translation_at q.translations (e % T) in
      let x = times (translation v) (op_at p.ops (e / T)) in
      same-phase (element e) x (member e l)
      (product-member q h.quotient (translation v) (op_at p.ops (e / T)) (translation-of-group v (h.quotient.translations.in_lattice (e % T) b.1)) (hp.list.are_words (e / T) b.0)) (element-same q h.quotient e)
      ∙ ap (phase_of s.row) (rest-translation v (e / T) b.0)

  -- r_j^-1 g r_i by its number
  pub number-rotation : (e j i : ℕ) → e < order_of q → j < A → i < A → rotation_of p (part e j i) ≡ part_number q s e j i / T
  number-rotation e j i le lj li =
      ap (place_of p.ops) (sym (part_number-same q h.quotient s.row s h.star e j i le lj li).rotation)
      ∙ element-rotation q h.quotient (part_number q s e j i) (part_number-below q h.quotient s.row s h.star e j i le lj li)

  pub number-phase : (e j i : ℕ) → e < order_of q → j < A → i < A → part_phase p s (element e) j i ≡ phase_of s.row (translation_at q.translations (part_number q s e j i % T))
  number-phase e j i le lj li =
      let k = part_number q s e j i in
      let lk = part_number-below q h.quotient s.row s h.star e j i le lj li in
      sym (same-phase (element k) (part e j i) (member k lk) (part-of-group e j i le lj li) (part_number-same q h.quotient s.row s h.star e j i le lj li)) ∙ element-phase k lk

  some : 0 < length p.ops
  some = hp.list.some

  pub translation-below : (t : ℕ) → t < T → t < order_of q
  translation-below t l = let c : 0 * T + t < order_of q = row_below (length p.ops) T 0 t some l in omega (arith, c)

  identity-times : (r : ℕ) → r < length p.ops → (rotation_group p.ops).product 0 r ≡ r
  identity-times r l = (rotation_group-lawful p hp).identity-product r l

  factor-zero : (r : ℕ) → r < length p.ops → factor_of p 0 r ≡ zero_vector whole
  factor-zero r l =
      (λ i. vector_difference (times (hp.list.identity i) (op_at p.ops r)).shift (op_at p.ops (identity-times r l i)).shift) ∙ less_again (zero_vector whole) (op_at p.ops r).shift

  -- r_j^-1 {E|t} r_j is a translation
  diagonal-rotation : (t j : ℕ) → t < T → j < A → rotation_of p (part t j j) ≡ 0
  diagonal-rotation t j lt lj =
      let b = get_or s.by j 0 in
      let lb = h.star.by.below j lj in
      let g = rotation_group p.ops in
      part-rotation t j j (translation-below t lt) lj lj ∙ ap (λ r. little_number p s r j j) (no_division t T lt) ∙ ap (g.product (g.inverse b)) (identity-times b lb)
      ∙ (rotation_group-lawful p hp).inverse-product b lb

  turned-rotation : (v : Vector ℤ) (j : ℕ) → IsLatticeVector p.lattice v → j < A → rotation_of p (little_part p s (translation v) j j) ≡ 0
  turned-rotation v j l lj =
      let b = get_or s.by j 0 in
      let lb = h.star.by.below j lj in
      let g = rotation_group p.ops in
      let e : rotation_of p (translation v) ≡ 0 = rotation_of-listed p hp (translation v) 0 some (sym (ap (λ (x : Seitz ℤ). x.rot) hp.list.identity)) in
      part-number p hp s.row s h.star (translation v) j j (translation-of-group v l) lj lj ∙ ap (λ r. little_number p s r j j) e ∙ ap (g.product (g.inverse b)) (identity-times b lb)
      ∙ (rotation_group-lawful p hp).inverse-product b lb

  -- R_j^-1 v
  abbrev turned : ℕ → Vector ℤ → Vector ℤ
  turned j = image_under whole (inverse_matrix whole (representative p s j).rot)

  -- r_j^-1 {E|v} r_j is {E|R_j^-1 v}
  turned-rest : (v : Vector ℤ) (j : ℕ) → IsLatticeVector p.lattice v → j < A → rest_of p (little_part p s (translation v) j j) ≡ turned j v
  turned-rest v j l lj =
      let r = representative p s j in
      let x = little_part p s (translation v) j j in
      ap (λ k. vector_difference x.shift (op_at p.ops k).shift) (turned-rotation v j l lj) ∙ ap (λ (g : Seitz ℤ). vector_difference x.shift g.shift) hp.list.identity
      ∙ turned_shift (inverse_matrix whole r.rot) r.shift v

  turned-of-group : (v : Vector ℤ) (j : ℕ) → IsLatticeVector p.lattice v → j < A → IsMemberOf p (little_part p s (translation v) j j)
  turned-of-group v j l lj = part-member p hp s.row s h.star (translation v) j j (translation-of-group v l) lj lj

  pub turned-lattice : (v : Vector ℤ) (j : ℕ) → IsLatticeVector p.lattice v → j < A → IsLatticeVector p.lattice (image_under whole (inverse_matrix whole (representative p s j).rot) v)
  turned-lattice v j l lj = subst (IsLatticeVector p.lattice) (turned-rest v j l lj) (member-rest p hp (little_part p s (translation v) j j) (turned-of-group v j l lj))

  -- element t is {E|t}
  translation-same : (t : ℕ) → t < T → IsSameElement q.d (element t) (translation (translation_at q.translations t))
  translation-same t lt =
      let v = translation_at q.translations t in
      subst (IsSameElement q.d (element t))
      ((λ i. times (translation (translation_at q.translations (no_remainder t T lt i))) (op_at p.ops (no_division t T lt i))) ∙ ap (times (translation v)) hp.list.identity
      ∙ seitz_product-identity (translation v))
      (element-same q h.quotient t)

  pub turned-phase : (t j : ℕ) → t < T → j < A
      → phase_of s.row (image_under whole (inverse_matrix whole (representative p s j).rot) (translation_at q.translations t)) ≡ part_phase p s (element t) j j
  turned-phase t j lt lj =
      let v = translation_at q.translations t in
      let l = h.quotient.translations.in_lattice t lt in
      let le = translation-below t lt in
      sym (same-phase (part t j j) (little_part p s (translation v) j j) (part-of-group t j j le lj lj) (turned-of-group v j l lj)
      (part-same q h.quotient s.row s h.star (element t) (translation v) j j (member t le) (translation-of-group v l) (translation-same t lt) lj lj)
      ∙ ap (phase_of s.row) (turned-rest v j l lj))

  has_phase : (v : Vector ℤ) → IsLatticeVector p.lattice v → HasPhase s.row v
  has_phase = phases-lattice p.lattice s.row h.phases

  -- a translation after a member
  phase-joined : (x y : Seitz ℤ) → IsMemberOf p x → IsMemberOf p y → rotation_of p x ≡ 0 → phase (times x y) ≡ (phase x + phase y) % 24
  phase-joined x y mx my e =
      let u = rest_of p x in
      let v = rest_of p y in
      let r = rotation_of p y in
      let f : rest_of p (times x y) ≡ vector_sum whole u v =
      rest_of-product p hp s.row s h.star x y mx my
      ∙ (λ i. vector_sum whole (vector_sum whole u (image_under whole (ap (λ k. (op_at p.ops k).rot) e i) v)) (ap (λ k. factor_of p k r) e i))
      ∙ (λ i. vector_sum whole (vector_sum whole u (image_under whole (ap (λ (g : Seitz ℤ). g.rot) hp.list.identity i) v)) (factor-zero r (member-rotation p hp y my).0 i)) ∙ plain_sum u v in
      ap (phase_of s.row) f ∙ phase_of-sum s.row u v (has_phase u (member-rest p hp x mx)) (has_phase v (member-rest p hp y my))

  pub rotation-below : (e : ℕ) → e < order_of q → e / T * T < order_of q
  rotation-below e l =
      let b = places-below q h.quotient e l in
      let c : e / T * T + e % T < order_of q = row_below (length p.ops) T (e / T) (e % T) b.0 b.1 in
      omega (arith, c)

  -- element r T + t is translation t after element r T
  element-split : (e : ℕ) → e < order_of q → IsSameElement q.d (element e) (times (element (e % T)) (element (e / T * T)))
  element-split e l =
      let b = places-below q h.quotient e l in
      let r = e / T in
      let t = e % T in
      let f = elements-factored q h.quotient in
      let a = translation-below t b.1 in
      let c : r * T < order_of q = rotation-below e l in
      let x = times (element t) (element (r * T)) in
      let same : r * T + t ≡ number_of q x = f.factors r t b.0 b.1 ∙ (λ i. (quotient_group q).product (f.translations t b.1 i) (f.operations r b.0 i)) in
      subst (λ k. IsSameElement q.d (element k) x) (sym same ∙ div-add-mod' e T)
      (element-number q h.quotient x (product-member q h.quotient (element t) (element (r * T)) (member t a) (member (r * T) c)))

  pub phase-split : (e j i : ℕ) → e < order_of q → j < A → i < A
      → part_phase p s (element e) j i ≡ (part_phase p s (element (e % T)) j j + part_phase p s (element (e / T * T)) j i) % 24
  phase-split e j i le lj li =
      let b = places-below q h.quotient e le in
      let t = e % T in
      let r = e / T * T in
      let lt = translation-below t b.1 in
      let lr = rotation-below e le in
      let x = times (element t) (element r) in
      let mx = product-member q h.quotient (element t) (element r) (member t lt) (member r lr) in
      same-phase (part e j i) (little_part p s x j i) (part-of-group e j i le lj li) (part-member p hp s.row s h.star x j i mx lj li)
      (part-same q h.quotient s.row s h.star (element e) x j i (member e le) mx (element-split e le) lj li)
      ∙ ap phase (part-product p hp s.row s h.star (element t) (element r) j j i lj)
      ∙ phase-joined (part t j j) (part r j i) (part-of-group t j j lt lj lj) (part-of-group r j i lr lj li) (diagonal-rotation t j b.1 lj)

  rep-first : representative p s 0 ≡ seitz_identity whole
  rep-first = ap (op_at p.ops) (star-first p hp s.row s h.star).by ∙ hp.list.identity

  inverse-identity : seitz_inverse whole (seitz_identity whole) ≡ seitz_identity whole
  inverse-identity =
      let one = seitz_identity whole in
      sym (seitz_product-identity (seitz_inverse whole one)) ∙ back-seitz one (word-unimodular p.generators p.lattice hp.generators.unimodular one (word-identity p.generators p.lattice))

  part-first : (g : Seitz ℤ) → little_part p s g 0 0 ≡ g
  part-first g =
      let one = seitz_identity whole in
      (λ i. times (seitz_inverse whole (rep-first i)) (times g (rep-first i))) ∙ ap (λ x. times x (times g one)) inverse-identity ∙ identity-seitz_product (times g one) ∙ seitz_product-identity g

  pub first-arm : 0 < A
  first-arm = (star-first p hp s.row s h.star).some

  pub first-rotation : (e : ℕ) → e < order_of q → rotation_of p (part e 0 0) ≡ e / T
  first-rotation e l = ap (rotation_of p) (part-first (element e)) ∙ element-rotation q h.quotient e l

  pub first-block : (e : ℕ) → e < order_of q → is_listed s.little (e / T) ≡ true → is_block p s (element e) 0 0 ≡ true
  first-block e l t = ap (is_listed s.little) (first-rotation e l) ∙ t

  -- the phase of an element on the first arm is that of its translation
  pub first-phase : (e t : ℕ) → e < order_of q → t < T → e % T ≡ t → part_phase p s (element e) 0 0 ≡ part_phase p s (element t) 0 0
  first-phase e t l lt f =
      ap phase (part-first (element e)) ∙ element-phase e l ∙ ap (λ k. phase_of s.row (translation_at q.translations k)) (f ∙ sym (no_remainder t T lt))
      ∙ sym (element-phase t (translation-below t lt)) ∙ sym (ap phase (part-first (element t)))

  -- a lattice vector has the phase of a translation of the supercell
  translation-known : (v : Vector ℤ) → IsLatticeVector p.lattice v → HasPower q s (phase_of s.row v)
  translation-known v l =
      let x = translation v in
      let mx = translation-of-group v l in
      let k = number_of q x in
      let lk = number-below q h.quotient x mx in
      let same = element-number q h.quotient x mx in
      let one : times x (op_at p.ops 0) ≡ x = ap (times x) hp.list.identity ∙ seitz_product-identity x in
      let zero : k / T ≡ 0 =
      sym (element-rotation q h.quotient k lk) ∙ ap (place_of p.ops) same.rotation ∙ rotation_of-listed p hp x 0 some (sym (ap (λ (g : Seitz ℤ). g.rot) hp.list.identity)) in
      let below : k % T < T = (places-below q h.quotient k lk).1 in (
        k,
        below_divisor k T (omega (arith, below)) zero,
        ap phase (part-first (element k)) ∙ same-phase (element k) x (member k lk) mx same ∙ ap phase (sym one) ∙ ap (phase_of s.row) (rest-translation v 0 some),
      )

  pub power-known : (e j i : ℕ) → e < order_of q → j < A → i < A → HasPower q s (part_phase p s (element e) j i)
  power-known e j i le lj li = translation-known (rest_of p (part e j i)) (member-rest p hp (part e j i) (part-of-group e j i le lj li))
