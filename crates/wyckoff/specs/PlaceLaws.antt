-- Laws of places modulo a supercell, and of their images.
--
-- in_millionths d: the multipliers of the supercell, whose twelfths are units
-- reduced_place-is, in_supercell-is: places modulo the supercell, as vectors modulo one of these multipliers
-- place-cell, place-inside, place-same, place-itself: a place modulo the supercell
-- units-cell, cell-units: the translations of the supercell in units
-- same-units, shifts-differ: translations in units
-- moved-product, moved-identity, moved-translation: products of operations move places one after the other
-- cell-moved, same-moved: places that differ by a cell, and operations that do
-- moved-again: a place may be reduced before it is moved
-- image-as, image-number: the image under an element is that under each member that it is
-- image-inside, image-reduced, image-identity, image-product: images are places in the supercell, and multiply
-- image-turned, image-shifted, image-factors: listed operations and translations
-- orbit-image, image-orbit: members of the parent group take places to places of the orbit
use Rattle.std.proofs.Common.{◌≡◌, refl, sym, ap, ◌∙◌, subst, ℕ, zero, suc, ◌<◌, ◌*◌, ◌/◌, ◌%◌, ℤ, pos, ◌+ℤ◌, ◌*ℤ◌, ◌≤ℤ◌, ◌<ℤ◌, List, [], ◌∷◌, length, arith}
use Rattle.std.proofs.lemmas.Int.{ints}
use Rattle.std.proofs.Math.IntN.{pos-*ℤ-pos}
use Rattle.std.specs.Int.{int_rem_euclid}
use Rattle.algebra.specs.Solve.{V, exps, at}
use Rattle.algebra.specs.SolveLaws.{solve}
use Rattle.algebra.specs.Whole.{whole}
use Rattle.algebra.specs.WholeLaws.{whole_ring}
use Rattle.space_ops.specs.Matrix.{Matrix, Vector, image_under, vector_sum, zero_vector, unit_matrix}
use Rattle.space_ops.specs.MatrixLaws.{same_vector, image_under-product, image_under-difference}
use Rattle.space_ops.specs.Seitz.{Seitz, seitz_product, seitz_identity}
use Rattle.space_ops.specs.Words.{op_at, vector_difference}
use Rattle.space_ops.specs.WordLaws.{translation, word-lattice, word-identity}
use Rattle.super_group.specs.Supercell.{multiplier, IsCell, IsSameElement, IsInside, reduced}
use Rattle.super_group.specs.SupercellLaws.{cell_differ-sym, cell_differ-trans, cell-lattice, member-cell, reduced-cell, reduced-inside, reduced-same, inside-unique}
use Rattle.super_group.specs.Quotient.{SupercellGroup, IsQuotient, IsMember, translation_at, order_of, element_of, number_of, quotient_group}
use Rattle.super_group.specs.QuotientLaws.{element-member, element-number, number-below, product-member, number-identity, places-below}
use Rattle.super_group.specs.Elements.{translation_element}
use Rattle.super_group.specs.ElementLaws.{element-same, number-translation, number-operation}
use Rattle.wyckoff.specs.Places.{in_units, moved, reduced_place, IsInSupercell, image_in, IsOnOrbit}
use Rattle.wyckoff.specs.OrbitParts.{turned_at, shifted_at}

-- a twelfth of a millionth of a cell edge is a unit
abbrev pub in_millionths : List ℕ → List ℕ
in_millionths d = 1000000 * multiplier d 0 ∷ 1000000 * multiplier d 1 ∷ 1000000 * multiplier d 2 ∷ []

length_is : (m : ℕ) → 12000000 * m ≡ 12 * (1000000 * m)
length_is m = omega arith

pub reduced_place-is : (d : List ℕ) (x : Vector ℤ) → reduced_place d x ≡ reduced (in_millionths d) x
reduced_place-is d x =
    same_vector (reduced_place d x) (reduced (in_millionths d) x) (ap (λ n. int_rem_euclid x.x (pos n)) (length_is (multiplier d 0))) (ap (λ n. int_rem_euclid x.y (pos n)) (length_is (multiplier d 1)))
    (ap (λ n. int_rem_euclid x.z (pos n)) (length_is (multiplier d 2)))

along_is : (m : ℕ) (c : ℤ) → (pos 0 ≤ℤ c) × (c <ℤ pos (12 * (1000000 * m))) → (pos 0 ≤ℤ c) × (c <ℤ pos (12000000 * m))
along_is m c h = (h.0, subst (λ n. c <ℤ pos n) (sym (length_is m)) h.1)

along_back : (m : ℕ) (c : ℤ) → (pos 0 ≤ℤ c) × (c <ℤ pos (12000000 * m)) → (pos 0 ≤ℤ c) × (c <ℤ pos (12 * (1000000 * m)))
along_back m c h = (h.0, subst (λ n. c <ℤ pos n) (length_is m) h.1)

pub in_supercell-is : (d : List ℕ) (x : Vector ℤ) → IsInside (in_millionths d) x → IsInSupercell d x
in_supercell-is d x h = (along_is (multiplier d 0) x.x h.0, along_is (multiplier d 1) x.y h.1, along_is (multiplier d 2) x.z h.2)

inside-is : (d : List ℕ) (x : Vector ℤ) → IsInSupercell d x → IsInside (in_millionths d) x
inside-is d x h = (along_back (multiplier d 0) x.x h.0, along_back (multiplier d 1) x.y h.1, along_back (multiplier d 2) x.z h.2)

times_positive : (m : ℕ) → 0 < m → 0 < 1000000 * m
times_positive m l = omega arith

positive : (d : List ℕ) → ((i : ℕ) → i < 3 → 0 < multiplier d i) → (i : ℕ) → i < 3 → 0 < multiplier (in_millionths d) i
positive d p zero l = times_positive (multiplier d 0) (p 0 l)
positive d p (suc zero) l = times_positive (multiplier d 1) (p 1 l)
positive d p (suc (suc zero)) l = times_positive (multiplier d 2) (p 2 l)
positive d p (suc (suc (suc i))) l = absurd (omega arith)

-- the places differ by a translation of the supercell
abbrev pub DifferByCell : List ℕ → Vector ℤ → Vector ℤ → Type 0
DifferByCell d v w = IsCell (in_millionths d) (vector_difference v w)

module _ (d : List ℕ) (p : (i : ℕ) → i < 3 → 0 < multiplier d i) where
  pub place-cell : (v : Vector ℤ) → DifferByCell d (reduced_place d v) v
  place-cell v = subst (λ (w : Vector ℤ). DifferByCell d w v) (sym (reduced_place-is d v)) (reduced-cell (in_millionths d) (positive d p) v)

  pub place-inside : (v : Vector ℤ) → IsInSupercell d (reduced_place d v)
  place-inside v = in_supercell-is d (reduced_place d v) (subst (IsInside (in_millionths d)) (sym (reduced_place-is d v)) (reduced-inside (in_millionths d) (positive d p) v))

  pub place-same : (v w : Vector ℤ) → DifferByCell d v w → reduced_place d v ≡ reduced_place d w
  place-same v w c = reduced_place-is d v ∙ reduced-same (in_millionths d) (positive d p) v w c ∙ sym (reduced_place-is d w)

  pub place-itself : (v : Vector ℤ) → IsInSupercell d v → reduced_place d v ≡ v
  place-itself v h = inside-unique (in_millionths d) (reduced_place d v) v (inside-is d (reduced_place d v) (place-inside v)) (inside-is d v h) (place-cell v)

-- translations of the supercell in units
units_along : (m : ℕ) (u x : ℤ) → x ≡ pos (12 * m) *ℤ u → pos 1000000 *ℤ x ≡ pos (12 * (1000000 * m)) *ℤ u
units_along m u x e =
    let n : 1000000 * (12 * m) ≡ 12 * (1000000 * m) = omega arith in
    ap (λ y. pos 1000000 *ℤ y) e ∙ sym (whole_ring.mul_assoc (pos 1000000) (pos (12 * m)) u) ∙ ap (λ y. y *ℤ u) (pos-*ℤ-pos 1000000 (12 * m)) ∙ ap (λ k. pos k *ℤ u) n

pub units-cell : (d : List ℕ) (v : Vector ℤ) → IsCell d v → IsCell (in_millionths d) (in_units v)
units-cell d v c = record {
  edges = c.edges;
  x = units_along (multiplier d 0) c.edges.x v.x c.x;
  y = units_along (multiplier d 1) c.edges.y v.y c.y;
  z = units_along (multiplier d 2) c.edges.z v.z c.z;
}

-- a translation of the supercell in units is one in twelfths
abbrev cell_in_twelfths : (d : List ℕ) → Vector ℤ → Vector ℤ
cell_in_twelfths d u = record { x = pos (12 * multiplier d 0) *ℤ u.x; y = pos (12 * multiplier d 1) *ℤ u.y; z = pos (12 * multiplier d 2) *ℤ u.z }

pub cell-units : (d : List ℕ) (v : Vector ℤ) → IsCell (in_millionths d) v → (w : Vector ℤ) × IsCell d w × (in_units w ≡ v)
cell-units d v c =
    let w = cell_in_twelfths d c.edges in (
      w,
      record { edges = c.edges; x = refl; y = refl; z = refl },
      same_vector (in_units w) v (units_along (multiplier d 0) c.edges.x w.x refl ∙ sym c.x) (units_along (multiplier d 1) c.edges.y w.y refl ∙ sym c.y) (units_along (multiplier d 2) c.edges.z w.z refl ∙ sym c.z),
    )

cancelled : (a b : ℤ) → pos 1000000 *ℤ a ≡ pos 1000000 *ℤ b → a ≡ b
cancelled a b e = omega (arith, ints, e)

pub same-units : (v w : Vector ℤ) → in_units v ≡ in_units w → v ≡ w
same-units v w e =
    same_vector v w (cancelled v.x w.x (ap (λ (u : Vector ℤ). u.x) e)) (cancelled v.y w.y (ap (λ (u : Vector ℤ). u.y) e)) (cancelled v.z w.z (ap (λ (u : Vector ℤ). u.z) e))

units_difference : (v w : Vector ℤ) → in_units (vector_difference v w) ≡ vector_difference (in_units v) (in_units w)
units_difference v w = same_vector _ _ (omega (arith, ints)) (omega (arith, ints)) (omega (arith, ints))

row_scaled : (c a b e x y z : ℤ) → (a *ℤ (c *ℤ x) +ℤ b *ℤ (c *ℤ y)) +ℤ e *ℤ (c *ℤ z) ≡ c *ℤ ((a *ℤ x +ℤ b *ℤ y) +ℤ e *ℤ z)
row_scaled c a b e x y z =
    solve whole whole_ring (at (pos 0) (c ∷ a ∷ b ∷ e ∷ x ∷ y ∷ z ∷ []))
    (exps.add (exps.add (exps.mul (V 1) (exps.mul (V 0) (V 4))) (exps.mul (V 2) (exps.mul (V 0) (V 5)))) (exps.mul (V 3) (exps.mul (V 0) (V 6))))
    (exps.mul (V 0) (exps.add (exps.add (exps.mul (V 1) (V 4)) (exps.mul (V 2) (V 5))) (exps.mul (V 3) (V 6))))
    refl

units_image : (r : Matrix ℤ) (v : Vector ℤ) → image_under whole r (in_units v) ≡ in_units (image_under whole r v)
units_image r v =
    same_vector _ _ (row_scaled (pos 1000000) r.r00 r.r01 r.r02 v.x v.y v.z) (row_scaled (pos 1000000) r.r10 r.r11 r.r12 v.x v.y v.z) (row_scaled (pos 1000000) r.r20 r.r21 r.r22 v.x v.y v.z)

units_sum : (v w : Vector ℤ) → in_units (vector_sum whole v w) ≡ vector_sum whole (in_units v) (in_units w)
units_sum v w = same_vector _ _ (omega (arith, ints)) (omega (arith, ints)) (omega (arith, ints))

-- sums in another order
swapped : (v w : Vector ℤ) → vector_sum whole v w ≡ vector_sum whole w v
swapped v w = same_vector _ _ (omega (arith, ints)) (omega (arith, ints)) (omega (arith, ints))

nothing_more : (v : Vector ℤ) → vector_sum whole (zero_vector whole) v ≡ v
nothing_more v = same_vector _ _ (omega (arith, ints)) (omega (arith, ints)) (omega (arith, ints))

-- {R|t}{S|s} moves as {S|s}, then {R|t}
pub moved-product : (g h : Seitz ℤ) (x : Vector ℤ) → moved (seitz_product whole g h) x ≡ moved g (moved h x)
moved-product g h x =
    let t = in_units g.shift in
    let u = in_units h.shift in
    let image = image_under whole g.rot in
    ap (vector_sum whole (image_under whole (seitz_product whole g h).rot x)) (units_sum g.shift (image h.shift) ∙ ap (vector_sum whole t) (sym (units_image g.rot h.shift)))
    ∙ swapped (image_under whole (seitz_product whole g h).rot x) (vector_sum whole t (image u))
    ∙ image_under-product whole whole_ring g.rot h.rot t u x
    ∙ ap (λ w. vector_sum whole t (image w)) (swapped u (image_under whole h.rot x))
    ∙ swapped t (image (moved h x))

unit_moved : (x t : Vector ℤ) → vector_sum whole (image_under whole (unit_matrix whole) x) t ≡ vector_sum whole x t
unit_moved x t = same_vector _ _ (omega (arith, ints)) (omega (arith, ints)) (omega (arith, ints))

pub moved-translation : (v x : Vector ℤ) → moved (translation v) x ≡ vector_sum whole x (in_units v)
moved-translation v x = unit_moved x (in_units v)

pub moved-identity : (x : Vector ℤ) → moved (seitz_identity whole) x ≡ x
moved-identity x = same_vector _ _ (omega (arith, ints)) (omega (arith, ints)) (omega (arith, ints))

same_shift : (v w t : Vector ℤ) → vector_difference (vector_sum whole v t) (vector_sum whole w t) ≡ vector_difference v w
same_shift v w t = same_vector _ _ (omega (arith, ints)) (omega (arith, ints)) (omega (arith, ints))

same_start : (v t u : Vector ℤ) → vector_difference (vector_sum whole v t) (vector_sum whole v u) ≡ vector_difference t u
same_start v t u = same_vector _ _ (omega (arith, ints)) (omega (arith, ints)) (omega (arith, ints))

-- one place, two translations
pub shifts-differ : (y v w : Vector ℤ) → vector_difference (vector_sum whole y (in_units v)) (vector_sum whole y (in_units w)) ≡ in_units (vector_difference v w)
shifts-differ y v w = same_start y (in_units v) (in_units w) ∙ sym (units_difference v w)

more_difference : (v w : Vector ℤ) → vector_sum whole w (vector_difference v w) ≡ v
more_difference v w = same_vector _ _ (omega (arith, ints)) (omega (arith, ints)) (omega (arith, ints))

module _ (s : SupercellGroup) (h : IsQuotient s) where
  abbrev d : List ℕ
  d = s.d

  abbrev T : ℕ
  T = length s.translations

  abbrev product : ℕ → ℕ → ℕ
  product = (quotient_group s).product

  abbrev Differ : Vector ℤ → Vector ℤ → Type 0
  Differ = DifferByCell s.d

  place_cell : (v : Vector ℤ) → Differ (reduced_place d v) v
  place_cell = place-cell d h.supercell.positive

  place_same : (v w : Vector ℤ) → Differ v w → reduced_place d v ≡ reduced_place d w
  place_same = place-same d h.supercell.positive

  -- the rotation of a member takes cells to cells
  cell_turned : (g : Seitz ℤ) → IsMember s g → (v : Vector ℤ) → IsCell (in_millionths d) v → IsCell (in_millionths d) (image_under whole g.rot v)
  cell_turned g m v c =
      let w = cell-units d v c in
      subst (IsCell (in_millionths d)) (sym (units_image g.rot w.0) ∙ ap (image_under whole g.rot) w.2)
      (units-cell d (image_under whole g.rot w.0) (member-cell s h g m w.0 w.1))

  pub cell-moved : (g : Seitz ℤ) → IsMember s g → (v w : Vector ℤ) → Differ v w → Differ (moved g v) (moved g w)
  cell-moved g m v w c =
      let image = image_under whole g.rot in
      subst (IsCell (in_millionths d)) (image_under-difference whole whole_ring g.rot v w ∙ sym (same_shift (image v) (image w) (in_units g.shift)))
      (cell_turned g m (vector_difference v w) c)

  pub same-moved : (g k : Seitz ℤ) → IsSameElement d g k → (x : Vector ℤ) → Differ (moved g x) (moved k x)
  same-moved g k a x =
      subst (IsCell (in_millionths d))
      (units_difference g.shift k.shift ∙ sym (same_start (image_under whole g.rot x) (in_units g.shift) (in_units k.shift))
      ∙ ap (λ r. vector_difference (moved g x) (vector_sum whole (image_under whole r x) (in_units k.shift))) a.rotation)
      (units-cell d (vector_difference g.shift k.shift) a.translation)

  pub moved-again : (g : Seitz ℤ) → IsMember s g → (x : Vector ℤ) → reduced_place d (moved g (reduced_place d x)) ≡ reduced_place d (moved g x)
  moved-again g m x = place_same (moved g (reduced_place d x)) (moved g x) (cell-moved g m (reduced_place d x) x (place_cell x))

  pub image-as : (q : ℕ) (g : Seitz ℤ) → IsSameElement d (element_of s q) g → (x : Vector ℤ) → image_in s q x ≡ reduced_place d (moved g x)
  unfolding image_in
  image-as q g a x = place_same (moved (element_of s q) x) (moved g x) (same-moved (element_of s q) g a x)

  pub image-number : (g : Seitz ℤ) → IsMember s g → (x : Vector ℤ) → image_in s (number_of s g) x ≡ reduced_place d (moved g x)
  image-number g m x = image-as (number_of s g) g (element-number s h g m) x

  pub image-inside : (q : ℕ) (x : Vector ℤ) → IsInSupercell d (image_in s q x)
  unfolding image_in
  image-inside q x = place-inside d h.supercell.positive (moved (element_of s q) x)

  pub image-reduced : (q : ℕ) → q < order_of s → (x : Vector ℤ) → image_in s q (reduced_place d x) ≡ image_in s q x
  unfolding image_in
  image-reduced q l x = moved-again (element_of s q) (element-member s h q l) x

  identity_member : IsMember s (seitz_identity whole)
  identity_member = word-identity s.parent.generators s.parent.lattice

  pub image-identity : (x : Vector ℤ) → image_in s 0 x ≡ reduced_place d x
  image-identity x =
      ap (λ q. image_in s q x) (sym (number-identity s h)) ∙ image-number (seitz_identity whole) identity_member x ∙ ap (reduced_place d) (moved-identity x)

  pub image-product : (a b : ℕ) → a < order_of s → b < order_of s → (x : Vector ℤ) → image_in s (product a b) x ≡ image_in s a (image_in s b x)
  unfolding image_in
  image-product a b l k x =
      let g = element_of s a in
      let k' = element_of s b in
      let m = element-member s h a l in
      image-number (seitz_product whole g k') (product-member s h g k' m (element-member s h b k)) x
      ∙ ap (reduced_place d) (moved-product g k' x) ∙ sym (moved-again g m (moved k' x))

  -- the listed operations and the translations among the elements
  pub image-turned : (r : ℕ) → r < length s.parent.ops → (x : Vector ℤ) → image_in s (r * T) x ≡ turned_at s r x
  image-turned r l x =
      let g = op_at s.parent.ops r in
      ap (λ q. image_in s q x) (sym (number-operation s h r l)) ∙ image-number g (h.parent.list.are_words r l) x

  pub image-shifted : (t : ℕ) → t < T → (x : Vector ℤ) → image_in s t x ≡ shifted_at s t x
  image-shifted t l x =
      let g = translation_element s t in
      ap (λ q. image_in s q x) (sym (number-translation s h t l))
      ∙ image-number g (word-lattice s.parent.generators s.parent.lattice (translation_at s.translations t) (h.translations.in_lattice t l)) x
      ∙ ap (reduced_place d) (moved-translation (translation_at s.translations t) x)

  -- q = r T + t is operation r, then translation t
  pub image-factors : (q : ℕ) → q < order_of s → (x : Vector ℤ) → image_in s q x ≡ shifted_at s (q % T) (turned_at s (q / T) x)
  image-factors q l x =
      let r = op_at s.parent.ops (q / T) in
      let t = translation_element s (q % T) in
      let b = places-below s h q l in
      let m : IsMember s t = word-lattice s.parent.generators s.parent.lattice (translation_at s.translations (q % T)) (h.translations.in_lattice (q % T) b.1) in
      image-as q (seitz_product whole t r) (element-same s h q) x ∙ ap (reduced_place d) (moved-product t r x)
      ∙ sym (moved-again t m (moved r x)) ∙ ap (reduced_place d) (moved-translation (translation_at s.translations (q % T)) (turned_at s (q / T) x))

  -- a member takes x to y
  pub orbit-image : (x y : Vector ℤ) → IsOnOrbit s x y → (q : ℕ) × (q < order_of s) × (image_in s q x ≡ reduced_place d y)
  orbit-image x y o = (number_of s o.operation, number-below s h o.operation o.member, image-number o.operation o.member x ∙ ap (reduced_place d) o.is)

  -- the image of x is y, less a translation of the supercell
  pub image-orbit : (x y : Vector ℤ) (q : ℕ) → q < order_of s → image_in s q x ≡ reduced_place d y → IsOnOrbit s x y
  unfolding image_in
  image-orbit x y q l e =
      let g = element_of s q in
      let z = moved g x in
      let c : Differ y z =
      cell_differ-trans (in_millionths d) y (reduced_place d y) z (cell_differ-sym (in_millionths d) (reduced_place d y) y (place_cell y))
      (subst (λ (w : Vector ℤ). Differ w z) e (place_cell z)) in
      let w = cell-units d (vector_difference y z) c in
      let m = word-lattice s.parent.generators s.parent.lattice w.0 (cell-lattice s.parent.lattice d w.0 w.1) in
      record {
        operation = seitz_product whole (translation w.0) g;
        member = product-member s h (translation w.0) g m (element-member s h q l);
        is = moved-product (translation w.0) g x ∙ moved-translation w.0 z ∙ ap (vector_sum whole z) w.2 ∙ more_difference y z;
      }
