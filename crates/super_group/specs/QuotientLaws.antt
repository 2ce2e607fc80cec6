-- Laws of a group modulo a supercell.
--
-- row_below: the place of a row and a column
-- element-member, element-inside: an element is a member, inside the supercell
-- number-below, element-number: a member's number is that of the one element that it is
-- quotient-numbered: numbers and elements belong to each other
-- rest-among: what a member has more than its listed operation is one of the translations
-- number-element, number-same, number-apart: the other laws of numbers
-- number-product, number-inverse, number-identity: numbers multiply as members, the identity is 0
-- quotient-lawful: the numbers are a group
use Rattle.std.proofs.Common.{◌≡◌, refl, sym, ap, ◌∙◌, subst, ℕ, zero, suc, ◌<◌, ◌+◌, ◌*◌, ◌/◌, ◌%◌, ℤ, length, arith}
use Rattle.std.proofs.lemmas.Int.{ints}
use Rattle.std.proofs.lemmas.Nat.{mul-add-lt, div-mul-add, mod-mul-add, div-add-mod', div_below, mod_below}
use Rattle.algebra.specs.Whole.{whole}
use Rattle.space_ops.specs.Matrix.{Vector, vector_sum, zero_vector}
use Rattle.space_ops.specs.MatrixLaws.{same_vector}
use Rattle.space_ops.specs.Seitz.{Seitz, seitz_product, seitz_inverse, seitz_identity}
use Rattle.space_ops.specs.Op.{IsUnimodular}
use Rattle.space_ops.specs.OpLaws.{back-seitz, seitz_product-assoc, identity-seitz_product}
use Rattle.space_ops.specs.Words.{op_at, vector_difference, IsLatticeVector}
use Rattle.space_ops.specs.LatticeLaws.{differ-trans}
use Rattle.space_ops.specs.WordLaws.{more_less, word-same, word-product, word-identity}
use Rattle.space_ops.specs.GroupLaws.{place_of, place_of-is, word-unimodular}
use Rattle.algebra.specs.NumberedGroup.{IsGroup}
use Rattle.super_group.specs.Supercell.{IsCell, IsSameElement, IsInside, reduced}
use Rattle.super_group.specs.SupercellLaws.{cell-lattice, cell_differ-trans, same-refl, same-sym, same-trans, same-product, same-inverse, reduced-cell, reduced-inside, reduced-lattice, reduced-same, inside-unique, member-inverse}
use Rattle.super_group.specs.Quotient.{SupercellGroup, IsQuotient, IsMember, translation_at, order_of, element_of, place_among, number_of, quotient_group, IsNumbered}
use Rattle.super_group.specs.QuotientParts.{IsAmong}
use Rattle.super_group.specs.PlaceLaws.{place_among-is, place_among-at, translations-rising, zero-first}

-- differences of differences
same_less : (a b t : Vector ℤ) → vector_difference (vector_difference a t) (vector_difference b t) ≡ vector_difference a b
same_less a b t = same_vector _ _ (omega (arith, ints)) (omega (arith, ints)) (omega (arith, ints))

move_left : (a t v : Vector ℤ) → vector_difference (vector_difference a t) v ≡ vector_difference a (vector_sum whole t v)
move_left a t v = same_vector _ _ (omega (arith, ints)) (omega (arith, ints)) (omega (arith, ints))

move_right : (t v a : Vector ℤ) → vector_difference v (vector_difference a t) ≡ vector_difference (vector_sum whole t v) a
move_right t v a = same_vector _ _ (omega (arith, ints)) (omega (arith, ints)) (omega (arith, ints))

-- the place of row r and column t, for rows of T places
pub row_below : (R T r t : ℕ) → r < R → t < T → r * T + t < R * T
row_below R T r t l m = let k : r * T + t < T * R = mul-add-lt r T t R l m in let c : T * R ≡ R * T = omega arith in omega (arith, k, c)

some_columns : (R T q : ℕ) → q < R * T → 0 < T
some_columns R zero q l = let c : R * 0 ≡ 0 = omega arith in absurd (omega (arith, l, c))
some_columns R (suc T) q l = omega arith

module _ (s : SupercellGroup) (h : IsQuotient s) where
  abbrev pub T : ℕ
  T = length s.translations

  abbrev pub listed : ℕ → Seitz ℤ
  listed r = op_at s.parent.ops r

  abbrev pub rotation_of : Seitz ℤ → ℕ
  rotation_of g = place_of s.parent.ops g.rot

  -- what a translation has more than the listed one, inside the supercell
  abbrev pub rest_of : Seitz ℤ → Vector ℤ
  rest_of g = reduced s.d (vector_difference g.shift (listed (rotation_of g)).shift)

  pub rotation-is : (g : Seitz ℤ) → IsMember s g → (rotation_of g < length s.parent.ops) × ((listed (rotation_of g)).rot ≡ g.rot)
  rotation-is g m = let a = h.parent.list.complete g m in place_of-is s.parent.ops g.rot (a.place, a.below, a.same.rotation)

  pub rotation-at : (r : ℕ) → r < length s.parent.ops → (g : Seitz ℤ) → g.rot ≡ (listed r).rot → rotation_of g ≡ r
  rotation-at r l g e =
      let q = place_of-is s.parent.ops g.rot (r, l, e) in
      h.parent.list.apart (rotation_of g) r q.0 l (q.1 ∙ e)

  rest-lattice : (g : Seitz ℤ) → IsMember s g → IsLatticeVector s.parent.lattice (vector_difference g.shift (listed (rotation_of g)).shift)
  rest-lattice g m =
      let a = h.parent.list.complete g m in
      subst (λ n. IsLatticeVector s.parent.lattice (vector_difference g.shift (listed n).shift)) (sym (rotation-at a.place a.below g a.same.rotation)) a.same.translation

  pub rest-among : (g : Seitz ℤ) → IsMember s g → IsAmong s.translations (rest_of g)
  rest-among g m =
      let v = vector_difference g.shift (listed (rotation_of g)).shift in
      h.translations.every (rest_of g) (reduced-lattice s.d h.supercell.positive s.parent.lattice v (rest-lattice g m)) (reduced-inside s.d h.supercell.positive v)

  pub rest-is : (g : Seitz ℤ) → IsMember s g → (place_among s.translations (rest_of g) < T) × (translation_at s.translations (place_among s.translations (rest_of g)) ≡ rest_of g)
  rest-is g m = place_among-is s.translations (rest_of g) (rest-among g m)

  pub number-below : (g : Seitz ℤ) → IsMember s g → number_of s g < order_of s
  unfolding number_of
  number-below g m = row_below (length s.parent.ops) T (rotation_of g) (place_among s.translations (rest_of g)) (rotation-is g m).0 (rest-is g m).0

  -- the element of rotation r and translation t
  abbrev pub element_at : ℕ → ℕ → Seitz ℤ
  element_at r t = record {
    rot = (listed r).rot;
    shift = reduced s.d (vector_sum whole (listed r).shift (translation_at s.translations t));
  }

  element-at : (r t : ℕ) → t < T → element_of s (r * T + t) ≡ element_at r t
  unfolding element_of
  element-at r t l = λ i. element_at (div-mul-add r T t l i) (mod-mul-add r T t l i)

  pub element-parts : (q : ℕ) → element_of s q ≡ element_at (q / T) (q % T)
  unfolding element_of
  element-parts q = refl

  same-rest : (g : Seitz ℤ) (v : Vector ℤ) → v ≡ rest_of g → IsCell s.d (vector_difference (reduced s.d (vector_sum whole (listed (rotation_of g)).shift v)) g.shift)
  same-rest g v e =
      let t = (listed (rotation_of g)).shift in
      let y = vector_sum whole t v in
      let w = vector_difference g.shift t in
      cell_differ-trans s.d (reduced s.d y) y g.shift (reduced-cell s.d h.supercell.positive y)
      (subst (IsCell s.d) (ap (λ u. vector_difference u w) (sym e) ∙ move_right t v g.shift) (reduced-cell s.d h.supercell.positive w))

  pub element-number : (g : Seitz ℤ) → IsMember s g → IsSameElement s.d (element_of s (number_of s g)) g
  unfolding number_of
  element-number g m =
      let t = place_among s.translations (rest_of g) in
      subst (λ x. IsSameElement s.d x g) (sym (element-at (rotation_of g) t (rest-is g m).0))
      (record { rotation = (rotation-is g m).1; translation = same-rest g (translation_at s.translations t) (rest-is g m).1 })

  pub places-below : (q : ℕ) → q < order_of s → (q / T < length s.parent.ops) × (q % T < T)
  places-below q l =
      let k = some_columns (length s.parent.ops) T q l in
      (div_below q T (length s.parent.ops) k l, mod_below q T k)

  pub element-member : (q : ℕ) → q < order_of s → IsMember s (element_of s q)
  element-member q l =
      let r = q / T in
      let v = translation_at s.translations (q % T) in
      let t = (listed r).shift in
      let y = vector_sum whole t v in
      subst (IsMember s) (sym (element-parts q))
      (word-same s.parent.generators s.parent.lattice (element_at r (q % T)) (listed r) (h.parent.list.are_words r (places-below q l).0) (record {
        rotation = refl;
        translation = differ-trans s.parent.lattice (reduced s.d y) y t
            (cell-lattice s.parent.lattice s.d (vector_difference (reduced s.d y) y) (reduced-cell s.d h.supercell.positive y))
            (subst (IsLatticeVector s.parent.lattice) (sym (more_less t v)) (h.translations.in_lattice (q % T) (places-below q l).1));
      }))

  pub element-inside : (q : ℕ) → IsInside s.d (element_of s q).shift
  element-inside q =
      subst (λ (g : Seitz ℤ). IsInside s.d g.shift) (sym (element-parts q))
      (reduced-inside s.d h.supercell.positive (vector_sum whole (listed (q / T)).shift (translation_at s.translations (q % T))))

  -- the rest of an element is its translation
  back : (t v : Vector ℤ) → IsInside s.d v → reduced s.d (vector_difference (reduced s.d (vector_sum whole t v)) t) ≡ v
  back t v i =
      let y = vector_sum whole t v in
      let w = vector_difference (reduced s.d y) t in
      inside-unique s.d (reduced s.d w) v (reduced-inside s.d h.supercell.positive w) i
      (cell_differ-trans s.d (reduced s.d w) w v (reduced-cell s.d h.supercell.positive w)
      (subst (IsCell s.d) (sym (move_left (reduced s.d y) t v)) (reduced-cell s.d h.supercell.positive y)))

  number-at : (r t : ℕ) → r < length s.parent.ops → t < T → number_of s (element_at r t) ≡ r * T + t
  unfolding number_of
  number-at r t l m =
      let g = element_at r t in
      let v = translation_at s.translations t in
      ap (λ n. n * T + place_among s.translations (reduced s.d (vector_difference g.shift (listed n).shift))) (rotation-at r l g refl)
      ∙ ap (λ k. r * T + k)
      (place_among-at s.translations (translations-rising s.parent.lattice s.d s.translations h.translations) t m
      (reduced s.d (vector_difference g.shift (listed r).shift)) (sym (back (listed r).shift v (h.translations.inside t m))))

  pub number-element : (q : ℕ) → q < order_of s → number_of s (element_of s q) ≡ q
  number-element q l =
      ap (number_of s) (element-parts q) ∙ number-at (q / T) (q % T) (places-below q l).0 (places-below q l).1 ∙ div-add-mod' q T

  pub number-same : (g k : Seitz ℤ) → IsSameElement s.d g k → number_of s g ≡ number_of s k
  unfolding number_of
  number-same g k a =
      let t = (listed (rotation_of k)).shift in
      ap (λ r. place_of s.parent.ops r * T + place_among s.translations (reduced s.d (vector_difference g.shift (listed (place_of s.parent.ops r)).shift))) a.rotation
      ∙ ap (λ v. rotation_of k * T + place_among s.translations v)
      (reduced-same s.d h.supercell.positive (vector_difference g.shift t) (vector_difference k.shift t)
      (subst (IsCell s.d) (sym (same_less g.shift k.shift t)) a.translation))

  pub number-apart : (g k : Seitz ℤ) → IsMember s g → IsMember s k → number_of s g ≡ number_of s k → IsSameElement s.d g k
  number-apart g k m n e =
      same-trans s.d g (element_of s (number_of s g)) k (same-sym s.d (element_of s (number_of s g)) g (element-number g m))
      (subst (λ q. IsSameElement s.d (element_of s q) k) (sym e) (element-number k n))

  pub quotient-numbered : IsNumbered s
  quotient-numbered = record {
    element-member = element-member;
    element-inside = λ q l. element-inside q;
    number-below = number-below;
    element-number = element-number;
    number-element = number-element;
    number-same = λ g k m n a. number-same g k a;
    number-apart = number-apart;
  }

  pub product-member : (g k : Seitz ℤ) → IsMember s g → IsMember s k → IsMember s (seitz_product whole g k)
  product-member = word-product s.parent.generators s.parent.lattice

  held : (g : Seitz ℤ) → IsMember s g → IsMember s (element_of s (number_of s g))
  held g m = element-member (number_of s g) (number-below g m)

  -- the element of a number may stand for the member
  number-left : (g k : Seitz ℤ) → IsMember s g → IsMember s k → number_of s (seitz_product whole (element_of s (number_of s g)) k) ≡ number_of s (seitz_product whole g k)
  number-left g k m n =
      let e = element_of s (number_of s g) in
      number-same (seitz_product whole e k) (seitz_product whole g k) (same-product s h e g k k (held g m) m n n (element-number g m) (same-refl s.d k))

  number-right : (g k : Seitz ℤ) → IsMember s g → IsMember s k → number_of s (seitz_product whole k (element_of s (number_of s g))) ≡ number_of s (seitz_product whole k g)
  number-right g k m n =
      let e = element_of s (number_of s g) in
      number-same (seitz_product whole k e) (seitz_product whole k g) (same-product s h k k e g n n (held g m) m (same-refl s.d k) (element-number g m))

  pub number-product : (g k : Seitz ℤ) → IsMember s g → IsMember s k → (quotient_group s).product (number_of s g) (number_of s k) ≡ number_of s (seitz_product whole g k)
  number-product g k m n = number-left g (element_of s (number_of s k)) m (held k n) ∙ number-right k g n m

  pub number-inverse : (g : Seitz ℤ) → IsMember s g → (quotient_group s).inverse (number_of s g) ≡ number_of s (seitz_inverse whole g)
  number-inverse g m =
      let e = element_of s (number_of s g) in
      number-same (seitz_inverse whole e) (seitz_inverse whole g) (same-inverse s h e g (held g m) m (element-number g m))

  identity-member : IsMember s (seitz_identity whole)
  identity-member = word-identity s.parent.generators s.parent.lattice

  first-translation : (0 < T) × (translation_at s.translations 0 ≡ zero_vector whole)
  first-translation = zero-first s.parent.lattice s.d s.translations h.supercell.positive h.translations

  nothing : reduced s.d (vector_difference (zero_vector whole) (zero_vector whole)) ≡ zero_vector whole
  nothing =
      let v = vector_difference (zero_vector whole) (zero_vector whole) in
      inside-unique s.d (reduced s.d v) (zero_vector whole) (reduced-inside s.d h.supercell.positive v)
      (subst (IsInside s.d) first-translation.1 (h.translations.inside 0 first-translation.0)) (reduced-cell s.d h.supercell.positive v)

  -- the identity is rotation 0 and translation 0 of the lists
  pub number-identity : number_of s (seitz_identity whole) ≡ 0
  unfolding number_of
  number-identity =
      let one = seitz_identity whole in
      ap (λ r. r * T + place_among s.translations (reduced s.d (vector_difference (zero_vector whole) (listed r).shift)))
      (rotation-at 0 h.parent.list.some one (ap (λ (g : Seitz ℤ). g.rot) (sym h.parent.list.identity)))
      ∙ ap (λ (g : Seitz ℤ). 0 * T + place_among s.translations (reduced s.d (vector_difference (zero_vector whole) g.shift))) h.parent.list.identity
      ∙ ap (λ n. 0 * T + n)
      (place_among-at s.translations (translations-rising s.parent.lattice s.d s.translations h.translations) 0 first-translation.0
      (reduced s.d (vector_difference (zero_vector whole) (zero_vector whole))) (first-translation.1 ∙ sym nothing))
      ∙ omega arith

  some-elements : 0 < order_of s
  some-elements = let k : number_of s (seitz_identity whole) < order_of s = number-below (seitz_identity whole) identity-member in omega (arith, k)

  pub member-unimodular : (g : Seitz ℤ) → IsMember s g → IsUnimodular g.rot
  member-unimodular = word-unimodular s.parent.generators s.parent.lattice h.parent.generators.unimodular

  zero-product : (a : ℕ) → a < order_of s → (quotient_group s).product 0 a ≡ a
  zero-product a l =
      ap (λ n. (quotient_group s).product n a) (sym number-identity)
      ∙ number-left (seitz_identity whole) (element_of s a) identity-member (element-member a l)
      ∙ ap (number_of s) (identity-seitz_product (element_of s a)) ∙ number-element a l

  back-product : (a : ℕ) → a < order_of s → (quotient_group s).product ((quotient_group s).inverse a) a ≡ 0
  back-product a l =
      let g = element_of s a in
      let m = element-member a l in
      number-left (seitz_inverse whole g) g (member-inverse s h g m) m ∙ ap (number_of s) (back-seitz g (member-unimodular g m)) ∙ number-identity

  pub quotient-lawful : IsGroup (quotient_group s)
  quotient-lawful = record {
    product_below = λ a b l m. number-below (seitz_product whole (element_of s a) (element_of s b)) (product-member (element_of s a) (element_of s b) (element-member a l) (element-member b m));
    inverse_below = λ a l. number-below (seitz_inverse whole (element_of s a)) (member-inverse s h (element_of s a) (element-member a l));
    identity_below = some-elements;
    identity-product = zero-product;
    inverse-product = back-product;
    product_assoc = λ a b c l m n.
        let x = element_of s a in
        let y = element_of s b in
        let z = element_of s c in
        let mx = element-member a l in
        let my = element-member b m in
        let mz = element-member c n in
        number-left (seitz_product whole x y) z (product-member x y mx my) mz ∙ ap (number_of s) (seitz_product-assoc x y z)
        ∙ sym (number-right (seitz_product whole y z) x (product-member y z my mz) mx);
  }
