-- Laws of the orbit of an atom.
--
-- places-apart, places-inside, some-place: the places of an orbit
-- places-closed: images of places of an orbit are on it
-- orbit-listed: a place is on an orbit exactly where it is listed, modulo the supercell
-- places-unique: an orbit has one list of places
-- image-at, images-act: the group permutes the atoms of an orbit
-- images-reach: the first atom is taken to each
-- translations-apart, translations-few: translations take it to different atoms
-- images-unique: an orbit has one image of each atom
-- orbits-few: the orbits of accepted lines have at most 384 atoms
-- site-place, site-subgroup: the elements that leave an atom in its place
use Rattle.std.proofs.Common.{◌≡◌, refl, sym, ap, ◌∙◌, subst, ℕ, ◌<◌, ◌≤◌, ◌+◌, ◌*◌, inl, inr, ℤ, List, [], ◌∷◌, Some, slice_get, length, get_or, arith}
use Rattle.std.proofs.lemmas.Bool.{cases_lt}
use Rattle.std.proofs.lemmas.Option.{slice_get-get_or, slice_get_within}
use Rattle.std.specs.Prelude.{◌↔◌, Contains}
use Rattle.std.specs.Cmp.Lexicographic.{slice_cmp}
use Rattle.std.specs.Ordering.{int_cmp}
use Rattle.iso_text.specs.declared.sections.AtomText.{AtomText}
use Rattle.algebra.specs.NumberedGroup.{Group, IsGroup}
use Rattle.algebra.specs.PigeonholeLaws.{pigeonhole}
use Rattle.algebra.specs.RisingListLaws.{listed-below, listed-has, has-listed}
use Rattle.algebra.specs.Subgroup.{IsSubgroup}
use Rattle.algebra.specs.Whole.{whole}
use Rattle.space_ops.specs.Matrix.{Vector, vector_sum}
use Rattle.space_ops.specs.Op.{shift_of, vector_of}
use Rattle.space_ops.specs.Words.{vector_difference}
use Rattle.super_group.specs.Supercell.{multiplier, IsCell}
use Rattle.super_group.specs.SupercellLaws.{cell_differ-sym, cell_differ-trans, inside-unique}
use Rattle.super_group.specs.Quotient.{SupercellGroup, IsQuotient, translation_at, order_of, quotient_group}
use Rattle.super_group.specs.QuotientLaws.{quotient-lawful, row_below}
use Rattle.super_group.specs.PlaceLaws.{rising-apart, translations-apart as translations-differ}
use Rattle.wyckoff.specs.Places.{in_units, reduced_place, place_at, IsInSupercell, image_in, IsOnOrbit}
use Rattle.wyckoff.specs.PlaceLaws.{in_millionths, DifferByCell, place-cell, place-itself, cell-units, same-units, shifts-differ, image-inside, image-reduced, image-identity, image-product, image-shifted, orbit-image, image-orbit}
use Rattle.wyckoff.specs.OrderedPlaceLaws.{IsRisingArrays, AreAmongArrays, rising_lists-unique}
use Rattle.wyckoff.specs.Orbit.{ArePlacesOf, OrbitView, image_of, IsOrbitOf}
use Rattle.wyckoff.specs.OrbitParts.{shifted_at}
use Rattle.wyckoff.specs.Permutations.{IsPermutationAction}
use Rattle.wyckoff.specs.Sites.{IsSiteOf}
use Rattle.wyckoff.specs.AtomLines.{AreAccepted, AreOrbitsOf}

-- the list of an orbit, as a list of arrays
rising_arrays : (s : SupercellGroup) (x : Vector ℤ) (v : List (List ℤ)) → ArePlacesOf s x v → IsRisingArrays v
rising_arrays s x v a i j l m =
    (λ t. slice_cmp int_cmp (a.shaped i (omega arith) t) (a.shaped j m t)) ∙ a.rising i j l m

same_members : (s : SupercellGroup) (x : Vector ℤ) (v w : List (List ℤ)) → ArePlacesOf s x v → ArePlacesOf s x w → AreAmongArrays v w
same_members s x v w a b i l =
    let p = a.are_images i l in
    let k = b.every p.0 p.1 in
    (k.0, k.1, b.shaped k.0 k.1 ∙ ap shift_of (k.2 ∙ sym p.2) ∙ sym (a.shaped i l))

pub places-unique : (s : SupercellGroup) (x : Vector ℤ) (v w : List (List ℤ)) → ArePlacesOf s x v → ArePlacesOf s x w → v ≡ w
places-unique s x v w a b = rising_lists-unique v w (rising_arrays s x v a) (rising_arrays s x w b) (same_members s x v w a b) (same_members s x w v b a)

-- places that are one modulo the supercell differ by a cell
place-differ : (d : List ℕ) (p : (i : ℕ) → i < 3 → 0 < multiplier d i) (v w : Vector ℤ) → reduced_place d v ≡ reduced_place d w → DifferByCell d v w
place-differ d p v w e =
    cell_differ-trans (in_millionths d) v (reduced_place d v) w (cell_differ-sym (in_millionths d) (reduced_place d v) v (place-cell d p v))
    (subst (λ (u : Vector ℤ). DifferByCell d u w) (sym e) (place-cell d p w))

module _ (s : SupercellGroup) (h : IsQuotient s) where
  abbrev group : Group
  group = quotient_group s

  lawful : IsGroup group
  lawful = quotient-lawful s h

  module _ (x : Vector ℤ) (places : List (List ℤ)) (a : ArePlacesOf s x places) where
    pub places-apart : (i j : ℕ) → i < length places → j < length places → place_at places i ≡ place_at places j → i ≡ j
    places-apart = rising-apart places (record { rising = a.rising; shaped = a.shaped })

    pub places-inside : (i : ℕ) → i < length places → IsInSupercell s.d (place_at places i)
    places-inside i l = let b = a.are_images i l in subst (IsInSupercell s.d) (sym b.2) (image-inside s h b.0 x)

    pub some-place : 0 < length places
    some-place = let b = a.every 0 lawful.identity_below in omega (arith, b.1)

    pub places-closed : (q i : ℕ) → q < order_of s → i < length places → (k : ℕ) × (k < length places) × (place_at places k ≡ image_in s q (place_at places i))
    places-closed q i l m =
        let b = a.are_images i m in
        let c = a.every (group.product q b.0) (lawful.product_below q b.0 l b.1) in
        (c.0, c.1, c.2 ∙ image-product s h q b.0 l b.1 x ∙ ap (image_in s q) (sym b.2))

    pub orbit-listed : (y : Vector ℤ) → IsOnOrbit s x y ↔ ((i : ℕ) × (i < length places) × (place_at places i ≡ reduced_place s.d y))
    orbit-listed y = (
      λ o.
          let b = orbit-image s h x y o in
          let c = a.every b.0 b.1 in
          (c.0, c.1, c.2 ∙ b.2),
      λ (i, l, e). let b = a.are_images i l in image-orbit s h x y b.0 b.1 (sym b.2 ∙ e),
    )

  module _ (atom : AtomText) (o : OrbitView) (w : IsOrbitOf s atom o) where
    abbrev n : ℕ
    n = length o.places

    abbrev x : Vector ℤ
    x = vector_of atom.place

    apart : (i j : ℕ) → i < n → j < n → place_at o.places i ≡ place_at o.places j → i ≡ j
    apart = places-apart x o.places w.places

    held : (q : ℕ) → q < order_of s → q < o.order
    held q l = subst (λ m. q < m) (sym w.order) l

    below : (q i : ℕ) → q < order_of s → i < n → image_of o q i < n
    below q i l m = w.image_below q i (held q l) m

    pub image-at : (q i : ℕ) → q < order_of s → i < n → place_at o.places (image_of o q i) ≡ image_in s q (place_at o.places i)
    image-at q i l m = w.images q i (held q l) m

    identity_at : (i : ℕ) → i < n → image_of o 0 i ≡ i
    identity_at i l =
        apart (image_of o 0 i) i (below 0 i lawful.identity_below l) l
        (image-at 0 i lawful.identity_below l ∙ image-identity s h (place_at o.places i) ∙ place-itself s.d h.supercell.positive (place_at o.places i) (places-inside x o.places w.places i l))

    product_at : (a b i : ℕ) → a < order_of s → b < order_of s → i < n → image_of o (group.product a b) i ≡ image_of o a (image_of o b i)
    product_at a b i l m k =
        let c = lawful.product_below a b l m in
        apart (image_of o (group.product a b) i) (image_of o a (image_of o b i)) (below (group.product a b) i c k) (below a (image_of o b i) l (below b i m k))
        (image-at (group.product a b) i c k ∙ image-product s h a b l m (place_at o.places i) ∙ ap (image_in s a) (sym (image-at b i m k))
        ∙ sym (image-at a (image_of o b i) l (below b i m k)))

    back_at : (a i : ℕ) → a < order_of s → i < n → image_of o (group.inverse a) (image_of o a i) ≡ i
    back_at a i l m =
        sym (product_at (group.inverse a) a i (lawful.inverse_below a l) l m) ∙ ap (λ q. image_of o q i) (lawful.inverse-product a l) ∙ identity_at i m

    -- a point and its image under an element and its inverse have one image under the inverse
    forth_at : (a i : ℕ) → a < order_of s → i < n → image_of o a (image_of o (group.inverse a) i) ≡ i
    forth_at a i l m =
        let b = group.inverse a in
        let k : b < order_of s = lawful.inverse_below a l in
        let j = image_of o a (image_of o b i) in
        let c : j < n = below a (image_of o b i) l (below b i k m) in
        let e : image_of o b j ≡ image_of o b i = back_at a (image_of o b i) l (below b i k m) in
        sym (back_at b j k c) ∙ ap (image_of o (group.inverse b)) e ∙ back_at b i k m

    pub images-act : IsPermutationAction group n (image_of o)
    images-act = record { below = below; identity = identity_at; product = product_at; back = back_at; forth = forth_at }

    pub images-reach : (i : ℕ) → i < n → (q : ℕ) × (q < o.order) × (image_of o q 0 ≡ i)
    images-reach i l =
        let some : 0 < n = some-place x o.places w.places in
        let p = w.places.are_images 0 some in
        let b = w.places.are_images i l in
        let r = group.inverse p.0 in
        let m : r < order_of s = lawful.inverse_below p.0 p.1 in
        let c = lawful.product_below b.0 r b.1 m in (
          group.product b.0 r,
          held (group.product b.0 r) c,
          apart (image_of o (group.product b.0 r) 0) i (below (group.product b.0 r) 0 c some) l
              (image-at (group.product b.0 r) 0 c some ∙ image-product s h b.0 r b.1 m (place_at o.places 0) ∙ ap (λ v. image_in s b.0 (image_in s r v)) p.2
              ∙ ap (image_in s b.0) (sym (image-product s h r p.0 m p.1 x) ∙ ap (λ q. image_in s q x) (lawful.inverse-product p.0 p.1) ∙ image-identity s h x)
              ∙ image-reduced s h b.0 b.1 x ∙ sym b.2),
        )

    among : (t : ℕ) → t < length s.translations → t < order_of s
    among t l =
        let m = row_below (length s.parent.ops) (length s.translations) 0 t h.parent.list.some l in
        let e : 0 * length s.translations + t ≡ t = omega arith in
        subst (λ k. k < order_of s) e m

    -- translations that take a place to one place are equal
    pub translations-apart : (t u : ℕ) → t < length s.translations → u < length s.translations → (y : Vector ℤ) → image_in s t y ≡ image_in s u y → t ≡ u
    translations-apart t u l m y e =
        let v = translation_at s.translations t in
        let w' = translation_at s.translations u in
        let f : shifted_at s t y ≡ shifted_at s u y = sym (image-shifted s h t l y) ∙ e ∙ image-shifted s h u m y in
        let c = place-differ s.d h.supercell.positive (vector_sum whole y (in_units v)) (vector_sum whole y (in_units w')) f in
        let k = cell-units s.d (in_units (vector_difference v w')) (subst (IsCell (in_millionths s.d)) (shifts-differ y v w') c) in
        translations-differ s.parent.lattice s.d s.translations h.translations t u l m
        (inside-unique s.d v w' (h.translations.inside t l) (h.translations.inside u m) (subst (IsCell s.d) (same-units k.0 (vector_difference v w') k.2) k.1))

    pub translations-few : length s.translations ≤ n
    translations-few =
        let some : 0 < n = some-place x o.places w.places in
        pigeonhole (length s.translations) n (λ t l. image_of o t 0) (λ t l. below t 0 (among t l) some)
        (λ t u l m e. translations-apart t u l m (place_at o.places 0) (sym (image-at t 0 (among t l) some) ∙ ap (place_at o.places) e ∙ image-at u 0 (among u m) some))

    pub site-place : (i q : ℕ) → i < n → q < order_of s → (image_of o q i ≡ i) ↔ (image_in s q (place_at o.places i) ≡ place_at o.places i)
    site-place i q l m = (
      λ e. sym (image-at q i m l) ∙ ap (place_at o.places) e,
      λ e. apart (image_of o q i) i (below q i m l) l (image-at q i m l ∙ e),
    )

    pub site-subgroup : (i : ℕ) (stab : List ℕ) → i < n → IsSiteOf o i stab → IsSubgroup group stab
    site-subgroup i stab l st =
        let P : ℕ → Type 0 = λ q. image_of o q i ≡ i in
        let in_group : (a : ℕ) → Contains stab a → a < order_of s = λ a c. subst (λ m. a < m) w.order (listed-below o.order P stab st a c) in
        let fixes : (a : ℕ) → Contains stab a → P a = λ a c. listed-has o.order P stab st a c in
        let listed : (a : ℕ) → a < order_of s → P a → Contains stab a = λ a m e. has-listed o.order P stab st a (held a m) e in
        record {
          below = in_group;
          identity = listed 0 lawful.identity_below (identity_at i l);
          product = λ a b c k.
              listed (group.product a b) (lawful.product_below a b (in_group a c) (in_group b k))
              (product_at a b i (in_group a c) (in_group b k) l ∙ ap (image_of o a) (fixes b k) ∙ fixes a c);
          inverse = λ a c.
              listed (group.inverse a) (lawful.inverse_below a (in_group a c))
              (ap (image_of o (group.inverse a)) (sym (fixes a c)) ∙ back_at a i (in_group a c) l);
        }

pub images-unique : (s : SupercellGroup) (atom : AtomText) (o u : OrbitView) → IsQuotient s → IsOrbitOf s atom o → IsOrbitOf s atom u → (q i : ℕ) → q < o.order → i < length o.places → image_of o q i ≡ image_of u q i
images-unique s atom o u h a b q i l m =
    let e : o.places ≡ u.places = places-unique s (vector_of atom.place) o.places u.places a.places b.places in
    let k : q < u.order = subst (λ n. q < n) (a.order ∙ sym b.order) l in
    let c : i < length u.places = subst (λ (v : List (List ℤ)). i < length v) e m in
    places-apart s h (vector_of atom.place) u.places b.places (image_of o q i) (image_of u q i)
    (subst (λ (v : List (List ℤ)). image_of o q i < length v) e (a.image_below q i l m)) (b.image_below q i k c)
    (ap (λ v. place_at v (image_of o q i)) (sym e) ∙ a.images q i l m ∙ ap (λ v. image_in s q (place_at v i)) e ∙ sym (b.images q i k c))

pub orbits-few : (s : SupercellGroup) (atoms : List AtomText) (orbits : List OrbitView) → AreOrbitsOf s atoms orbits → AreAccepted s atoms (length atoms)
    → (n : ℕ) (o : OrbitView) → slice_get orbits n ≡ Some o → length o.places ≤ 384
orbits-few s atoms orbits are accepted n o e = at atoms refl where
  -- a list with n + 1 lines has some line, which stands for those past its end
  at : (list : List AtomText) → list ≡ atoms → length o.places ≤ 384
  at [] f = let l : n < length orbits = slice_get_within orbits n o e in let c = are.count in let k : 0 ≡ length atoms = ap length f in absurd (omega (arith, l, c, k))
  at (d ∷ list) f =
      let l : n < length orbits = slice_get_within orbits n o e in
      let m : n < length atoms = omega (arith, l, are.count) in
      let g = slice_get-get_or atoms n d m in
      let w = are.each n (get_or atoms n d) o g e in
      elim (cases_lt 384 (length o.places)) [
        | inl k ↦ absurd ((accepted n m).1 (3 * length o.places) (record { atom = get_or atoms n d; is = g; places = o.places; are = w.places; size_is = refl; many = omega arith }))
        | inr k ↦ k
      ]
