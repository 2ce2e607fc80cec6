-- No two atoms with one label are in one place.
--
-- in_place-differs, differs-in_place: a place is another modulo the supercell where they differ by a cell
-- in_place-reduced: an atom is in its place, modulo the supercell
-- orbits-meet: atoms whose orbits have a place in common are on one orbit
-- map-behind: what stands behind an element of a list of images
-- atoms-apart: a label and a place have one atom of accepted lines at most
use Rattle.std.proofs.Common.{◌≡◌, refl, sym, ap, ◌∙◌, subst, ℕ, zero, suc, ◌<◌, inl, inr, ℤ, List, [], ◌∷◌, length, map, Some, slice_get, arith}
use Rattle.std.proofs.lemmas.Bool.{cases_order}
use Rattle.std.proofs.lemmas.Int.{ints}
use Rattle.std.proofs.lemmas.Option.{slice_get_cases, slice_get_within, none-some, same_Some}
use Rattle.algebra.specs.NumberedGroup.{Group, IsGroup}
use Rattle.algebra.specs.Whole.{whole}
use Rattle.iso_text.specs.declared.sections.AtomText.{AtomText}
use Rattle.space_ops.specs.Matrix.{Vector, vector_sum}
use Rattle.space_ops.specs.MatrixLaws.{same_vector}
use Rattle.space_ops.specs.Op.{vector_of}
use Rattle.space_ops.specs.Words.{vector_difference}
use Rattle.super_group.specs.Supercell.{IsCell}
use Rattle.super_group.specs.Quotient.{SupercellGroup, IsQuotient, order_of, quotient_group}
use Rattle.super_group.specs.QuotientLaws.{quotient-lawful}
use Rattle.wyckoff.specs.AtomLines.{AreOrbitsOf, AreAccepted}
use Rattle.wyckoff.specs.Orbit.{OrbitView, IsOrbitOf}
use Rattle.wyckoff.specs.OrbitLaws.{places-apart, places-inside, places-closed, orbit-listed}
use Rattle.wyckoff.specs.Places.{in_units, reduced_place, place_at, image_in, IsInSupercell, IsOnOrbit}
use Rattle.wyckoff.specs.PlaceLaws.{in_millionths, DifferByCell, place-same, place-itself, units-cell, cell-units, image-product, image-identity}
use Rattle.extra_modes.specs.Amounts.{LabelledPlaces, labelled, IsInPlace, HasAtom, AreOrbits}
use Rattle.extra_modes.specs.GatherParts.{AreApart}

less_itself : (a u : Vector ℤ) → u ≡ vector_difference (vector_sum whole a u) a
less_itself a u = same_vector _ _ (omega (arith, ints)) (omega (arith, ints)) (omega (arith, ints))

more_difference : (x a : Vector ℤ) → x ≡ vector_sum whole a (vector_difference x a)
more_difference x a = same_vector _ _ (omega (arith, ints)) (omega (arith, ints)) (omega (arith, ints))

pub in_place-differs : (d : List ℕ) (x a : Vector ℤ) → IsInPlace d x a → DifferByCell d x a
in_place-differs d x a p =
    subst (IsCell (in_millionths d)) (less_itself a (in_units p.translation) ∙ ap (λ v. vector_difference v a) (sym p.is)) (units-cell d p.translation p.of_supercell)

pub differs-in_place : (d : List ℕ) (x a : Vector ℤ) → DifferByCell d x a → IsInPlace d x a
differs-in_place d x a c =
    let w = cell-units d (vector_difference x a) c in
    record { translation = w.0; of_supercell = w.1; is = more_difference x a ∙ ap (vector_sum whole a) (sym w.2) }

pub map-behind : {A B : Type 0} (f : A → B) (xs : List A) (k : ℕ) (y : B) → slice_get (map f xs) k ≡ Some y → (x : A) × (slice_get xs k ≡ Some x) × (f x ≡ y)
map-behind f [] k y e = absurd (none-some y e)
map-behind f (x ∷ xs) zero y e = (x, refl, same_Some _ _ e)
map-behind f (x ∷ xs) (suc k) y e = map-behind f xs k y e

module _ (s : SupercellGroup) (h : IsQuotient s) where
  abbrev group : Group
  group = quotient_group s

  lawful : IsGroup group
  lawful = quotient-lawful s h

  pub in_place-reduced : (x a : Vector ℤ) → IsInSupercell s.d a → IsInPlace s.d x a → a ≡ reduced_place s.d x
  in_place-reduced x a i p =
      let positive = h.supercell.positive in
      sym (place-itself s.d positive a i) ∙ sym (place-same s.d positive x a (in_place-differs s.d x a p))

  -- the element that takes the second atom to the common place, backwards from there
  pub orbits-meet : (first second : AtomText) (o p : OrbitView) → IsOrbitOf s first o → IsOrbitOf s second p → (i j : ℕ) → i < length o.places → j < length p.places
      → place_at o.places i ≡ place_at p.places j → IsOnOrbit s (vector_of first.place) (vector_of second.place)
  orbits-meet first second o p a b i j l m e =
      let x = vector_of first.place in
      let y = vector_of second.place in
      let q = b.places.are_images j m in
      let r = group.inverse q.0 in
      let k : r < order_of s = lawful.inverse_below q.0 q.1 in
      let c = places-closed s h x o.places a.places r i k l in
      (orbit-listed s h x o.places a.places y).1
      (c.0, c.1, c.2 ∙ ap (image_in s r) (e ∙ q.2) ∙ sym (image-product s h r q.0 k q.1 y) ∙ ap (λ t. image_in s t y) (lawful.inverse-product q.0 q.1) ∙ image-identity s h y)

  module _ (atoms : List AtomText) (orbits : List OrbitView) (are : AreOrbitsOf s atoms orbits) (accepted : AreAccepted s atoms (length atoms)) (label : List ℕ) (x : Vector ℤ) where
    -- an orbit with its line, and an atom in the place
    record IsAtom (o i : ℕ) : Type 0 where
      line : AtomText
      orbit : OrbitView
      is_line : slice_get atoms o ≡ Some line
      is_orbit : slice_get orbits o ≡ Some orbit
      of : IsOrbitOf s line orbit
      below : i < length orbit.places
      place_is : place_at orbit.places i ≡ reduced_place s.d x

    line_at : (o : ℕ) → o < length orbits → (line : AtomText) × (slice_get atoms o ≡ Some line)
    line_at o l = let c = are.count in elim ((slice_get_cases atoms o).1) [ inl f ↦ (f.0, f.2) | inr f ↦ let m = f.0 in absurd (omega (arith, l, c, m)) ]

    is_atom : (o i : ℕ) → HasAtom s.d (map labelled orbits) label x o i → IsAtom o i
    is_atom o i u =
        let w = map-behind labelled orbits o u.orbit u.is_orbit in
        let t = line_at o (slice_get_within orbits o w.0 w.1) in
        let f : w.0.places ≡ u.orbit.places = ap (λ (q : LabelledPlaces). q.places) w.2 in
        let of : IsOrbitOf s t.0 w.0 = are.each o t.0 w.0 t.1 w.1 in
        let l : i < length w.0.places = subst (λ (v : List (List ℤ)). i < length v) (sym f) u.below in
        record {
          line = t.0;
          orbit = w.0;
          is_line = t.1;
          is_orbit = w.1;
          of = of;
          below = l;
          place_is = in_place-reduced x (place_at w.0.places i) (places-inside s h (vector_of t.0.place) w.0.places of.places i l)
              (subst (λ (v : List (List ℤ)). IsInPlace s.d x (place_at v i)) (sym f) u.place_is);
        }

    not_before : (o i p j : ℕ) → o < p → IsAtom o i → IsAtom p j → ⊥
    not_before o i p j l a b =
        let c = are.count in
        let m : p < length orbits = slice_get_within orbits p b.orbit b.is_orbit in
        (accepted p (omega (arith, c, m))).0 o l
        (record {
          first = a.line;
          second = b.line;
          is_first = a.is_line;
          is_second = b.is_line;
          meets = orbits-meet a.line b.line a.orbit b.orbit a.of b.of i j a.below b.below (a.place_is ∙ sym b.place_is);
        })

    one_of : (o i j : ℕ) → IsAtom o i → IsAtom o j → i ≡ j
    one_of o i j a b =
        let e : b.orbit ≡ a.orbit = same_Some _ _ (sym b.is_orbit ∙ a.is_orbit) in
        places-apart s h (vector_of a.line.place) a.orbit.places a.of.places i j a.below (subst (λ (w : OrbitView). j < length w.places) e b.below)
        (a.place_is ∙ sym b.place_is ∙ ap (λ (w : OrbitView). place_at w.places j) e)

    apart_at : (o i p j : ℕ) → IsAtom o i → IsAtom p j → (o ≡ p) × (i ≡ j)
    apart_at o i p j a b = elim (cases_order o p) [
      | inl e ↦ (e, one_of o i j a (subst (λ n. IsAtom n j) (sym e) b))
      | inr f ↦ elim f [ inl l ↦ absurd (not_before o i p j l a b) | inr l ↦ absurd (not_before p j o i l b a) ]
    ]

pub atoms-apart : (s : SupercellGroup) → IsQuotient s → (orbits : List OrbitView) → AreOrbits s orbits → AreApart s.d (map labelled orbits)
atoms-apart s h orbits w label x o i p j u v =
    let at = is_atom s h w.0 orbits w.1 w.2 label x in
    apart_at s h w.0 orbits w.1 w.2 label x o i p j (at o i u) (at p j v)
