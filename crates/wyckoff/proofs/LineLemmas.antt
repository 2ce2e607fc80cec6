-- The judgement of one atom line, after those before it.
use Rattle.std.proofs.Common.{◌≡◌, refl, sym, ap, ◌∙◌, subst, ℕ, ◌<◌, ◌≤◌, ◌+◌, ◌*◌, inl, inr, ℤ, pos, List, [], ◌∷◌, ◌++◌, Some, slice_get, length, get_or, arith}
use Rattle.std.proofs.lemmas.Bool.{cases_lt}
use Rattle.std.proofs.lemmas.List.{length_push, get_or_push, get_or_append_left, get_or_default}
use Rattle.std.proofs.lemmas.Option.{slice_get-get_or, slice_get_within, get_or_from_slice_get}
use Rattle.std.specs.List.{All, Contains}
use Rattle.iso_text.specs.declared.sections.AtomText.{AtomText}
use Rattle.iso_text.specs.Ranges.{IsSite}
use Rattle.algebra.specs.PigeonholeLaws.{pigeonhole}
use Rattle.space_ops.specs.Matrix.{Vector}
use Rattle.space_ops.specs.Op.{vector_of, shift_of, IsShiftWithin}
use Rattle.space_ops.specs.WithinLaws.{shift_more}
use Rattle.super_group.specs.Quotient.{SupercellGroup, IsQuotient, order_of}
use Rattle.wyckoff.specs.Places.{reduced_place, image_in, IsOnOrbit}
use Rattle.wyckoff.specs.Orbit.{ArePlacesOf, OrbitView, IsOrbitOf}
use Rattle.wyckoff.specs.OrbitLaws.{places-apart, orbit-listed, places-unique}
use Rattle.wyckoff.specs.OrbitParts.{IsRising, AreShaped, HasPlace, AreOrbitsBefore}
use Rattle.wyckoff.specs.AtomLines.{AreOnOneOrbit, HasTooManyAtoms, IsNewOrbit, AreAccepted, IsSameSite, IsTooLarge}

-- the orbit that has a place
pub orbit-with : (orbits : List OrbitView) (i : ℕ) (v : List ℤ) (o : OrbitView) → o ≡ get_or orbits i o → (p : HasPlace orbits i v) → o ≡ p.orbit
orbit-with orbits i v o e p = e ∙ get_or_from_slice_get orbits i p.orbit o p.is

pub has-place : (orbits : List OrbitView) (i : ℕ) (v : List ℤ) (o : OrbitView) → o ≡ get_or orbits i o → HasPlace orbits i v → Contains o.places v
has-place orbits i v o e p = subst (λ (u : OrbitView). Contains u.places v) (sym (orbit-with orbits i v o e p)) p.has

-- another list of the same orbits, and another name of the same place
pub place-moved : (orbits orbits' : List OrbitView) (v v' : List ℤ) → orbits ≡ orbits' → v ≡ v' → (i : ℕ) → HasPlace orbits i v → HasPlace orbits' i v'
place-moved orbits orbits' v v' e f i p = subst (λ (os : List OrbitView). HasPlace os i v') e (subst (HasPlace orbits i) f p)

-- an orbit has at most as many places as the group has elements
pub places-few : (s : SupercellGroup) → IsQuotient s → (x : Vector ℤ) (places : List (List ℤ)) → ArePlacesOf s x places → length places ≤ order_of s
places-few s h x places a =
    pigeonhole (length places) (order_of s) (λ i l. (a.are_images i l).0) (λ i l. (a.are_images i l).1)
    (λ i j l k e. places-apart s h x places a i j l k ((a.are_images i l).2 ∙ ap (λ q. image_in s q x) e ∙ sym (a.are_images j k).2))

module _ (s : SupercellGroup) (h : IsQuotient s) (atoms : List AtomText) (n : ℕ) (atom : AtomText) (e : slice_get atoms n ≡ Some atom) where
  same_atom : (other : AtomText) → slice_get atoms n ≡ Some other → other ≡ atom
  same_atom other f = sym (get_or_from_slice_get atoms n other atom f) ∙ get_or_from_slice_get atoms n atom atom e

  below : n < length atoms
  below = slice_get_within atoms n atom e

  -- its place may be reduced
  pub line-near : All (λ (a : AtomText). IsSite a.label a.place) atoms → IsShiftWithin 1200000000 atom.place
  line-near all =
      let h : IsSite atom.label atom.place = subst (λ (a : AtomText). IsSite a.label a.place) (get_or_from_slice_get atoms n atom atom e) (all n atom below) in
      let c = h.place_is.count in
      shift_more 1199999988 1200000000 atom.place (omega arith)
      (h.place_is.each 0 (pos 0) (omega (arith, c)), h.place_is.each 1 (pos 0) (omega (arith, c)), h.place_is.each 2 (pos 0) (omega (arith, c)))

  module _ (orbits : List OrbitView) (b : AreOrbitsBefore s atoms n orbits) where
    -- the place of the line, modulo the supercell
    abbrev place : List ℤ
    place = shift_of (reduced_place s.d (vector_of atom.place))

    before : (i : ℕ) → HasPlace orbits i place → i < n
    before i p = subst (λ k. i < k) b.count (slice_get_within orbits i p.orbit p.is)

    earlier : (i : ℕ) → i < n → slice_get atoms i ≡ Some (get_or atoms i atom)
    earlier i l = let m : i < length atoms = let k = below in omega (arith, l, k) in slice_get-get_or atoms i atom m

    orbit_places : (k : ℕ) (d : OrbitView) → k < length orbits → ArePlacesOf s (vector_of (get_or atoms k atom).place) (get_or orbits k d).places
    orbit_places k d l = (b.each k (get_or atoms k atom) (get_or orbits k d) (earlier k (subst (λ c. k < c) b.count l)) (slice_get-get_or orbits k d l)).places

    pub orbits-rising : All (λ (o : OrbitView). IsRising o.places) orbits
    orbits-rising k d l = (orbit_places k d l).rising

    pub orbits-shaped : All (λ (o : OrbitView). AreShaped o.places) orbits
    orbits-shaped k d l = (orbit_places k d l).shaped

    orbit_of : (i : ℕ) (p : HasPlace orbits i place) → IsOrbitOf s (get_or atoms i atom) p.orbit
    orbit_of i p = b.each i (get_or atoms i atom) p.orbit (earlier i (before i p)) p.is

    meets : (i : ℕ) → HasPlace orbits i place → AreOnOneOrbit s atoms i n
    meets i p =
        let w = orbit_of i p in
        let first = get_or atoms i atom in
        let v = p.orbit.places in
        let c = p.has in
        let k : get_or v c.0 [] ≡ place = get_or_default v c.0 [] place c.1 ∙ c.2 in
        record {
          first = first;
          second = atom;
          is_first = earlier i (before i p);
          is_second = e;
          meets = (orbit-listed s h (vector_of first.place) v w.places (vector_of atom.place)).1 (c.0, c.1, ap vector_of k);
        }

    has : (i : ℕ) → i < n → AreOnOneOrbit s atoms i n → HasPlace orbits i place
    has i l m =
        let k : i < length orbits = subst (λ c. i < c) (sym b.count) l in
        let o : OrbitView = at orbits k in
        let is : slice_get orbits i ≡ Some o = at_is orbits k in
        let w = b.each i m.first o m.is_first is in
        let c = (orbit-listed s h (vector_of m.first.place) o.places w.places (vector_of atom.place)).0
        (subst (λ (a : AtomText). IsOnOrbit s (vector_of m.first.place) (vector_of a.place)) (same_atom m.second m.is_second) m.meets) in
        let f : get_or o.places c.0 [] ≡ place = w.places.shaped c.0 c.1 ∙ ap shift_of c.2 in
        record { orbit = o; is = is; has = (c.0, c.1, get_or_default o.places c.0 place [] c.1 ∙ f) }
      where
        at : (xs : List OrbitView) → i < length xs → OrbitView
        at [] k = absurd (omega (arith, k))
        at (x ∷ xs) k = get_or (x ∷ xs) i x

        at_is : (xs : List OrbitView) (k : i < length xs) → slice_get xs i ≡ Some (at xs k)
        at_is [] k = absurd (omega (arith, k))
        at_is (x ∷ xs) k = slice_get-get_or (x ∷ xs) i x k

    pub new-orbit : ((i : ℕ) → HasPlace orbits i place → ⊥) → IsNewOrbit s atoms n
    new-orbit none i l m = none i (has i l m)

    pub same-site : AreAccepted s atoms n → (i : ℕ) (p : HasPlace orbits i place) → ((k : ℕ) → k < i → HasPlace orbits k place → ⊥)
        → IsSameSite s atoms p.orbit.line atom.line
    unfolding meets
    same-site accepted i p none = record {
      i = i;
      j = n;
      before = before i p;
      accepted = accepted;
      meets = meets i p;
      first = λ k l m. none k l (has k (let q = before i p in omega (arith, l, q)) m);
      earlier_is = (orbit_of i p).line;
      line_is = refl;
    }

    -- one orbit more
    pub orbits-more : (orbit : OrbitView) → IsOrbitOf s atom orbit → AreOrbitsBefore s atoms (n + 1) (orbits ++ orbit ∷ [])
    orbits-more orbit w = record {
      count = length_push orbits orbit ∙ ap (λ k. k + 1) b.count;
      each = λ m a o f g.
          let l : m < length (orbits ++ orbit ∷ []) = slice_get_within (orbits ++ orbit ∷ []) m o g in
          let k : get_or (orbits ++ orbit ∷ []) m o ≡ o = get_or_from_slice_get (orbits ++ orbit ∷ []) m o o g in
          elim (cases_lt m (length orbits)) [
            | inl q ↦
                let i : get_or orbits m o ≡ o = sym (get_or_append_left orbits (orbit ∷ []) o m q) ∙ k in
                b.each m a o f (slice_get-get_or orbits m o q ∙ ap (λ x. Some x) i)
            | inr q ↦
                let c : length orbits ≡ m = last (length orbits) m (length (orbits ++ orbit ∷ [])) (length_push orbits orbit) l q in
                let i : orbit ≡ o = sym (get_or_push orbits orbit o m c) ∙ k in
                let j : slice_get atoms n ≡ Some a = subst (λ x. slice_get atoms x ≡ Some a) (sym c ∙ b.count) f in
                subst (λ (x : OrbitView). IsOrbitOf s a x) i (subst (λ (x : AtomText). IsOrbitOf s x orbit) (sym (same_atom a j)) w)
          ];
    } where
      last : (k m c : ℕ) → c ≡ k + 1 → m < c → k ≤ m → k ≡ m
      last k m c p q r = omega (arith, p, q, r)

  module _ (accepted : AreAccepted s atoms n) (new : IsNewOrbit s atoms n) (places : List (List ℤ)) (w : ArePlacesOf s (vector_of atom.place) places) where
    pub too-large : 384 < length places → (line size : ℕ) → line ≡ atom.line → size ≡ 3 * length places → IsTooLarge s atoms line size
    too-large many line size f g = record {
      j = n;
      accepted = accepted;
      new = new;
      large = record { atom = atom; is = e; places = places; are = w; size_is = g; many = omega (arith, many, g) };
      line_is = f;
    }

    few_here : length places ≤ 384 → (size : ℕ) → HasTooManyAtoms s atoms n size → ⊥
    few_here few size m =
        let v : ArePlacesOf s (vector_of atom.place) m.places = subst (λ (a : AtomText). ArePlacesOf s (vector_of a.place) m.places) (same_atom m.atom m.is) m.are in
        let c : length m.places ≡ length places = ap length (places-unique s (vector_of atom.place) m.places places v w) in
        absurd (omega (arith, few, c, m.size_is, m.many))

    pub accepted-more : length places ≤ 384 → AreAccepted s atoms (n + 1)
    accepted-more few j l =
        elim (cases_lt j n) [
          | inl m ↦ accepted j m
          | inr m ↦
              let c : n ≡ j = omega (arith, l, m) in
              subst (λ k. IsNewOrbit s atoms k × ((size : ℕ) → HasTooManyAtoms s atoms k size → ⊥)) c (new, few_here few)
        ]
