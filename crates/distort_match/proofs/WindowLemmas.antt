-- The atoms of an orbit whose first coordinates are near that of a place, modulo the supercell.
use Rattle.std.proofs.Common.{◌≡◌, refl, sym, ap, ◌∙◌, subst, ℕ, zero, suc, ◌<◌, ◌≤◌, ◌+◌, ◌*◌, inl, inr, ◌⊎◌, ℤ, pos, negsuc, neg_ℤ, ◌+ℤ◌, ◌*ℤ◌, ◌≤ℤ◌, ◌<ℤ◌, List, [], ◌∷◌, length, Some, slice_get, arith}
use Rattle.std.proofs.lemmas.Bool.{cases_lt}
use Rattle.std.proofs.lemmas.Int.{ints}
use Rattle.std.proofs.lemmas.Option.{slice_get_within}
use Rattle.std.proofs.Math.IntN.{pos-*ℤ-pos, pos-*ℤ-negsuc}
use Rattle.std.specs.Cmp.{int_ranks}
use Rattle.std.specs.Cmp.Lexicographic.{slice_cmp}
use Rattle.std.specs.Int.{int_rem_euclid}
use Rattle.std.specs.Ordering.{int_cmp, ordering_then, MatchOrdering}
use Rattle.std.specs.declared.cmp.Ordering.{Ordering}
use Rattle.std.specs.declared.cmp.Ordering.TheVariants.{Less, Equal, Greater}
use Rattle.algebra.specs.Multiples.{IsMultiple, IsWithinModulus}
use Rattle.algebra.specs.MultipleLaws.{multiple_sum, multiple_minus, rem-within, rem-differs}
use Rattle.iso_text.specs.declared.sections.AtomText.{AtomText}
use Rattle.space_ops.specs.LeastShift.{vector_cmp}
use Rattle.space_ops.specs.Matrix.{Vector}
use Rattle.super_group.specs.Supercell.{multiplier}
use Rattle.super_group.specs.Quotient.{SupercellGroup}
use Rattle.wyckoff.specs.AtomLines.{AreOrbitsOf}
use Rattle.wyckoff.specs.Orbit.{OrbitView, IsOrbitOf}
use Rattle.wyckoff.specs.Places.{place_at, IsInSupercell}
use Rattle.distort_match.specs.declared.found.Found.{Found}
use Rattle.distort_match.specs.Matches.{IsDisplacement}
use Rattle.distort_match.specs.FoundParts.{IsAlong, IsFound, IsAtomBelow}
use Rattle.distort_match.specs.declared.windows.Windows.{Windows}
use Rattle.distort_match.specs.WindowParts.{IsAlongRising, IsInLength, AreSorted, IsBetween, IsFirstFrom, AreWindows}
use Rattle.distort_match.proofs.AlongLemmas.{along_x}
use Rattle.distort_match.proofs.FoundLemmas.{found_same}

-- the first coordinates of rising places rise
first_rises : (v w : Vector ℤ) → vector_cmp v w ≡ Less → v.x ≤ℤ w.x
first_rises v w e = by_order (int_cmp v.x w.x) (int_ranks v.x w.x) refl where
  by_order : (o : Ordering) → MatchOrdering o (v.x <ℤ w.x) (v.x ≡ w.x) (w.x <ℤ v.x) → o ≡ int_cmp v.x w.x → v.x ≤ℤ w.x
  by_order Less l f = omega (arith, ints, l)
  by_order Equal l f = omega (arith, ints, l)
  by_order Greater l f = absurd (let g : Greater ≡ Less = ap (λ o. ordering_then o (slice_cmp int_cmp (v.y ∷ v.z ∷ []) (w.y ∷ w.z ∷ []))) f ∙ e in cc)

-- around the remainder, and around it one length lower and higher
abbrev IsInWindows : ℕ → ℤ → ℤ → ℤ → Type 0
IsInWindows n tolerance rest a =
    (a ≤ℤ ((rest +ℤ tolerance) +ℤ neg_ℤ (pos n))) ⊎ ((((rest +ℤ neg_ℤ tolerance) ≤ℤ a) × (a ≤ℤ (rest +ℤ tolerance))) ⊎ (((rest +ℤ neg_ℤ tolerance) +ℤ pos n) ≤ℤ a))

between : (v x a r : ℤ) → (v +ℤ neg_ℤ (x +ℤ neg_ℤ a)) +ℤ neg_ℤ (r +ℤ neg_ℤ x) ≡ (v +ℤ a) +ℤ neg_ℤ r
between v x a r = omega (arith, ints)

-- a near coordinate is in one of the windows
near_windows : (n : ℕ) → 12000000 ≤ n → (x a tolerance v : ℤ) → pos 0 ≤ℤ tolerance → tolerance <ℤ pos 3000000 → IsWithinModulus n a → IsAlong n tolerance x a v
    → IsInWindows n tolerance (int_rem_euclid x (pos n)) a
near_windows n big x a tolerance v some small inside h = by_quotient m.quotient m.is where
  rest : ℤ
  rest = int_rem_euclid x (pos n)

  within : IsWithinModulus n rest
  within = rem-within n (omega (arith, big)) x

  m : IsMultiple n ((v +ℤ a) +ℤ neg_ℤ rest)
  m = subst (IsMultiple n) (between v x a rest) (multiple_sum n (v +ℤ neg_ℤ (x +ℤ neg_ℤ a)) (neg_ℤ (rest +ℤ neg_ℤ x)) h.0 (multiple_minus n (rest +ℤ neg_ℤ x) (rem-differs n (omega (arith, big)) x)))

  by_quotient : (u : ℤ) → (v +ℤ a) +ℤ neg_ℤ rest ≡ pos n *ℤ u → IsInWindows n tolerance rest a
  by_quotient (pos zero) e =
      let f : n * 0 ≡ 0 = omega arith in
      let g : (v +ℤ a) +ℤ neg_ℤ rest ≡ pos 0 = e ∙ pos-*ℤ-pos n 0 ∙ ap pos f in
      inr (inl (omega (arith, ints, g, h.1.1), omega (arith, ints, g, h.1.0)))
  by_quotient (pos (suc zero)) e =
      let f : n * 1 ≡ n = omega arith in
      let g : (v +ℤ a) +ℤ neg_ℤ rest ≡ pos n = e ∙ pos-*ℤ-pos n 1 ∙ ap pos f in
      inr (inr (omega (arith, ints, g, h.1.1)))
  by_quotient (pos (suc (suc u))) e =
      let f : n * suc (suc u) ≡ n * u + (n + n) = omega arith in
      let g : (v +ℤ a) +ℤ neg_ℤ rest ≡ pos (n * u + (n + n)) = e ∙ pos-*ℤ-pos n (suc (suc u)) ∙ ap pos f in
      absurd (omega (arith, ints, g, h.1.1, inside.1, within.0, small, big))
  by_quotient (negsuc zero) e =
      let f : n * 1 ≡ n = omega arith in
      let g : (v +ℤ a) +ℤ neg_ℤ rest ≡ neg_ℤ (pos n) = e ∙ pos-*ℤ-negsuc n 0 ∙ ap (λ k. neg_ℤ (pos k)) f in
      inl (omega (arith, ints, g, h.1.0))
  by_quotient (negsuc (suc u)) e =
      let f : n * suc (suc u) ≡ n * u + (n + n) = omega arith in
      let g : (v +ℤ a) +ℤ neg_ℤ rest ≡ neg_ℤ (pos (n * u + (n + n))) = e ∙ pos-*ℤ-negsuc n (suc u) ∙ ap (λ k. neg_ℤ (pos k)) f in
      absurd (omega (arith, ints, g, h.1.0, inside.0, within.1, small, big))

first_order : (places : List (List ℤ)) (v w : ℤ) (a b : ℕ) → v ≤ℤ w → IsFirstFrom places v a → IsFirstFrom places w b → a ≤ b
first_order places v w a b l h k = elim (cases_lt b a) [
  | inl m ↦
      let f : (place_at places b).x <ℤ v = h.below b m in
      let g : w ≤ℤ (place_at places b).x = k.above b (omega arith) (omega (arith, m, h.within)) in
      absurd (omega (arith, ints, l, f, g))
  | inr m ↦ m
]

-- the four bounds make windows
module _ (n : ℕ) (big : 12000000 ≤ n) (x tolerance : ℤ) (some : pos 0 ≤ℤ tolerance) (small : tolerance <ℤ pos 3000000) (places : List (List ℤ)) (inside : IsInLength n places) (w : Windows)
    (rest length' : ℤ) (rest_is : rest ≡ int_rem_euclid x (pos n)) (length_is : length' ≡ pos n)
    (h : IsFirstFrom places (((rest +ℤ tolerance) +ℤ neg_ℤ length') +ℤ pos 1) w.low) (k : IsFirstFrom places (rest +ℤ neg_ℤ tolerance) w.start)
    (m : IsFirstFrom places ((rest +ℤ tolerance) +ℤ pos 1) w.end) (q : IsFirstFrom places ((rest +ℤ neg_ℤ tolerance) +ℤ length') w.high) where
  low_before : (((rest +ℤ tolerance) +ℤ neg_ℤ length') +ℤ pos 1) ≤ℤ (rest +ℤ neg_ℤ tolerance)
  low_before = omega (arith, ints, length_is, small, big)

  middle_order : (rest +ℤ neg_ℤ tolerance) ≤ℤ ((rest +ℤ tolerance) +ℤ pos 1)
  middle_order = omega (arith, ints, some)

  high_behind : ((rest +ℤ tolerance) +ℤ pos 1) ≤ℤ ((rest +ℤ neg_ℤ tolerance) +ℤ length')
  high_behind = omega (arith, ints, length_is, small, big)

  in_windows : (i : ℕ) (v : ℤ) → i < length places → IsAlong n tolerance x (place_at places i).x v → IsInWindows n tolerance rest (place_at places i).x
  in_windows i v l a = subst (λ r. IsInWindows n tolerance r (place_at places i).x) (sym rest_is) (near_windows n big x (place_at places i).x tolerance v some small (inside i l) a)

  not_before : (a : ℤ) → (((rest +ℤ tolerance) +ℤ neg_ℤ length') +ℤ pos 1) ≤ℤ a → a <ℤ (rest +ℤ neg_ℤ tolerance) → IsInWindows n tolerance rest a → ⊥
  not_before a l b (inl e) = omega (arith, ints, l, e, length_is)
  not_before a l b (inr (inl e)) = omega (arith, ints, b, e.0)
  not_before a l b (inr (inr e)) = omega (arith, ints, b, e)

  not_after : (a : ℤ) → ((rest +ℤ tolerance) +ℤ pos 1) ≤ℤ a → a <ℤ ((rest +ℤ neg_ℤ tolerance) +ℤ length') → IsInWindows n tolerance rest a → ⊥
  not_after a l b (inl e) = omega (arith, ints, l, e)
  not_after a l b (inr (inl e)) = omega (arith, ints, l, e.1)
  not_after a l b (inr (inr e)) = omega (arith, ints, b, e, length_is)

  pub windows_are : AreWindows n tolerance x places w
  windows_are = record {
    low = first_order places _ _ w.low w.start low_before h k;
    middle = first_order places _ _ w.start w.end middle_order k m;
    high = first_order places _ _ w.end w.high high_behind m q;
    within = q.within;
    before = λ i v a b near.
        let l : i < length places = omega (arith, b, k.within) in
        not_before (place_at places i).x (h.above i a l) (k.below i b) (in_windows i v l near);
    after = λ i v a b near.
        let l : i < length places = omega (arith, b, q.within) in
        not_after (place_at places i).x (m.above i a l) (q.below i b) (in_windows i v l near);
  }

-- atoms that don't match are passed over
atoms_skipped : (d : List ℕ) (tolerance : ℤ) (x : Vector ℤ) (o : ℕ) (places : List (List ℤ)) (a b : ℕ) (f : Found) → a ≤ b
    → ((i : ℕ) (v : Vector ℤ) → a ≤ i → i < b → IsDisplacement d tolerance x (place_at places i) v → ⊥) → IsFound (IsAtomBelow d tolerance x o places a) f → IsFound (IsAtomBelow d tolerance x o places b) f
atoms_skipped d tolerance x o places a b f l none h =
    found_same (IsAtomBelow d tolerance x o places a) (IsAtomBelow d tolerance x o places b) (λ p i v g. (g.0, omega (arith, g.1, l), g.2))
    (λ p i v g. elim (cases_lt i a) [ inl m ↦ (g.0, m, g.2) | inr m ↦ absurd (none i v m g.1 g.2) ]) f h

-- between the windows
module _ (d : List ℕ) (tolerance : ℤ) (x : Vector ℤ) (o : ℕ) (places : List (List ℤ)) (w : Windows) (h : AreWindows (12000000 * multiplier d 0) tolerance x.x places w) where
  pub low_skipped : (f : Found) → IsFound (IsAtomBelow d tolerance x o places w.low) f → IsFound (IsAtomBelow d tolerance x o places w.start) f
  low_skipped f k = atoms_skipped d tolerance x o places w.low w.start f h.low (λ i v a b m. h.before i v.x a b (along_x d tolerance x (place_at places i) v m)) k

  pub middle_skipped : (f : Found) → IsFound (IsAtomBelow d tolerance x o places w.end) f → IsFound (IsAtomBelow d tolerance x o places w.high) f
  middle_skipped f k = atoms_skipped d tolerance x o places w.end w.high f h.high (λ i v a b m. h.after i v.x a b (along_x d tolerance x (place_at places i) v m)) k

-- the orbits of atom lines are sorted
pub orbits_sorted : (s : SupercellGroup) (atoms : List AtomText) (orbits : List OrbitView) → AreOrbitsOf s atoms orbits
    → ((atom : AtomText) (o : OrbitView) → IsOrbitOf s atom o → (i : ℕ) → i < length o.places → IsInSupercell s.d (place_at o.places i)) → AreSorted s.d orbits
orbits_sorted s atoms orbits h inside = record {
  rising = λ o orbit e i j l m. first_rises (place_at orbit.places i) (place_at orbit.places j) ((of_line o orbit e).1.places.rising i j l m);
  inside = λ o orbit e i l. let a = of_line o orbit e in (inside a.0 orbit a.1 i l).0;
}
  where
    of_line : (o : ℕ) (orbit : OrbitView) → slice_get orbits o ≡ Some orbit → (atom : AtomText) × IsOrbitOf s atom orbit
    of_line o orbit e =
        let l : o < length orbits = slice_get_within orbits o orbit e in
        let m : o < length atoms = subst (λ n. o < n) h.count l in
        let a = atom_at o atoms m in
        (a.0, h.each o a.0 orbit a.1 e)
      where
        atom_at : (o : ℕ) (atoms : List AtomText) → o < length atoms → (a : AtomText) × (slice_get atoms o ≡ Some a)
        atom_at o [] m = absurd (omega (arith, m))
        atom_at zero (a ∷ rest) m = (a, refl)
        atom_at (suc o) (a ∷ rest) m = atom_at o rest (omega (arith, m))

-- halves
module _ (places : List (List ℤ)) (rising : IsAlongRising places) (v : ℤ) (low high middle : ℕ) (h : IsBetween places v low high) (first : low ≤ middle) (last : middle < high) where
  pub upper_half : (place_at places middle).x <ℤ v → IsBetween places v (middle + 1) high
  upper_half l = record {
    order = omega (arith, last);
    within = h.within;
    below = λ i m. elim (cases_lt i middle) [
      | inl k ↦ let r : (place_at places i).x ≤ℤ (place_at places middle).x = rising i middle k (omega (arith, last, h.within)) in omega (arith, ints, r, l)
      | inr k ↦ let e : middle ≡ i = omega (arith, m, k) in subst (λ j. (place_at places j).x <ℤ v) e l
    ];
    above = h.above;
  }

  pub lower_half : v ≤ℤ (place_at places middle).x → IsBetween places v low middle
  lower_half l = record {
    order = first;
    within = omega (arith, last, h.within);
    below = h.below;
    above = λ i m b. elim (cases_lt middle i) [
      | inl k ↦ let r : (place_at places middle).x ≤ℤ (place_at places i).x = rising middle i k b in omega (arith, ints, r, l)
      | inr k ↦ let e : middle ≡ i = omega (arith, m, k) in subst (λ j. v ≤ℤ (place_at places j).x) e l
    ];
  }
