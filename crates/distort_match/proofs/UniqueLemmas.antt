-- A listed place is one place, an atom has one displacement, and accepted places match different atoms.
use Rattle.std.proofs.Common.{◌≡◌, sym, ap, ◌∙◌, subst, ℕ, ◌<◌, ◌≤◌, ◌*◌, inl, inr, ℤ, pos, neg_ℤ, ◌+ℤ◌, ◌*ℤ◌, ◌<ℤ◌, List, length, Option, Some, None, arith}
use Rattle.std.proofs.lemmas.Bool.{cases_order}
use Rattle.std.proofs.lemmas.Int.{ints}
use Rattle.std.proofs.lemmas.Option.{slice_get_within}
use Rattle.algebra.specs.Multiples.{IsMultiple}
use Rattle.algebra.specs.MultipleLaws.{multiple_sum, multiple_minus, within-unique}
use Rattle.iso_text.specs.declared.sections.AtomText.{AtomText}
use Rattle.iso_text.specs.declared.sections.CellText.{CellText}
use Rattle.space_ops.specs.Matrix.{Vector}
use Rattle.space_ops.specs.MatrixLaws.{same_vector}
use Rattle.space_ops.specs.Op.{vector_of}
use Rattle.space_ops.specs.Words.{vector_difference}
use Rattle.super_group.specs.Supercell.{multiplier}
use Rattle.super_group.specs.Quotient.{SupercellGroup}
use Rattle.wyckoff.specs.Orbit.{OrbitView}
use Rattle.wyckoff.specs.Places.{place_at}
use Rattle.distort_match.specs.ListedCells.{IsCarried}
use Rattle.distort_match.specs.Matches.{Matching, IsPlace, ListedPlace, IsDisplacement, Matches, MatchesAtom}
use Rattle.distort_match.specs.Outcomes.{IsEarlier, IsAccepted}
use Rattle.distort_match.specs.FoundParts.{IsAlong}
use Rattle.distort_match.proofs.AlongLemmas.{along_x, along_y, along_z}

pub some_same : {A : Type 0} → (a b : A) → Some a ≡ Some b → a ≡ b
some_same a b h = ap (λ w. elim w [ None ↦ a | Some y ↦ y ]) h

-- twelve times a number determines it
twelve_times : (x y u o r : ℤ) → pos 12 *ℤ ((x +ℤ neg_ℤ u) +ℤ neg_ℤ o) ≡ r → pos 12 *ℤ ((y +ℤ neg_ℤ u) +ℤ neg_ℤ o) ≡ r → x ≡ y
twelve_times x y u o r e f = omega (arith, ints, e, f)

carried-unique : (cell : CellText) (y u v w : Vector ℤ) → IsCarried cell y (vector_difference v u) → IsCarried cell y (vector_difference w u) → v ≡ w
carried-unique cell y u v w h k =
    let o = vector_of cell.origin in
    same_vector v w (twelve_times v.x w.x u.x o.x _ (ap (λ (a : Vector ℤ). a.x) h) (ap (λ (a : Vector ℤ). a.x) k)) (twelve_times v.y w.y u.y o.y _ (ap (λ (a : Vector ℤ). a.y) h) (ap (λ (a : Vector ℤ). a.y) k))
    (twelve_times v.z w.z u.z o.z _ (ap (λ (a : Vector ℤ). a.z) h) (ap (λ (a : Vector ℤ). a.z) k))

is_place-unique : (s : SupercellGroup) (cell : Option CellText) (line : AtomText) (t : ℕ) (x y : Vector ℤ) → IsPlace s cell line t x → IsPlace s cell line t y → x ≡ y
is_place-unique s None line t x y h k = h.1 ∙ sym k.1
is_place-unique s (Some cell) line t x y h k = carried-unique cell (vector_of line.place) _ x y h.2 k.2

pub place_line : (m : Matching) (n t : ℕ) (p q : ListedPlace m n t) → p.line ≡ q.line
place_line m n t p q = some_same p.line q.line (sym p.is_line ∙ q.is_line)

pub place-unique : (m : Matching) (n t : ℕ) (p q : ListedPlace m n t) → p.x ≡ q.x
place-unique m n t p q =
    is_place-unique m.group m.cell q.line t p.x q.x (subst (λ (l : AtomText). IsPlace m.group m.cell l t p.x) (place_line m n t p q) p.is) q.is

module _ (tolerance : ℤ) (small : tolerance <ℤ pos 3000000) where
  raised : (v w t : ℤ) → (v +ℤ neg_ℤ w) ≡ ((v +ℤ t) +ℤ neg_ℤ (w +ℤ t))
  raised v w t = omega (arith, ints)

  lowered : (v w t : ℤ) → v +ℤ t ≡ w +ℤ t → v ≡ w
  lowered v w t e = omega (arith, ints, e)

  less_both : (v w y : ℤ) → (v +ℤ neg_ℤ y) +ℤ neg_ℤ (w +ℤ neg_ℤ y) ≡ v +ℤ neg_ℤ w
  less_both v w y = omega (arith, ints)

  along-unique : (n : ℕ) → 12000000 ≤ n → (x a v w : ℤ) → IsAlong n tolerance x a v → IsAlong n tolerance x a w → v ≡ w
  along-unique n big x a v w h k =
      let y = x +ℤ neg_ℤ a in
      let m : IsMultiple n (v +ℤ neg_ℤ w) = subst (IsMultiple n) (less_both v w y) (multiple_sum n (v +ℤ neg_ℤ y) (neg_ℤ (w +ℤ neg_ℤ y)) h.0 (multiple_minus n (w +ℤ neg_ℤ y) k.0)) in
      lowered v w tolerance
      (within-unique n (v +ℤ tolerance) (w +ℤ tolerance) (omega (arith, ints, h.1.0), omega (arith, ints, h.1.1, small, big)) (omega (arith, ints, k.1.0), omega (arith, ints, k.1.1, small, big))
      (subst (IsMultiple n) (raised v w tolerance) m))

  large : (m : ℕ) → 0 < m → 12000000 ≤ 12000000 * m
  large m l = omega arith

  pub displacement-unique : (d : List ℕ) → ((i : ℕ) → i < 3 → 0 < multiplier d i) → (x a v w : Vector ℤ) → IsDisplacement d tolerance x a v → IsDisplacement d tolerance x a w → v ≡ w
  displacement-unique d p x a v w h k =
      same_vector v w
      (along-unique (12000000 * multiplier d 0) (large (multiplier d 0) (p 0 (omega arith))) x.x a.x v.x w.x (along_x d tolerance x a v h) (along_x d tolerance x a w k))
      (along-unique (12000000 * multiplier d 1) (large (multiplier d 1) (p 1 (omega arith))) x.y a.y v.y w.y (along_y d tolerance x a v h) (along_y d tolerance x a w k))
      (along-unique (12000000 * multiplier d 2) (large (multiplier d 2) (p 2 (omega arith))) x.z a.z v.z w.z (along_z d tolerance x a v h) (along_z d tolerance x a w k))

-- a place displaces an atom in one way
pub match-unique : (m : Matching) → m.tolerance <ℤ pos 3000000 → ((i : ℕ) → i < 3 → 0 < multiplier m.group.d i) → (n t o i : ℕ) (v w : Vector ℤ)
    → Matches m n t o i v → Matches m n t o i w → v ≡ w
match-unique m small p n t o i v w h k =
    let orbit : k.orbit ≡ h.orbit = some_same k.orbit h.orbit (sym k.is_orbit ∙ h.is_orbit) in
    let place : k.place.x ≡ h.place.x = place-unique m n t k.place h.place in
    displacement-unique m.tolerance small m.group.d p h.place.x (place_at h.orbit.places i) v w h.displaces
    (subst (λ (y : Vector ℤ). IsDisplacement m.group.d m.tolerance y (place_at h.orbit.places i) w) place
    (subst (λ (u : OrbitView). IsDisplacement m.group.d m.tolerance k.place.x (place_at u.places i) w) orbit k.displaces))

earlier_line : (m : Matching) (n t : ℕ) → ListedPlace m n t → n < length m.listed
earlier_line m n t p = slice_get_within m.listed n p.line p.is_line

-- an atom that an accepted place matches is matched by no other
pub matched-once : (m : Matching) → IsAccepted m → (n t k u o i : ℕ) → MatchesAtom m n t o i → MatchesAtom m k u o i → (n ≡ k) × (t ≡ u)
matched-once m a n t k u o i h g = elim (cases_order n k) [
  | inl e ↦ elim (cases_order t u) [
    | inl f ↦ (e, f)
    | inr (inl l) ↦ absurd (later n t k u h g (inr (e, l)))
    | inr (inr l) ↦ absurd (later k u n t g h (inr (sym e, l)))
  ]
  | inr (inl l) ↦ absurd (later n t k u h g (inl l))
  | inr (inr l) ↦ absurd (later k u n t g h (inl l))
]
  where
    -- the earlier place of two
    later : (n t k u : ℕ) → MatchesAtom m n t o i → MatchesAtom m k u o i → IsEarlier n t k u → ⊥
    later n t k u h g e =
        let one = a.matched k u (inl (earlier_line m k u g.1.place)) g.1.place in
        let same = one.only o i g in
        one.new (n, t, e, subst (λ (j : ℕ). MatchesAtom m n t one.orbit j) same.1 (subst (λ (p : ℕ). MatchesAtom m n t p i) same.0 h))
