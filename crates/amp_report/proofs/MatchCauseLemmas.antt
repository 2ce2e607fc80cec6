-- What stops the matching of listed lines is one, and with it there are no displacements.
use Rattle.std.proofs.Common.{◌≡◌, sym, ap, ◌∙◌, subst, ◌⊎◌, inl, inr, ℕ, ◌<◌, ℤ, List, [], length, Option, Some, None, IfSome, slice_get, slice_index_or}
use Rattle.std.proofs.lemmas.Bool.{cases_order}
use Rattle.std.proofs.lemmas.Option.{same_Some, slice_get_within}
use Rattle.iso_text.specs.declared.sections.AtomText.{AtomText}
use Rattle.iso_text.specs.declared.sections.CellText.{CellText}
use Rattle.space_ops.specs.Matrix.{Vector}
use Rattle.space_ops.specs.Op.{vector_of}
use Rattle.space_ops.specs.Words.{vector_difference}
use Rattle.super_group.specs.Quotient.{SupercellGroup, translation_at}
use Rattle.wyckoff.specs.Orbit.{OrbitView}
use Rattle.wyckoff.specs.Places.{in_units}
use Rattle.distort_match.specs.ListedCells.{IsBadCell}
use Rattle.distort_match.specs.Matches.{Matching, IsOnGrid, IsPlace, ListedPlace, MatchesAtom}
use Rattle.distort_match.specs.Outcomes.{IsEarlier, IsTaken, MatchesOne, IsAcceptedTo, IsAccepted, AreShiftsOf, HasBadCell, IsOffGrid, IsUnmatched, MatchesTwo, MatchesTaken, IsAmbiguous, IsMissing, IsMatchCause, shift_at}
use Rattle.distort_match.specs.declared.errors.MatchError.{MatchError}
use Rattle.distort_match.specs.declared.errors.MatchError.TheVariants.{Unmatched, Ambiguous, MissingAtom, BadCell, OffGrid, NoMemory}

-- an answer, not want of memory
abbrev pub IsAnswer : MatchError → Type 0
IsAnswer NoMemory = ⊥
IsAnswer _ = Unit {0}

-- the first of two pairs, or both are one
pairs-order : (n t k u : ℕ) → IsEarlier n t k u ⊎ (((n ≡ k) × (t ≡ u)) ⊎ IsEarlier k u n t)
pairs-order n t k u = elim (cases_order n k) [
  | inl e ↦ elim (cases_order t u) [
    | inl f ↦ inr (inl (e, f))
    | inr (inl l) ↦ inl (inr (e, l))
    | inr (inr l) ↦ inr (inr (inr (sym e, l)))
  ]
  | inr (inl l) ↦ inl (inl l)
  | inr (inr l) ↦ inr (inr (inl l))
]

-- the line of a place is on the grid
place-on_grid : (s : SupercellGroup) (cell : Option CellText) (line : AtomText) (t : ℕ) (x : Vector ℤ) → IsPlace s cell line t x → IsOnGrid cell line
place-on_grid s None line t x h = tt
place-on_grid s (Some cell) line t x h = (vector_difference x (in_units (translation_at s.translations t)), h.2)

-- one element of a list at one place
listed-one : {A : Type 0} (xs : List A) (n k : ℕ) (a b : A) → n ≡ k → slice_get xs n ≡ Some a → slice_get xs k ≡ Some b → a ≡ b
listed-one xs n k a b e h f = same_Some a b (sym h ∙ ap (slice_get xs) e ∙ f)

module _ (m : Matching) where
  -- ---- places

  -- place t of line n matches no atom
  abbrev HasNone : ℕ → ℕ → Type 0
  HasNone n t = (o i : ℕ) → MatchesAtom m n t o i → ⊥

  abbrev HasMore : ℕ → ℕ → Type 0
  HasMore n t = MatchesTwo m n t ⊎ MatchesTaken m n t

  -- all before place t of line n is accepted, and it matches no atom, or no atom alone
  abbrev IsStopped : ℕ → ℕ → Type 0
  IsStopped n t = IsAcceptedTo m n t × ListedPlace m n t × (HasNone n t ⊎ HasMore n t)

  none-or-one : (n t : ℕ) → HasNone n t ⊎ HasMore n t → MatchesOne m n t → ⊥
  none-or-one n t (inl f) w = f w.orbit w.atom w.matches
  none-or-one n t (inr (inl h)) w =
      let a = w.only h.orbit h.atom h.first in
      let b = w.only h.orbit' h.atom' h.second in
      h.apart (a.0 ∙ sym b.0, a.1 ∙ sym b.1)
  none-or-one n t (inr (inr (o, i, h, k))) w =
      let e = w.only o i h in
      w.new (subst (λ (p : ℕ). IsTaken m n t p w.atom) e.0 (subst (λ (j : ℕ). IsTaken m n t o j) e.1 k))

  none-or-more : (n t k u : ℕ) → (n ≡ k) × (t ≡ u) → HasNone n t → HasMore k u → ⊥
  none-or-more n t k u e f h =
      let P : ℕ → Type 0 = λ j. HasNone j t in
      let g : HasNone k u = subst (HasNone k) e.1 (subst P e.0 f) in
      none-or-first k u g h
    where
      none-or-first : (k u : ℕ) → HasNone k u → HasMore k u → ⊥
      none-or-first k u g (inl h) = g h.orbit h.atom h.first
      none-or-first k u g (inr (o, i, h, w)) = g o i h

  stopped-by : (n t k u : ℕ) → IsStopped n t → IsStopped k u → IsEarlier n t k u ⊎ (((n ≡ k) × (t ≡ u)) ⊎ IsEarlier k u n t) → (n ≡ k) × (t ≡ u)
  stopped-by n t k u h g (inl e) = absurd (none-or-one n t h.2 (g.0.matched n t e h.1))
  stopped-by n t k u h g (inr (inl e)) = e
  stopped-by n t k u h g (inr (inr e)) = absurd (none-or-one k u g.2 (h.0.matched k u e g.1))

  stopped-one : (n t k u : ℕ) → IsStopped n t → IsStopped k u → (n ≡ k) × (t ≡ u)
  stopped-one n t k u h g = stopped-by n t k u h g (pairs-order n t k u)

  unmatched-stopped : (line : ℕ) (h : IsUnmatched m line) → IsStopped h.n h.t
  unmatched-stopped line h = (h.accepted, h.place, inl h.none)

  ambiguous-stopped : (line : ℕ) (h : IsAmbiguous m line) → IsStopped h.n h.t
  ambiguous-stopped line h = (h.accepted, h.place, inr h.ambiguous)

  -- ---- lines off the grid

  off-stopped : (line : ℕ) (h : IsOffGrid m line) (n t : ℕ) → IsStopped n t → (h.n ≡ n) ⊎ ((h.n < n) ⊎ (n < h.n)) → ⊥
  off-stopped line h n t g (inl e) =
      let p = g.1 in
      let s = listed-one m.listed h.n n h.listed p.line e h.is_listed p.is_line in
      h.off_grid (subst (IsOnGrid m.cell) (sym s) (place-on_grid m.group m.cell p.line t p.x p.is))
  off-stopped line h n t g (inr (inl l)) = h.off_grid (g.0.on_grid h.n h.listed l h.is_listed)
  off-stopped line h n t g (inr (inr l)) = none-or-one n t g.2 (h.accepted.matched n t (inl l) g.1)

  off-or-stopped : (line : ℕ) (h : IsOffGrid m line) (n t : ℕ) → IsStopped n t → ⊥
  off-or-stopped line h n t g = off-stopped line h n t g (cases_order h.n n)

  off-by : (a b : ℕ) (h : IsOffGrid m a) (k : IsOffGrid m b) → (h.n ≡ k.n) ⊎ ((h.n < k.n) ⊎ (k.n < h.n)) → h.n ≡ k.n
  off-by a b h k (inl e) = e
  off-by a b h k (inr (inl l)) = absurd (h.off_grid (k.accepted.on_grid h.n h.listed l h.is_listed))
  off-by a b h k (inr (inr l)) = absurd (k.off_grid (h.accepted.on_grid k.n k.listed l k.is_listed))

  -- ---- all lines accepted

  accepted-or-stopped : (n t : ℕ) → IsAccepted m → IsStopped n t → ⊥
  accepted-or-stopped n t a h = none-or-one n t h.2 (a.matched n t (inl (slice_get_within m.listed n h.1.line h.1.is_line)) h.1)

  accepted-or-off : (line : ℕ) → IsAccepted m → IsOffGrid m line → ⊥
  accepted-or-off line a h = h.off_grid (a.on_grid h.n h.listed (slice_get_within m.listed h.n h.listed h.is_listed) h.is_listed)

  -- ---- bad cells

  cell-or-accepted : (line n t : ℕ) → HasBadCell m.group m.cell line → IsAcceptedTo m n t → ⊥
  cell-or-accepted line n t h a =
      let P : Option CellText → Type 0 = λ c. IfSome c (λ x. IsBadCell m.group x → ⊥) in
      let f : IsBadCell m.group h.cell → ⊥ = subst P h.is_cell a.cell in
      f h.bad

  -- ---- missing atoms

  missing-by : (l w : List ℕ) (p q : List ℤ) (h : IsMissing m l p) (k : IsMissing m w q) → IsEarlier h.o h.i k.o k.i ⊎ (((h.o ≡ k.o) × (h.i ≡ k.i)) ⊎ IsEarlier k.o k.i h.o h.i) → (l ≡ w) × (p ≡ q)
  missing-by l w p q h k (inl e) = absurd (h.missing (k.first h.o h.i h.orbit e h.is_orbit h.below))
  missing-by l w p q h k (inr (inl e)) =
      let s = listed-one m.orbits h.o k.o h.orbit k.orbit e.0 h.is_orbit k.is_orbit in (
        h.label_is ∙ ap (λ (o : OrbitView). o.label) s ∙ sym k.label_is,
        h.place_is ∙ (λ j. slice_index_or (s j).places (e.1 j) []) ∙ sym k.place_is,
      )
  missing-by l w p q h k (inr (inr e)) = absurd (k.missing (h.first k.o k.i k.orbit e k.is_orbit k.below))

  -- ---- the lines that are named

  cells-line : (a b : ℕ) → HasBadCell m.group m.cell a → HasBadCell m.group m.cell b → a ≡ b
  cells-line a b h k = h.line_is ∙ ap (λ (c : CellText). c.line) (same_Some h.cell k.cell (sym h.is_cell ∙ k.is_cell)) ∙ sym k.line_is

  off-line : (a b : ℕ) → IsOffGrid m a → IsOffGrid m b → a ≡ b
  off-line a b h k =
      let e = off-by a b h k (cases_order h.n k.n) in
      h.line_is ∙ ap (λ (x : AtomText). x.line) (listed-one m.listed h.n k.n h.listed k.listed e h.is_listed k.is_listed) ∙ sym k.line_is

  place-line : (n t k u : ℕ) (p : ListedPlace m n t) (q : ListedPlace m k u) → n ≡ k → p.line.line ≡ q.line.line
  place-line n t k u p q e = ap (λ (x : AtomText). x.line) (listed-one m.listed n k p.line q.line e p.is_line q.is_line)

  unmatched-line : (a b : ℕ) → IsUnmatched m a → IsUnmatched m b → a ≡ b
  unmatched-line a b h k =
      let e = stopped-one h.n h.t k.n k.t (unmatched-stopped a h) (unmatched-stopped b k) in
      h.line_is ∙ place-line h.n h.t k.n k.t h.place k.place e.0 ∙ sym k.line_is

  ambiguous-line : (a b : ℕ) → IsAmbiguous m a → IsAmbiguous m b → a ≡ b
  ambiguous-line a b h k =
      let e = stopped-one h.n h.t k.n k.t (ambiguous-stopped a h) (ambiguous-stopped b k) in
      h.line_is ∙ place-line h.n h.t k.n k.t h.place k.place e.0 ∙ sym k.line_is

  unmatched-or-ambiguous : (a b : ℕ) → IsUnmatched m a → IsAmbiguous m b → ⊥
  unmatched-or-ambiguous a b h k =
      none-or-more h.n h.t k.n k.t (stopped-one h.n h.t k.n k.t (unmatched-stopped a h) (ambiguous-stopped b k)) h.none k.ambiguous

  -- ---- causes

  pub causes-one : (e f : MatchError) → IsAnswer e → IsAnswer f → IsMatchCause m e → IsMatchCause m f → e ≡ f
  causes-one NoMemory f x y h k = absurd x
  causes-one e NoMemory x y h k = absurd y
  causes-one (BadCell a) (BadCell b) x y h k = ap BadCell (cells-line a b h k)
  causes-one (BadCell a) (OffGrid b) x y h k = absurd (cell-or-accepted a k.n 0 h k.accepted)
  causes-one (BadCell a) (Unmatched b) x y h k = absurd (cell-or-accepted a k.n k.t h k.accepted)
  causes-one (BadCell a) (Ambiguous b) x y h k = absurd (cell-or-accepted a k.n k.t h k.accepted)
  causes-one (BadCell a) (MissingAtom l p) x y h k = absurd (cell-or-accepted a (length m.listed) 0 h k.accepted)
  causes-one (OffGrid a) (BadCell b) x y h k = absurd (cell-or-accepted b h.n 0 k h.accepted)
  causes-one (OffGrid a) (OffGrid b) x y h k = ap OffGrid (off-line a b h k)
  causes-one (OffGrid a) (Unmatched b) x y h k = absurd (off-or-stopped a h k.n k.t (unmatched-stopped b k))
  causes-one (OffGrid a) (Ambiguous b) x y h k = absurd (off-or-stopped a h k.n k.t (ambiguous-stopped b k))
  causes-one (OffGrid a) (MissingAtom l p) x y h k = absurd (accepted-or-off a k.accepted h)
  causes-one (Unmatched a) (BadCell b) x y h k = absurd (cell-or-accepted b h.n h.t k h.accepted)
  causes-one (Unmatched a) (OffGrid b) x y h k = absurd (off-or-stopped b k h.n h.t (unmatched-stopped a h))
  causes-one (Unmatched a) (Unmatched b) x y h k = ap Unmatched (unmatched-line a b h k)
  causes-one (Unmatched a) (Ambiguous b) x y h k = absurd (unmatched-or-ambiguous a b h k)
  causes-one (Unmatched a) (MissingAtom l p) x y h k = absurd (accepted-or-stopped h.n h.t k.accepted (unmatched-stopped a h))
  causes-one (Ambiguous a) (BadCell b) x y h k = absurd (cell-or-accepted b h.n h.t k h.accepted)
  causes-one (Ambiguous a) (OffGrid b) x y h k = absurd (off-or-stopped b k h.n h.t (ambiguous-stopped a h))
  causes-one (Ambiguous a) (Unmatched b) x y h k = absurd (unmatched-or-ambiguous b a k h)
  causes-one (Ambiguous a) (Ambiguous b) x y h k = ap Ambiguous (ambiguous-line a b h k)
  causes-one (Ambiguous a) (MissingAtom l p) x y h k = absurd (accepted-or-stopped h.n h.t k.accepted (ambiguous-stopped a h))
  causes-one (MissingAtom l p) (BadCell b) x y h k = absurd (cell-or-accepted b (length m.listed) 0 k h.accepted)
  causes-one (MissingAtom l p) (OffGrid b) x y h k = absurd (accepted-or-off b h.accepted k)
  causes-one (MissingAtom l p) (Unmatched b) x y h k = absurd (accepted-or-stopped k.n k.t h.accepted (unmatched-stopped b k))
  causes-one (MissingAtom l p) (Ambiguous b) x y h k = absurd (accepted-or-stopped k.n k.t h.accepted (ambiguous-stopped b k))
  causes-one (MissingAtom l p) (MissingAtom w q) x y h k = let s = missing-by l w p q h k (pairs-order h.o h.i k.o k.i) in λ j. MissingAtom (s.0 j) (s.1 j)

  -- where all atoms have displacements, nothing stops the matching
  pub shifts-or-cause : (e : MatchError) (shifts : List (List (List ℤ))) → IsAnswer e → IsMatchCause m e → AreShiftsOf m shifts → ⊥
  shifts-or-cause NoMemory shifts x h a = x
  shifts-or-cause (BadCell line) shifts x h a = cell-or-accepted line (length m.listed) 0 h a.accepted
  shifts-or-cause (OffGrid line) shifts x h a = accepted-or-off line a.accepted h
  shifts-or-cause (Unmatched line) shifts x h a = accepted-or-stopped h.n h.t a.accepted (unmatched-stopped line h)
  shifts-or-cause (Ambiguous line) shifts x h a = accepted-or-stopped h.n h.t a.accepted (ambiguous-stopped line h)
  shifts-or-cause (MissingAtom l p) shifts x h a =
      let s = a.each h.o h.i h.orbit h.is_orbit h.below in
      h.missing (s.0, s.1, (vector_of (shift_at shifts h.o h.i), s.2))
