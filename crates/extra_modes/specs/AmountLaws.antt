-- The amounts that lines give are one, or there is one line that is refused.
--
-- amounts-unique: lines give one list of amounts
-- gather_cause-unique: one line is refused, for one cause
-- gathered-apart: no line is refused where there are amounts
use Rattle.std.proofs.Common.{◌≡◌, refl, sym, ap, ◌∙◌, subst, ℕ, ◌<◌, inl, inr, ℤ, List, [], length, get_or, Some, slice_get, arith}
use Rattle.std.proofs.lemmas.Bool.{cases_order}
use Rattle.std.proofs.lemmas.List.{ext_get_or}
use Rattle.std.proofs.lemmas.Option.{slice_get_cases, slice_get_within, same_Some}
use Rattle.extra_modes.specs.declared.amount_lines.AmountLine.{AmountLine}
use Rattle.extra_modes.specs.declared.errors.ExtraError.{ExtraError}
use Rattle.extra_modes.specs.declared.errors.ExtraError.TheVariants.{Wide, Unmatched, Ambiguous, NoMemory}
use Rattle.extra_modes.specs.Amounts.{Naming, Names, AreAccepted, AmountsView, IsAmountOf, AreAmounts, IsUnmatched, IsAmbiguous, IsGatherCause}

module _ (g : Naming) where
  line_of : (n : ℕ) (a b : AmountLine) → slice_get g.lines n ≡ Some a → slice_get g.lines n ≡ Some b → a ≡ b
  line_of n a b e f = same_Some _ _ (sym e ∙ f)

  line_at : (n k : ℕ) (a b : AmountLine) → n ≡ k → slice_get g.lines n ≡ Some a → slice_get g.lines k ≡ Some b → a ≡ b
  line_at n k a b e f m = line_of n a b f (ap (slice_get g.lines) e ∙ m)

  named_within : (n o i : ℕ) → Names g n o i → n < length g.lines
  named_within n o i h = slice_get_within g.lines n h.line h.is_line

  -- one line names an atom
  one_line : AreAccepted g (length g.lines) → (n k o i : ℕ) → Names g n o i → Names g k o i → n ≡ k
  one_line a n k o i h w = elim (cases_order n k) [
    | inl e ↦ e
    | inr f ↦ elim f [
      | inl l ↦ absurd ((a k (named_within k o i w)).new o i w (n, l, h))
      | inr l ↦ absurd ((a n (named_within n o i h)).new o i h (k, l, w))
    ]
  ]

  one_amount : AreAccepted g (length g.lines) → (o i : ℕ) (x y : List ℤ) → IsAmountOf g o i x → IsAmountOf g o i y → x ≡ y
  one_amount a o i x y (inl (n, h, e)) (inl (k, w, f)) =
      e ∙ ap (λ (l : AmountLine). l.numbers) (line_at n k h.line w.line (one_line a n k o i h w) h.is_line w.is_line) ∙ sym f
  one_amount a o i x y (inl (n, h, e)) (inr (none, f)) = absurd (none n h)
  one_amount a o i x y (inr (none, e)) (inl (k, w, f)) = absurd (none k w)
  one_amount a o i x y (inr (none, e)) (inr (also, f)) = e ∙ sym f

  module _ (each : ℕ) (v w : AmountsView) (a : AreAmounts g each v) (b : AreAmounts g each w) where
    same_orbit : (o : ℕ) → o < length v.atoms → get_or v.atoms o [] ≡ get_or w.atoms o []
    same_orbit o l = elim ((slice_get_cases g.orbits o).1) [
      | inl f ↦
          let n : length (get_or v.atoms o []) ≡ length f.0.places = a.atoms o f.0 f.2 in
          let m : length (get_or w.atoms o []) ≡ length f.0.places = b.atoms o f.0 f.2 in
          ext_get_or [] (get_or v.atoms o []) (get_or w.atoms o []) (n ∙ sym m)
          (λ i k. one_amount a.accepted o i (get_or (get_or v.atoms o []) i []) (get_or (get_or w.atoms o []) i []) (a.amounts o i f.0 f.2 (subst (λ c. i < c) n k))
          (b.amounts o i f.0 f.2 (subst (λ c. i < c) n k)))
      | inr f ↦ let c = a.orbits in let m = f.0 in absurd (omega (arith, l, c, m))
    ]

    pub amounts-unique : v ≡ w
    amounts-unique =
        let e : v.atoms ≡ w.atoms = ext_get_or [] v.atoms w.atoms (a.orbits ∙ sym b.orbits) same_orbit in
        let f : v.each ≡ w.each = a.each_is ∙ sym b.each_is in
        λ i. record { each = f i; atoms = e i }

  -- a line that is refused isn't accepted
  unmatched_refused : (line : ℕ) (u : IsUnmatched g line) (n : ℕ) → AreAccepted g n → u.n < n → ⊥
  unmatched_refused line u n a l = let h = (a u.n l).names in u.none h.0 h.1 h.2

  ambiguous_refused : (line : ℕ) (u : IsAmbiguous g line) (n : ℕ) → AreAccepted g n → u.n < n → ⊥
  ambiguous_refused line u n a l = (a u.n l).new u.o u.i u.named u.taken

  unmatched-one : (k m : ℕ) (u : IsUnmatched g k) (w : IsUnmatched g m) → k ≡ m
  unmatched-one k m u w = elim (cases_order u.n w.n) [
    | inl e ↦ u.line_is ∙ ap (λ (l : AmountLine). l.line) (line_at u.n w.n u.text w.text e u.is_text w.is_text) ∙ sym w.line_is
    | inr f ↦ elim f [ inl l ↦ absurd (unmatched_refused k u w.n w.accepted l) | inr l ↦ absurd (unmatched_refused m w u.n u.accepted l) ]
  ]

  ambiguous-one : (k m : ℕ) (u : IsAmbiguous g k) (w : IsAmbiguous g m) → k ≡ m
  ambiguous-one k m u w = elim (cases_order u.n w.n) [
    | inl e ↦ u.line_is ∙ ap (λ (l : AmountLine). l.line) (line_at u.n w.n u.named.line w.named.line e u.named.is_line w.named.is_line) ∙ sym w.line_is
    | inr f ↦ elim f [ inl l ↦ absurd (ambiguous_refused k u w.n w.accepted l) | inr l ↦ absurd (ambiguous_refused m w u.n u.accepted l) ]
  ]

  not_both : (k m : ℕ) → IsUnmatched g k → IsAmbiguous g m → ⊥
  not_both k m u w = elim (cases_order u.n w.n) [
    | inl e ↦ u.none w.o w.i (subst (λ n. Names g n w.o w.i) (sym e) w.named)
    | inr f ↦ elim f [ inl l ↦ unmatched_refused k u w.n w.accepted l | inr l ↦ ambiguous_refused m w u.n u.accepted l ]
  ]

  pub gather_cause-unique : (e f : ExtraError) → IsGatherCause g e → IsGatherCause g f → (e ≡ NoMemory → ⊥) → (f ≡ NoMemory → ⊥) → e ≡ f
  gather_cause-unique (Unmatched k) (Unmatched m) u w a b = ap Unmatched (unmatched-one k m u w)
  gather_cause-unique (Unmatched k) (Ambiguous m) u w a b = absurd (not_both k m u w)
  gather_cause-unique (Ambiguous k) (Unmatched m) u w a b = absurd (not_both m k w u)
  gather_cause-unique (Ambiguous k) (Ambiguous m) u w a b = ap Ambiguous (ambiguous-one k m u w)
  gather_cause-unique (Unmatched k) (Wide m) u w a b = absurd w
  gather_cause-unique (Ambiguous k) (Wide m) u w a b = absurd w
  gather_cause-unique (Wide m) f u w a b = absurd u
  gather_cause-unique NoMemory f u w a b = absurd (a refl)
  gather_cause-unique (Unmatched k) NoMemory u w a b = absurd (b refl)
  gather_cause-unique (Ambiguous k) NoMemory u w a b = absurd (b refl)

  pub gathered-apart : (each : ℕ) (v : AmountsView) (e : ExtraError) → AreAmounts g each v → IsGatherCause g e → e ≡ NoMemory
  gathered-apart each v (Unmatched k) a u = absurd (unmatched_refused k u (length g.lines) a.accepted (slice_get_within g.lines u.n u.text u.is_text))
  gathered-apart each v (Ambiguous k) a u = absurd (ambiguous_refused k u (length g.lines) a.accepted (named_within u.n u.o u.i u.named))
  gathered-apart each v (Wide k) a u = absurd u
  gathered-apart each v NoMemory a u = refl
