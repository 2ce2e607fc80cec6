-- The atom line that is refused is one, and with it there are no orbits.
use Rattle.std.proofs.Common.{◌≡◌, sym, ap, ◌∙◌, subst, ◌⊎◌, inl, inr, ℕ, ◌<◌, ◌*◌, List, length, Some, slice_get}
use Rattle.std.proofs.lemmas.Option.{same_Some, slice_get_within}
use Rattle.iso_text.specs.declared.sections.AtomText.{AtomText}
use Rattle.lin_alg.specs.SpanLaws.{order}
use Rattle.space_ops.specs.Op.{vector_of}
use Rattle.super_group.specs.Quotient.{SupercellGroup}
use Rattle.wyckoff.specs.AtomLines.{AreOnOneOrbit, AreAccepted, IsSameSite, IsTooLarge}
use Rattle.wyckoff.specs.Orbit.{ArePlacesOf}
use Rattle.wyckoff.specs.OrbitLaws.{places-unique}
use Rattle.report_steps.specs.Contexts.{Divided}
use Rattle.report_steps.specs.declared.refusal.Refusal.{Refusal}
use Rattle.report_steps.specs.declared.refusal.Refusal.TheVariants as refusal
use Rattle.mode_report.specs.Atoms.{RefusesAtoms}

same-by : (j k : ℕ) → (j < k → ⊥) → (k < j → ⊥) → (j < k) ⊎ ((j ≡ k) ⊎ (k < j)) → j ≡ k
same-by j k f g (inl l) = absurd (f l)
same-by j k f g (inr (inl e)) = e
same-by j k f g (inr (inr l)) = absurd (g l)

same-from : (j k : ℕ) → (j < k → ⊥) → (k < j → ⊥) → j ≡ k
same-from j k f g = same-by j k f g (order j k)

atom-one : (atoms : List AtomText) (i j : ℕ) (a b : AtomText) → i ≡ j → slice_get atoms i ≡ Some a → slice_get atoms j ≡ Some b → a ≡ b
atom-one atoms i j a b e h k = same_Some a b (sym h ∙ ap (slice_get atoms) e ∙ k)

module _ (s : SupercellGroup) (atoms : List AtomText) where
  same-line : (a b m n : ℕ) (h : IsSameSite s atoms a b) (k : IsSameSite s atoms m n) → h.j ≡ k.j
  same-line a b m n h k = same-from h.j k.j (λ l. (k.accepted h.j l).0 h.i h.before h.meets) (λ l. (h.accepted k.j l).0 k.i k.before k.meets)

  earlier-line : (a b m n : ℕ) (h : IsSameSite s atoms a b) (k : IsSameSite s atoms m n) → h.i ≡ k.i
  earlier-line a b m n h k =
      let e = same-line a b m n h k in
      same-from h.i k.i (λ l. k.first h.i l (subst (AreOnOneOrbit s atoms h.i) e h.meets)) (λ l. h.first k.i l (subst (AreOnOneOrbit s atoms k.i) (sym e) k.meets))

  sites-one : (a b m n : ℕ) → IsSameSite s atoms a b → IsSameSite s atoms m n → (a ≡ m) × (b ≡ n)
  sites-one a b m n h k =
      let x = atom-one atoms h.i k.i h.meets.first k.meets.first (earlier-line a b m n h k) h.meets.is_first k.meets.is_first in
      let y = atom-one atoms h.j k.j h.meets.second k.meets.second (same-line a b m n h k) h.meets.is_second k.meets.is_second in (
        h.earlier_is ∙ ap (λ (z : AtomText). z.line) x ∙ sym k.earlier_is,
        h.line_is ∙ ap (λ (z : AtomText). z.line) y ∙ sym k.line_is,
      )

  site-or-large : (a b n size : ℕ) → IsSameSite s atoms a b → IsTooLarge s atoms n size → ⊥
  site-or-large a b n size h k =
      let e : h.j ≡ k.j = same-from h.j k.j (λ l. (k.accepted h.j l).0 h.i h.before h.meets) (λ l. (h.accepted k.j l).1 size k.large) in
      k.new h.i (subst (λ j. h.i < j) e h.before) (subst (AreOnOneOrbit s atoms h.i) e h.meets)

  large-one : (n size m other : ℕ) → IsTooLarge s atoms n size → IsTooLarge s atoms m other → (n ≡ m) × (size ≡ other)
  large-one n size m other h k =
      let e : h.j ≡ k.j = same-from h.j k.j (λ l. (k.accepted h.j l).1 size h.large) (λ l. (h.accepted k.j l).1 other k.large) in
      let x = atom-one atoms h.j k.j h.large.atom k.large.atom e h.large.is k.large.is in
      let P : AtomText → Type 0 = λ z. ArePlacesOf s (vector_of z.place) h.large.places in
      let p = places-unique s (vector_of k.large.atom.place) h.large.places k.large.places (subst P x h.large.are) k.large.are in (
        h.line_is ∙ ap (λ (z : AtomText). z.line) x ∙ sym k.line_is,
        h.large.size_is ∙ ap (λ v. 3 * length v) p ∙ sym k.large.size_is,
      )

  no-site : (a b : ℕ) → AreAccepted s atoms (length atoms) → IsSameSite s atoms a b → ⊥
  no-site a b c h = (c h.j (slice_get_within atoms h.j h.meets.second h.meets.is_second)).0 h.i h.before h.meets

  no-large : (n size : ℕ) → AreAccepted s atoms (length atoms) → IsTooLarge s atoms n size → ⊥
  no-large n size c h = (c h.j (slice_get_within atoms h.j h.large.atom h.large.is)).1 size h.large

-- a line is refused for one cause
pub refused-one : (d : Divided) (r t : Refusal) → RefusesAtoms d r → RefusesAtoms d t → r ≡ t
refused-one d r t (inl (a, b, h, e)) (inl (m, n, k, f)) = let p = sites-one d.quotient d.file.atoms a b m n h k in e ∙ (λ i. refusal.SameSite (p.0 i) (p.1 i)) ∙ sym f
refused-one d r t (inl (a, b, h, e)) (inr (n, size, k, f)) = absurd (site-or-large d.quotient d.file.atoms a b n size h k)
refused-one d r t (inr (n, size, h, e)) (inl (a, b, k, f)) = absurd (site-or-large d.quotient d.file.atoms a b n size k h)
refused-one d r t (inr (n, size, h, e)) (inr (m, other, k, f)) =
    let p = large-one d.quotient d.file.atoms n size m other h k in e ∙ (λ i. refusal.TooManyAtoms (p.0 i) (p.1 i)) ∙ sym f

-- and there are no accepted lines with it
pub none-refused : (d : Divided) (r : Refusal) → AreAccepted d.quotient d.file.atoms (length d.file.atoms) → RefusesAtoms d r → ⊥
none-refused d r c (inl (a, b, h, e)) = no-site d.quotient d.file.atoms a b c h
none-refused d r c (inr (n, size, h, e)) = no-large d.quotient d.file.atoms n size c h
