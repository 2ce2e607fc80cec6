-- Each step over the irreps of a file has one answer.
use Rattle.std.proofs.Common.{◌≡◌, sym, ap, ◌∙◌, subst, ℕ, ◌<◌, ◌*◌, inl, inr, ℤ, List, length, Option, Some, None, arith}
use Rattle.algebra.specs.Subgroup.{IsSubgroup}
use Rattle.iso_text.specs.Fractions.{IsLowest}
use Rattle.iso_text.specs.LowestLaws.{lowest-unique}
use Rattle.iso_text.specs.declared.numbers.Frac.{Frac}
use Rattle.iso_text.specs.declared.sections.IrrepText.{IrrepText}
use Rattle.iso_text.specs.declared.sections.VectorText.{VectorText}
use Rattle.space_ops.specs.declared.lattice.Lattice.{Lattice}
use Rattle.space_ops.specs.Lattice.{centrings_of}
use Rattle.space_ops.specs.Matrix.{Vector}
use Rattle.space_ops.specs.Group.{Parent, IsParentGroup}
use Rattle.space_ops.specs.GroupLaws.{rotation_group}
use Rattle.kstar.specs.WaveVector.{row_value}
use Rattle.kstar.specs.Star.{WaveStar, IsStarOf, IsFirstBadPhase, row_in}
use Rattle.kstar.specs.StarLaws.{star-subgroup}
use Rattle.super_group.specs.Quotient.{SupercellGroup, IsQuotient, order_of}
use Rattle.super_group.specs.PlaceLaws.{zero-first}
use Rattle.small_rep.specs.SmallRep.{Matrices}
use Rattle.small_rep.specs.Reading.{AreReadFrom}
use Rattle.cyclo24.specs.ExactK24.{Exact24}
use Rattle.induce.specs.declared.kinds.Kind.{Kind}
use Rattle.induce.specs.Induced.{dimension_of}
use Rattle.induce.specs.Kinds.{HasTooMany}
use Rattle.report_steps.specs.declared.refusal.Refusal.{Refusal}
use Rattle.report_steps.specs.declared.refusal.Refusal.TheVariants as refusal
use Rattle.report_steps.specs.IrrepReport.{Facts, AreFactsBy, AreFactsOf}
use Rattle.report_steps.specs.Irreps.{row_of_irrep, HasPhase, RefusesPhase, IsRepresented, HasRep, RefusesRep, IsVectorOf, IsVectorCause, HasInduced, RefusesInduced}
use Rattle.report_steps.proofs.StarPairLemmas.{IsTwin, twins}
use Rattle.report_steps.proofs.ReadUniqueLemmas.{one-place, Agree, read-refusal, read-one, read-none, readings-agree}
use Rattle.report_steps.proofs.CheckUniqueLemmas.{check-refusal, check-one, check-none, sum-too}
use Rattle.report_steps.proofs.InducedUniqueLemmas.{kind-same, dimension-same, real-same, many-same, many-too}

-- ---- the wave vector

bad_phase-one : (lattice : Lattice) (k : Vector ℤ) (f g : Frac) → IsFirstBadPhase lattice k f → IsFirstBadPhase lattice k g → f ≡ g
bad_phase-one lattice k f g a b =
    let at : a.place ≡ b.place = one-place a.place b.place (λ l. a.bad (b.first a.place l)) (λ l. b.bad (a.first b.place l)) in
    lowest-unique (row_value k (row_in (centrings_of lattice) b.place)) 144 f g (omega arith)
    (subst (λ i. IsLowest (row_value k (row_in (centrings_of lattice) i)) 144 f) at a.phase) b.phase

module _ (p : Parent) where
  pub phase-one : (i : IrrepText) (r q : Refusal) → RefusesPhase p i r → RefusesPhase p i q → r ≡ q
  phase-one i r q (f, a, e) (g, b, h) = e ∙ ap (refusal.BadPhase i.name) (bad_phase-one p.lattice (row_of_irrep i) f g a b) ∙ sym h

  pub phase-apart : (i : IrrepText) (r : Refusal) → HasPhase p i → RefusesPhase p i r → ⊥
  phase-apart i r a (f, b, e) = b.bad (a b.place b.listed)

-- ---- the small representation

module _ (p : Parent) (h : IsParentGroup p) (i : IrrepText) where
  abbrev k : Vector ℤ
  k = row_of_irrep i

  subgroup : (s : WaveStar) → IsStarOf p k s → IsSubgroup (rotation_group p.ops) s.little
  subgroup s a = star-subgroup p h k s a

  agree : (s t : WaveStar) → IsStarOf p k s → IsStarOf p k t → (g m : Matrices) → AreReadFrom p s i.size i.mats g → AreReadFrom p t i.size i.mats m → Agree s.little i.size g m
  agree s t a b g m = readings-agree p s t (twins p k s t a b) i.size i.mats g m

  pub rep-one : (r q : Refusal) → RefusesRep p i r → RefusesRep p i q → r ≡ q
  rep-one r q (e, (s, a, inl c), v) (f, (t, b, inl d), w) =
      read-one p s t (twins p k s t a b) i.name i.mats r q (read-refusal p s i.name i.mats r e c v) (read-refusal p t i.name i.mats q f d w)
  rep-one r q (e, (s, a, inl c), v) (f, (t, b, inr (g, d, x)), w) = absurd (read-none p s t (twins p k s t a b) i.name i.mats r i.size g (read-refusal p s i.name i.mats r e c v) d)
  rep-one r q (e, (s, a, inr (g, c, x)), v) (f, (t, b, inl d), w) = absurd (read-none p t s (twins p k t s b a) i.name i.mats q i.size g (read-refusal p t i.name i.mats q f d w) c)
  rep-one r q (e, (s, a, inr (g, c, x)), v) (f, (t, b, inr (m, d, y)), w) =
      check-one p s t (twins p k s t a b) (subgroup s a) i.size g m (agree s t a b g m c d) i.name r q (check-refusal p s i.name i.size g r e x v) (check-refusal p t i.name i.size m q f y w)

  pub rep-apart : (r : Refusal) → HasRep p i → RefusesRep p i r → ⊥
  rep-apart r (t, m, d) (e, (s, a, inl c), v) = read-none p s t (twins p k s t a d.star) i.name i.mats r i.size m (read-refusal p s i.name i.mats r e c v) d.read
  rep-apart r (t, m, d) (e, (s, a, inr (g, c, x)), v) =
      check-none p s t (twins p k s t a d.star) (subgroup s a) i.size g m (agree s t a d.star g m c d.read) i.name r (check-refusal p s i.name i.size g r e x v) d.small

-- ---- what it induces

vector-one : (n : ℕ) (o : Option VectorText) (r q : Refusal) → IsVectorCause n o r → IsVectorCause n o q → r ≡ q
vector-one n None r q a b = absurd a
vector-one n (Some v) r q a b = a.1 ∙ sym b.1

vector-apart : (n : ℕ) (o : Option VectorText) (r : Refusal) → IsVectorOf n o → IsVectorCause n o r → ⊥
vector-apart n None r a b = b
vector-apart n (Some v) r a b = b.0 a

-- a quotient has elements
pub some-elements : (q : SupercellGroup) → IsQuotient q → 0 < order_of q
some-elements q h =
    product-some (length q.parent.ops) (length q.translations) h.parent.list.some (zero-first q.parent.lattice q.d q.translations h.supercell.positive h.translations).0
  where
    product-some : (m n : ℕ) → 0 < m → 0 < n → 0 < m * n
    product-some m n a b = grind arith

module _ (q : SupercellGroup) (h : IsQuotient q) (i : IrrepText) where
  abbrev p : Parent
  p = q.parent

  abbrev row : Vector ℤ
  row = row_of_irrep i

  some : 0 < order_of q
  some = some-elements q h

  pub twin : (s t : WaveStar) (g m : Matrices) → IsRepresented p i s g → IsRepresented p i t m → IsTwin s t
  twin s t g m a b = twins p row s t a.star b.star

  pub alike : (s t : WaveStar) (g m : Matrices) → IsRepresented p i s g → IsRepresented p i t m → Agree s.little i.size g m
  alike s t g m a b = agree p h.parent i s t a.star b.star g m a.read b.read

  same-many : (s t : WaveStar) (g m : Matrices) → IsRepresented p i s g → IsRepresented p i t m → (n : ℕ) → HasTooMany q s i.size g n → HasTooMany q t i.size m n
  same-many s t g m a b = many-too q s t (twin s t g m a b) i.size g m (alike s t g m a b)

  pub induced-one : (r o : Refusal) → RefusesInduced q i r → RefusesInduced q i o → r ≡ o
  induced-one r o (s, g, a, inl (n, x, e)) (t, m, b, inl (l, y, f)) =
      e ∙ ap (refusal.TooManyDimensions i.name) (many-same q s t (twin s t g m a b) i.size g m (alike s t g m a b) some n l x y) ∙ sym f
  induced-one r o (s, g, a, inl (n, x, e)) (t, m, b, inr (none, y)) = absurd (none n (same-many s t g m a b n x))
  induced-one r o (s, g, a, inr (none, x)) (t, m, b, inl (l, y, f)) = absurd (none l (same-many t s m g b a l y))
  induced-one r o (s, g, a, inr (none, x)) (t, m, b, inr (void, y)) =
      let e = dimension-same q s t (twin s t g m a b) i.size g m (alike s t g m a b) in
      vector-one (dimension_of t i.size) i.vector r o (subst (λ n. IsVectorCause n i.vector r) e x) y

  pub induced-apart : (r : Refusal) → HasInduced q i → RefusesInduced q i r → ⊥
  induced-apart r (t, m, b) (s, g, a, inl (n, x, e)) = b.few n (same-many s t g m a b.rep n x)
  induced-apart r (t, m, b) (s, g, a, inr (none, x)) =
      let e = dimension-same q s t (twin s t g m a b.rep) i.size g m (alike s t g m a b.rep) in
      vector-apart (dimension_of t i.size) i.vector r b.vector (subst (λ n. IsVectorCause n i.vector r) e x)

  abbrev facts : List ℕ → ℕ → Exact24 → Kind → ℕ → Facts
  facts by little sum kind dim = record { by = by; little = little; sum = sum; kind = kind; dim = dim }

  facts-by : (e f : Facts) (s t : WaveStar) (g m : Matrices) → AreFactsBy q i e s g → AreFactsBy q i f t m → e ≡ f
  facts-by e f s t g m a b =
      let w = twin s t g m a.inducible.rep b.inducible.rep in
      let c = alike s t g m a.inducible.rep b.inducible.rep in
      let by : e.by ≡ f.by = a.by ∙ w.by ∙ sym b.by in
      let little : e.little ≡ f.little = a.little ∙ ap (λ (xs : List ℕ). length xs) w.little ∙ sym b.little in
      let sum : e.sum ≡ f.sum = a.sum ∙ sum-too p s t w (subgroup p h.parent i s a.inducible.rep.star) i.size g m c ∙ sym b.sum in
      let kind : e.kind ≡ f.kind = kind-same q s t w i.size g m c some e.kind f.kind a.kind b.kind in
      let dim : e.dim ≡ f.dim = a.dim ∙ real-same q s t w i.size g m c some e.kind f.kind a.kind b.kind ∙ sym b.dim in
      (λ x. facts (by x) (little x) (sum x) (kind x) (dim x))

  pub facts-one : (e f : Facts) → AreFactsOf q i e → AreFactsOf q i f → e ≡ f
  facts-one e f (s, g, a) (t, m, b) = facts-by e f s t g m a b
