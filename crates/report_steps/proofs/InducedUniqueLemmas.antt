-- Matrices that agree on the little group induce the same: one kind, and one real dimension.
use Rattle.std.proofs.Common.{◌≡◌, refl, sym, ap, ◌∙◌, subst, ℕ, zero, suc, ◌<◌, ◌*◌, ◌/◌, ◌%◌, Bool, true, false, if◌then◌else◌, ℤ, List, length, slice_index, arith}
use Rattle.std.proofs.lemmas.Bool.{true≢false}
use Rattle.std.proofs.lemmas.Nat.{mod_below}
use Rattle.cyclo24.specs.ExactField.{ExactField, Value}
use Rattle.cyclo24.specs.ExactZ24.{ExactZ24, z24, z24_laws}
use Rattle.cyclo24.specs.FieldOn.{ones}
use Rattle.cyclo24.specs.Sums.{total}
use Rattle.cyclo24.specs.TotalLaws.{total-same}
use Rattle.space_ops.specs.Member.{rotation_of, rest_of}
use Rattle.algebra.specs.Whole.{whole}
use Rattle.space_ops.specs.Seitz.{Seitz, seitz_product, seitz_inverse}
use Rattle.space_ops.specs.Words.{op_at}
use Rattle.kstar.specs.WaveVector.{phase_of}
use Rattle.kstar.specs.Star.{WaveStar}
use Rattle.super_group.specs.Quotient.{SupercellGroup, order_of, element_of, quotient_group}
use Rattle.small_rep.specs.SmallRep.{Matrices, phased, is_listed, little_matrix}
use Rattle.small_rep.specs.LittleMatrixLaws.{listed-contains}
use Rattle.induce.specs.Induced.{little_part, is_block, induced_matrix, dimension_of, induced_of, character_at, indicator_sum}
use Rattle.induce.specs.Kinds.{IsKind, real_dimension, HasTooMany}
use Rattle.induce.specs.declared.kinds.Kind.{Kind}
use Rattle.induce.specs.declared.kinds.Kind.TheVariants as kind
use Rattle.report_steps.proofs.ReadUniqueLemmas.{Agree}
use Rattle.report_steps.proofs.StarPairLemmas.{IsTwin}

-- ---- one kind

-- a whole number from 1 on isn't 0
apart : (f : ExactField) (n : ℕ) → 0 < n → ones f.laws n ≡ f.laws.nought → ⊥
apart f zero l e = absurd (omega arith)
apart f (suc n) l e = true≢false (sym (ap f.laws.is_nought e ∙ f.laws.is_nought-nought) ∙ f.characteristic_zero n)

kind-by : (f : ExactField) (n : ℕ) (x : Value f) → 0 < n → x ≡ ones f.laws n → x ≡ f.laws.nought → ⊥
kind-by f n x l e h = apart f n l (sym e ∙ h)

pub kind-one : (k l : Kind) (x : ExactZ24) (n : ℕ) → 0 < n → IsKind k x n → IsKind l x n → k ≡ l
kind-one kind.Real kind.Real x n z a b = refl
kind-one kind.Real kind.Complex x n z a b = absurd (kind-by z24 n x z a b)
kind-one kind.Real kind.Pseudoreal x n z a b = absurd (b.0 a)
kind-one kind.Complex kind.Real x n z a b = absurd (kind-by z24 n x z b a)
kind-one kind.Complex kind.Complex x n z a b = refl
kind-one kind.Complex kind.Pseudoreal x n z a b = absurd (b.1 a)
kind-one kind.Pseudoreal kind.Real x n z a b = absurd (a.0 b)
kind-one kind.Pseudoreal kind.Complex x n z a b = absurd (a.1 b)
kind-one kind.Pseudoreal kind.Pseudoreal x n z a b = refl

-- ---- one matrix for each element

some_of : (m n x : ℕ) → x < m * n → 0 < n
some_of m zero x l = let e : m * zero ≡ 0 = omega arith in absurd (omega (arith, e, l))
some_of m (suc n) x l = omega arith

by_block : (b : Bool) (x y : ExactZ24) → (b ≡ true → x ≡ y) → (if b then x else z24_laws.nought) ≡ (if b then y else z24_laws.nought)
by_block true x y f = f refl
by_block false x y f = refl

module _ (q : SupercellGroup) (s t : WaveStar) (w : IsTwin s t) (n : ℕ) (g h : Matrices) (a : Agree s.little n g h) where
  entry-same : (m : Seitz ℤ) (x y : ℕ) → x < dimension_of s n → y < dimension_of s n → induced_matrix q.parent s n g m x y ≡ induced_matrix q.parent s n h m x y
  unfolding induced_matrix little_matrix
  entry-same m x y lx ly =
      let z = some_of (length s.by) n x lx in
      let part = little_part q.parent s m (x / n) (y / n) in
      let r = rotation_of q.parent part in
      by_block (is_block q.parent s m (x / n) (y / n)) (phased (phase_of s.row (rest_of q.parent part)) (g r (x % n) (y % n))) (phased (phase_of s.row (rest_of q.parent part)) (h r (x % n) (y % n)))
      (λ b. ap (λ v. phased (phase_of s.row (rest_of q.parent part)) v) (a r (x % n) (y % n) (listed-contains s.little r b) (mod_below x n z) (mod_below y n z)))

  -- the star with the row, the little group and the representatives of the other
  twin-entry : (m : Seitz ℤ) (x y : ℕ) → induced_matrix q.parent s n h m x y ≡ induced_matrix q.parent t n h m x y
  unfolding induced_matrix little_matrix
  twin-entry m x y =
      let p = q.parent in
      let part = λ (by : List ℕ). seitz_product whole (seitz_inverse whole (op_at p.ops (slice_index by (x / n)))) (seitz_product whole m (op_at p.ops (slice_index by (y / n)))) in
      (λ i.
      if is_listed (w.little i) (rotation_of p (part (w.by i))) then phased (phase_of (w.row i) (rest_of p (part (w.by i)))) (h (rotation_of p (part (w.by i))) (x % n) (y % n)) else z24_laws.nought)

  pub matrix-same : (e x y : ℕ) → x < dimension_of s n → y < dimension_of s n → induced_of q s n g e x y ≡ induced_of q t n h e x y
  matrix-same e x y lx ly = entry-same (element_of q e) x y lx ly ∙ twin-entry (element_of q e) x y

  character-same : (e : ℕ) → character_at q s n g e ≡ character_at q t n h e
  character-same e =
      total-same z24_laws (dimension_of s n) (λ x. induced_of q s n g e x x) (λ x. induced_of q t n h e x x) (λ x l. matrix-same e x x l l)
      ∙ ap (λ (xs : List ℕ). total z24_laws (length xs * n) (λ x. induced_of q t n h e x x)) w.by

  pub indicator-same : indicator_sum q s n g ≡ indicator_sum q t n h
  indicator-same =
      total-same z24_laws (order_of q) (λ d. character_at q s n g ((quotient_group q).product d d)) (λ d. character_at q t n h ((quotient_group q).product d d))
      (λ d l. character-same ((quotient_group q).product d d))

  pub kind-same : 0 < order_of q → (k l : Kind) → IsKind k (indicator_sum q s n g) (order_of q) → IsKind l (indicator_sum q t n h) (order_of q) → k ≡ l
  kind-same z k l x y = kind-one k l (indicator_sum q t n h) (order_of q) z (subst (λ (v : ExactZ24). IsKind k v (order_of q)) indicator-same x) y

  pub dimension-same : dimension_of s n ≡ dimension_of t n
  dimension-same = ap (λ (xs : List ℕ). length xs * n) w.by

  pub real-same : 0 < order_of q → (k l : Kind) → IsKind k (indicator_sum q s n g) (order_of q) → IsKind l (indicator_sum q t n h) (order_of q)
      → real_dimension k (dimension_of s n) ≡ real_dimension l (dimension_of t n)
  real-same z k l x y = λ i. real_dimension (kind-same z k l x y i) (dimension-same i)

  pub many-same : 0 < order_of q → (m k : ℕ) → HasTooMany q s n g m → HasTooMany q t n h k → m ≡ k
  many-same z m k x y = x.dimension ∙ real-same z x.kind y.kind x.is_kind y.is_kind ∙ sym y.dimension

  pub many-too : (m : ℕ) → HasTooMany q s n g m → HasTooMany q t n h m
  many-too m x = record {
    kind = x.kind;
    is_kind = subst (λ (v : ExactZ24). IsKind x.kind v (order_of q)) indicator-same x.is_kind;
    dimension = x.dimension ∙ ap (real_dimension x.kind) dimension-same;
    many = x.many;
  }
