-- The conditions by the table of pairs are those of the group and the star.
--
-- pair-is: the law of an ordered pair
-- accepted-small: an accepted representation of a group and a star is a small representation
-- row-below, column-below: the places of an ordered pair
-- refused-cause: why a representation is refused is why its matrices are no small representation
use Rattle.std.proofs.Common.{◌≡◌, sym, ap, ◌∙◌, subst, ℕ, ◌<◌, ◌+◌, ◌*◌, ◌/◌, ◌%◌, inl, inr, zero, suc, List, length, get_or, arith}
use Rattle.std.proofs.lemmas.List.{get_or_default}
use Rattle.std.proofs.lemmas.Nat.{div-mul-add, mod-mul-add, mul-add-lt, div_below, mod_below}
use Rattle.std.specs.Prelude.{slice_index_or}
use Rattle.space_ops.specs.declared.op.Op.{Op}
use Rattle.space_ops.specs.Op.{identity_op}
use Rattle.space_ops.specs.Group.{Parent}
use Rattle.space_ops.specs.GroupLaws.{rotation_group}
use Rattle.kstar.specs.WaveVector.{phase_of}
use Rattle.kstar.specs.Star.{WaveStar}
use Rattle.small_rep.specs.SmallRep.{Matrices, factor_of, MultiplyTo, MultipliesWithPhase, IsSmallRep, character_sum, rotation_count}
use Rattle.small_rep.specs.Check.{left_of, right_of, MultipliesAt, IsFirstFailing, IsWideLaw, IsWidePair, IsWideSum, HasOtherSum, IsCheckCause}
use Rattle.small_rep.specs.Rep.{RepView, matrices_of, pair_at, IsRepOf}
use Rattle.small_rep.specs.RepCheck.{PairMultiplies, IsAccepted, HasFailing, IsWideTablePair, IsRefused}
use Rattle.small_rep.specs.declared.errors.RepError.{RepError}
use Rattle.small_rep.specs.declared.errors.RepError.TheVariants.{NotLittle, RotationTwice, RotationMissing, NotUnit, NotMultiplying, NotIrreducible, Wide, NoMemory}

some-places : (n e : ℕ) → e < n * n → 0 < n
some-places zero e l = let c : 0 * 0 ≡ 0 = omega arith in absurd (omega (arith, l, c))
some-places (suc n) e l = omega arith

pub row-below : (n e : ℕ) → e < n * n → e / n < n
row-below n e l = div_below e n n (some-places n e l) l

pub column-below : (n e : ℕ) → e < n * n → e % n < n
column-below n e l = mod_below e n (some-places n e l)

module _ (p : Parent) (s : WaveStar) (v : RepView) (r : IsRepOf p s v) where
  abbrev g : Matrices
  g = matrices_of v

  abbrev product : ℕ → ℕ
  product e = (rotation_group p.ops).product (left_of s.little e) (right_of s.little e)

  abbrev phase : ℕ → ℕ
  phase e = phase_of s.row (factor_of p (left_of s.little e) (right_of s.little e))

  left-is : (e : ℕ) → left_of v.little e ≡ left_of s.little e
  left-is e = ap (λ xs. left_of xs e) r.little

  right-is : (e : ℕ) → right_of v.little e ≡ right_of s.little e
  right-is e = ap (λ xs. right_of xs e) r.little

  -- the law of an ordered pair
  pub pair-is : (e : ℕ) → e < length v.pairs → PairMultiplies v e ≡ MultipliesAt p s v.size g e
  pair-is e l = λ t. MultiplyTo v.size g (left-is e t) (right-is e t) ((r.pairs.each e l).product t) ((r.pairs.each e l).power t)

  wide-is : (e : ℕ) → e < length v.pairs → IsWideTablePair v e ≡ IsWidePair p s v.size g e
  wide-is e l = λ t. IsWideLaw v.size g (left-is e t) (right-is e t) ((r.pairs.each e l).product t) ((r.pairs.each e l).power t)

  multiplies-at : (e : ℕ) → e < length v.pairs → PairMultiplies v e → MultipliesAt p s v.size g e
  multiplies-at e l h = subst (λ (A : Type 0). A) (pair-is e l) h

  within : (e : ℕ) → e < length s.little * length s.little → e < length v.pairs
  within e l = subst (λ m. e < m) (sym r.pairs.count) l

  below : (e : ℕ) → e < length v.pairs → e < length s.little * length s.little
  below e l = subst (λ m. e < m) r.pairs.count l

  -- the pair of places i and j
  at_places : IsAccepted v → (i j : ℕ) → i < length s.little → j < length s.little → MultipliesWithPhase p s v.size g (get_or s.little i 0) (get_or s.little j 0)
  at_places h i j li lj =
      let n = length s.little in
      let e = i * n + j in
      let l : e < length v.pairs = within e (mul-add-lt i n j n li lj) in
      subst (λ (A : Type 0). A) (λ t. MultipliesWithPhase p s v.size g (get_or s.little (div-mul-add i n j lj t) 0) (get_or s.little (mod-mul-add i n j lj t) 0)) (multiplies-at e l (h.multiplies e l))

  pub accepted-small : IsAccepted v → IsSmallRep p s v.size g
  accepted-small h = record {
    identity = h.identity;
    multiplies = λ a b (i, li, ei) (j, lj, ej).
        subst (λ (A : Type 0). A) (λ t. MultipliesWithPhase p s v.size g ((get_or_default s.little i 0 a li ∙ ei) t) ((get_or_default s.little j 0 b lj ∙ ej) t)) (at_places h i j li lj);
    irreducible = subst (λ (xs : List ℕ). character_sum xs v.size g ≡ rotation_count xs) r.little h.irreducible;
  }

  -- the listed operations of a pair
  left-op : (e : ℕ) → e < length v.pairs → slice_index_or v.ops (e / length v.little) identity_op ≡ slice_index_or p.ops (left_of s.little e) identity_op
  left-op e l = ap (λ (xs : List ℕ). slice_index_or v.ops (e / length xs) identity_op) r.little ∙ r.ops (e / length s.little) (row-below (length s.little) e (below e l))

  right-op : (e : ℕ) → e < length v.pairs → slice_index_or v.ops (e % length v.little) identity_op ≡ slice_index_or p.ops (right_of s.little e) identity_op
  right-op e l = ap (λ (xs : List ℕ). slice_index_or v.ops (e % length xs) identity_op) r.little ∙ r.ops (e % length s.little) (column-below (length s.little) e (below e l))

  first-failing : (a b : Op) → HasFailing v a b → IsFirstFailing p s v.size g a b
  first-failing a b w = record {
    place = w.place;
    listed = below w.place w.listed;
    before = λ e m. multiplies-at e (omega (arith, m, w.listed)) (w.before e m);
    fails = λ q. w.fails (subst (λ (A : Type 0). A) (sym (pair-is w.place w.listed)) q);
    left = w.left ∙ left-op w.place w.listed;
    right = w.right ∙ right-op w.place w.listed;
  }

  pub refused-cause : (e : RepError) → IsRefused v e → IsCheckCause p s v.size g e
  refused-cause (NotLittle line) c = c
  refused-cause (RotationTwice line) c = c
  refused-cause (RotationMissing op) c = c
  refused-cause NotUnit c = c
  refused-cause (NotMultiplying a b) c = (c.0, first-failing a b c.1)
  refused-cause (NotIrreducible sum count) c = (c.0, λ e l. multiplies-at e (within e l) (c.1 e (within e l)), subst (λ (xs : List ℕ). HasOtherSum xs v.size g sum count) r.little c.2)
  refused-cause (Wide family) c = (
    c.0,
    elim c.1 [
      | inl w ↦ inl (w.0, below w.0 w.1, subst (λ (A : Type 0). A) (wide-is w.0 w.1) w.2)
      | inr w ↦ inr (subst (λ (xs : List ℕ). IsWideSum xs v.size g) r.little w)
    ],
  )
  refused-cause NoMemory c = c
