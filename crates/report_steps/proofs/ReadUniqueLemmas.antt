-- The `mat` lines of a block have one reading, or one cause.
use Rattle.std.proofs.Common.{◌≡◌, sym, ap, ◌∙◌, subst, ℕ, ◌<◌, ◌≤◌, ◌+◌, ◌*◌, List, [], length, slice_index, slice_index_or, Some, None, arith}
use Rattle.std.specs.Prelude.{Contains}
use Rattle.std.proofs.lemmas.List.{get_or_default}
use Rattle.algebra.specs.Whole.{whole}
use Rattle.cyclo24.specs.Terms.{terms_value}
use Rattle.iso_text.specs.declared.sections.MatText.{MatText}
use Rattle.space_ops.specs.declared.op.Op.{Op}
use Rattle.space_ops.specs.Op.{identity_op}
use Rattle.space_ops.specs.Group.{Parent}
use Rattle.space_ops.specs.Matrix.{minus_vector}
use Rattle.space_ops.specs.Member.{rest_of}
use Rattle.kstar.specs.WaveVector.{phase_of}
use Rattle.kstar.specs.Star.{WaveStar}
use Rattle.small_rep.specs.SmallRep.{Matrices, phased, IsLittleOp}
use Rattle.small_rep.specs.Reading.{no_line, operation_at, rotation_at, carried_at, AreGoodLines, HasLine, AreReadFrom, IsNotLittleLine, IsTwiceLine, IsMissing, IsReadCause}
use Rattle.small_rep.specs.declared.errors.RepError.{RepError}
use Rattle.small_rep.specs.declared.errors.RepError.TheVariants as rep
use Rattle.report_steps.specs.declared.refusal.Refusal.{Refusal}
use Rattle.report_steps.specs.declared.refusal.Refusal.TheVariants as refusal
use Rattle.report_steps.specs.Irreps.{refusal_of}
use Rattle.report_steps.proofs.StarPairLemmas.{IsTwin, twin-sym, little-op, good-lines}

-- two places, none of them before the other
pub one-place : (i j : ℕ) → (i < j → ⊥) → (j < i → ⊥) → i ≡ j
one-place i j f g = grind arith

pub some-same : {X : Type 0} (x y : X) → Some x ≡ Some y → x ≡ y
some-same x y e = cc

-- ---- the first bad line

module _ (p : Parent) (mats : List MatText) where
  fewer : (s : WaveStar) (k l : ℕ) → k ≤ l → AreGoodLines p s mats l → AreGoodLines p s mats k
  fewer s k l m g = record { little = λ i b. g.little i (omega (arith, b, m)); apart = λ i j b c. g.apart i j b (omega (arith, c, m)) }

  record IsBadAt (s : WaveStar) (a : ℕ) : Type 0 where
    listed : a < length mats
    before : AreGoodLines p s mats a
    bad : AreGoodLines p s mats (a + 1) → ⊥

  little-bad : (s : WaveStar) (n : ℕ) (a : IsNotLittleLine p s mats n) → IsBadAt s a.place
  little-bad s n a = record { listed = a.listed; before = a.before; bad = λ g. a.apart (g.little a.place (omega arith)) }

  twice-bad : (s : WaveStar) (n : ℕ) (a : IsTwiceLine p s mats n) → IsBadAt s a.place
  twice-bad s n a = record { listed = a.listed; before = a.before; bad = λ g. g.apart a.earlier a.place a.is_earlier (omega arith) a.same }

  module _ (s t : WaveStar) (w : IsTwin s t) where
    -- no good lines reach behind a bad one
    bad-none : (a l : ℕ) → IsBadAt s a → a < l → AreGoodLines p t mats l → ⊥
    bad-none a l b m g = b.bad (good-lines p t s (twin-sym s t w) mats (a + 1) (fewer t (a + 1) l (omega (arith, m)) g))

  bad-one : (s t : WaveStar) → IsTwin s t → (a b : ℕ) → IsBadAt s a → IsBadAt t b → a ≡ b
  bad-one s t w a b x y = one-place a b (λ l. bad-none s t w a b x l y.before) (λ l. bad-none t s (twin-sym s t w) b a y l x.before)

-- ---- refusals of reading

-- a block refused in reading it
pub data IsReadRefusal (p : Parent) (s : WaveStar) (name : List ℕ) (mats : List MatText) (r : Refusal) : Type 0 where
  not_little : (n : ℕ) (a : IsNotLittleLine p s mats n) (e : r ≡ refusal.NotLittle n) → IsReadRefusal p s name mats r
  twice : (n : ℕ) (a : IsTwiceLine p s mats n) (e : r ≡ refusal.RotationTwice n) → IsReadRefusal p s name mats r
  missing : (op : Op) (a : IsMissing p s mats op) (e : r ≡ refusal.RotationMissing name op) → IsReadRefusal p s name mats r

pub none-some : {X : Type 0} (x : X) → None ≡ Some x → ⊥
none-some x e = cc

pub read-refusal : (p : Parent) (s : WaveStar) (name : List ℕ) (mats : List MatText) (r : Refusal) (e : RepError) → IsReadCause p s mats e → refusal_of name e ≡ Some r → IsReadRefusal p s name mats r
read-refusal p s name mats r (rep.NotLittle n) c e = not_little n c (sym (some-same (refusal.NotLittle n) r e))
read-refusal p s name mats r (rep.RotationTwice n) c e = twice n c (sym (some-same (refusal.RotationTwice n) r e))
read-refusal p s name mats r (rep.RotationMissing op) c e = missing op c (sym (some-same (refusal.RotationMissing name op) r e))
read-refusal p s name mats r rep.NotUnit c e = absurd c
read-refusal p s name mats r (rep.NotMultiplying a b) c e = absurd c
read-refusal p s name mats r (rep.NotIrreducible sum n) c e = absurd c
read-refusal p s name mats r (rep.Wide k) c e = absurd (none-some r e)
read-refusal p s name mats r rep.NoMemory c e = absurd (none-some r e)

module _ (p : Parent) (s t : WaveStar) (w : IsTwin s t) (mats : List MatText) where
  abbrev line_at : ℕ → ℕ
  line_at i = (slice_index_or mats i no_line).line

  -- a bad line has one cause
  little-twice : (m n : ℕ) → IsNotLittleLine p s mats m → IsTwiceLine p t mats n → ⊥
  little-twice m n a b =
      let e : a.place ≡ b.place = bad-one p mats s t w a.place b.place (little-bad p mats s m a) (twice-bad p mats t n b) in
      a.apart (subst (λ i. IsLittleOp p s (operation_at mats i)) (sym e) (little-op p t s (twin-sym s t w) (operation_at mats b.place) b.little))

  missing-before : (a : Op) (b : Op) (x : IsMissing p s mats a) (y : IsMissing p t mats b) → x.place < y.place → ⊥
  missing-before a b x y l = x.none (subst (λ (xs : List ℕ). HasLine p mats (slice_index xs x.place)) (sym w.little) (y.before x.place l))

pub missing-one : (p : Parent) (s t : WaveStar) → IsTwin s t → (mats : List MatText) (a b : Op) → IsMissing p s mats a → IsMissing p t mats b → a ≡ b
missing-one p s t w mats a b x y =
    let e : x.place ≡ y.place = one-place x.place y.place (missing-before p s t w mats a b x y) (missing-before p t s (twin-sym s t w) mats b a y x) in
    x.op_is ∙ (λ i. slice_index_or p.ops (slice_index (w.little i) (e i)) identity_op) ∙ sym y.op_is

module _ (p : Parent) (s t : WaveStar) (w : IsTwin s t) (name : List ℕ) (mats : List MatText) where
  back : IsTwin t s
  back = twin-sym s t w

  good-missing : (a : ℕ) (b : Op) → IsBadAt p mats s a → IsMissing p t mats b → ⊥
  good-missing a b x y = bad-none p mats s t w a (length mats) x x.listed y.lines

  pub read-one : (r q : Refusal) → IsReadRefusal p s name mats r → IsReadRefusal p t name mats q → r ≡ q
  read-one r q (not_little m a e) (not_little n b h) =
      let at : a.place ≡ b.place = bad-one p mats s t w a.place b.place (little-bad p mats s m a) (little-bad p mats t n b) in
      e ∙ ap (λ k. refusal.NotLittle k) (a.number ∙ ap (line_at p s t w mats) at ∙ sym b.number) ∙ sym h
  read-one r q (not_little m a e) (twice n b h) = absurd (little-twice p s t w mats m n a b)
  read-one r q (not_little m a e) (missing op b h) = absurd (good-missing a.place op (little-bad p mats s m a) b)
  read-one r q (twice m a e) (not_little n b h) = absurd (little-twice p t s back mats n m b a)
  read-one r q (twice m a e) (twice n b h) =
      let at : a.place ≡ b.place = bad-one p mats s t w a.place b.place (twice-bad p mats s m a) (twice-bad p mats t n b) in
      e ∙ ap (λ k. refusal.RotationTwice k) (a.number ∙ ap (line_at p s t w mats) at ∙ sym b.number) ∙ sym h
  read-one r q (twice m a e) (missing op b h) = absurd (good-missing a.place op (twice-bad p mats s m a) b)
  read-one r q (missing op a e) (not_little n b h) = absurd (bad-none p mats t s back b.place (length mats) (little-bad p mats t n b) b.listed a.lines)
  read-one r q (missing op a e) (twice n b h) = absurd (bad-none p mats t s back b.place (length mats) (twice-bad p mats t n b) b.listed a.lines)
  read-one r q (missing op a e) (missing other b h) = e ∙ ap (refusal.RotationMissing name) (missing-one p s t w mats op other a b) ∙ sym h

  -- a block that is read is not refused in reading
  pub read-none : (r : Refusal) (size : ℕ) (g : Matrices) → IsReadRefusal p s name mats r → AreReadFrom p t size mats g → ⊥
  read-none r size g (not_little m a e) x = bad-none p mats s t w a.place (length mats) (little-bad p mats s m a) a.listed x.lines
  read-none r size g (twice m a e) x = bad-none p mats s t w a.place (length mats) (twice-bad p mats s m a) a.listed x.lines
  read-none r size g (missing op a e) x =
      a.none (subst (λ (xs : List ℕ). HasLine p mats (slice_index xs a.place)) (sym w.little) (x.complete a.place (subst (λ (xs : List ℕ). a.place < length xs) w.little a.listed)))

-- ---- one reading

-- matrices that agree on the rotations of a list
abbrev pub Agree : List ℕ → ℕ → Matrices → Matrices → Type 0
Agree little n g h = (r x y : ℕ) → Contains little r → x < n → y < n → g r x y ≡ h r x y

pub readings-agree : (p : Parent) (s t : WaveStar) → IsTwin s t → (n : ℕ) (mats : List MatText) (g h : Matrices) → AreReadFrom p s n mats g → AreReadFrom p t n mats h → Agree s.little n g h
readings-agree p s t w n mats g h a b r x y (i, l, e) lx ly =
    let at = get_or_default s.little i 0 r l ∙ e in
    let c = a.complete i l in
    let same : rotation_at p mats c.0 ≡ r = c.2 ∙ at in
    let entry = terms_value (slice_index_or (slice_index_or mats c.0 no_line).entries (x * n + y) []) in
    let carry : carried_at p s n mats c.0 x y ≡ carried_at p t n mats c.0 x y =
    λ v. phased (phase_of (w.row v) (minus_vector whole (rest_of p (operation_at mats c.0)))) entry in
    ap (λ q. g q x y) (sym same) ∙ a.matrices c.0 x y c.1 lx ly ∙ carry ∙ sym (b.matrices c.0 x y c.1 lx ly) ∙ ap (λ q. h q x y) same
