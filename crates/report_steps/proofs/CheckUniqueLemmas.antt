-- Matrices of a little group have one answer of the check.
use Rattle.std.proofs.Common.{◌≡◌, ℤ, sym, ap, ◌∙◌, subst, ℕ, zero, suc, ◌<◌, ◌*◌, ◌/◌, ◌%◌, List, length, slice_index, slice_index_or, Some, arith}
use Rattle.std.specs.Prelude.{Contains}
use Rattle.std.proofs.lemmas.List.{get_or_default}
use Rattle.std.proofs.lemmas.Nat.{div_below, mod_below}
use Rattle.algebra.specs.Subgroup.{IsSubgroup}
use Rattle.cyclo24.specs.declared.k24.K24.{K24}
use Rattle.cyclo24.specs.ExactZ24.{z24_laws, power, real_part}
use Rattle.cyclo24.specs.K24OrderLaws.{same24}
use Rattle.cyclo24.specs.TotalLaws.{total-same}
use Rattle.space_ops.specs.declared.op.Op.{Op}
use Rattle.space_ops.specs.Op.{identity_op}
use Rattle.space_ops.specs.Group.{Parent}
use Rattle.space_ops.specs.GroupLaws.{rotation_group}
use Rattle.space_ops.specs.Matrix.{Vector}
use Rattle.kstar.specs.WaveVector.{phase_of}
use Rattle.kstar.specs.Star.{WaveStar}
use Rattle.small_rep.specs.SmallRep.{Matrices, factor_of, MultiplyTo, MultipliesWithPhase, IsUnit, IsSmallRep, norm_of, norms_of, character_of, character_sum, rotation_count}
use Rattle.small_rep.specs.Check.{left_of, right_of, MultipliesAt, AllMultiply, IsFirstFailing, HasOtherSum, IsCheckCause}
use Rattle.small_rep.specs.declared.errors.RepError.{RepError}
use Rattle.small_rep.specs.declared.errors.RepError.TheVariants as rep
use Rattle.report_steps.specs.declared.refusal.Refusal.{Refusal}
use Rattle.report_steps.specs.declared.refusal.Refusal.TheVariants as refusal
use Rattle.report_steps.specs.Irreps.{refusal_of}
use Rattle.report_steps.proofs.ReadUniqueLemmas.{Agree, one-place, some-same, none-some}
use Rattle.report_steps.proofs.StarPairLemmas.{IsTwin, twin-sym}

-- a block refused behind reading it
pub data IsCheckRefusal (p : Parent) (s : WaveStar) (name : List ℕ) (n : ℕ) (g : Matrices) (r : Refusal) : Type 0 where
  not_unit : (a : IsUnit n g → ⊥) (e : r ≡ refusal.NotUnit name) → IsCheckRefusal p s name n g r
  not_multiplying : (a b : Op) (u : IsUnit n g) (f : IsFirstFailing p s n g a b) (e : r ≡ refusal.NotMultiplying name a b) → IsCheckRefusal p s name n g r
  not_irreducible : (sum : K24) (count : ℕ) (u : IsUnit n g) (all : AllMultiply p s n g) (o : HasOtherSum s.little n g sum count) (e : r ≡ refusal.NotIrreducible name sum count) → IsCheckRefusal p s name n g r

pub check-refusal : (p : Parent) (s : WaveStar) (name : List ℕ) (n : ℕ) (g : Matrices) (r : Refusal) (e : RepError) → IsCheckCause p s n g e → refusal_of name e ≡ Some r → IsCheckRefusal p s name n g r
check-refusal p s name n g r (rep.NotLittle l) c e = absurd c
check-refusal p s name n g r (rep.RotationTwice l) c e = absurd c
check-refusal p s name n g r (rep.RotationMissing op) c e = absurd c
check-refusal p s name n g r rep.NotUnit c e = not_unit c (sym (some-same (refusal.NotUnit name) r e))
check-refusal p s name n g r (rep.NotMultiplying a b) c e = not_multiplying a b c.0 c.1 (sym (some-same (refusal.NotMultiplying name a b) r e))
check-refusal p s name n g r (rep.NotIrreducible sum count) c e = not_irreducible sum count c.0 c.1 c.2 (sym (some-same (refusal.NotIrreducible name sum count) r e))
check-refusal p s name n g r (rep.Wide k) c e = absurd (none-some r e)
check-refusal p s name n g r rep.NoMemory c e = absurd c

agree-sym : (little : List ℕ) (n : ℕ) (g h : Matrices) → Agree little n g h → Agree little n h g
agree-sym little n g h a r x y c lx ly = sym (a r x y c lx ly)

-- ---- what agreeing matrices share

module _ (p : Parent) (n : ℕ) (g h : Matrices) (little : List ℕ) (a : Agree little n g h) where
  same-unit : Contains little 0 → IsUnit n g → IsUnit n h
  same-unit c u x y lx ly = sym (a 0 x y c lx ly) ∙ u x y lx ly

  same-multiply : (i j l q : ℕ) → Contains little i → Contains little j → Contains little l → MultiplyTo n g i j l q → MultiplyTo n h i j l q
  same-multiply i j l q ci cj cl m x y lx ly =
      total-same z24_laws n (λ z. z24_laws.times (h i x z) (h j z y)) (λ z. z24_laws.times (g i x z) (g j z y))
      (λ z lz. (λ t. z24_laws.times (sym (a i x z ci lx lz) t) (sym (a j z y cj lz ly) t))) ∙ m x y lx ly ∙ ap (λ v. z24_laws.times (power q) v) (a l x y cl lx ly)

  same-character : (r : ℕ) → Contains little r → character_of n g r ≡ character_of n h r
  same-character r c = total-same z24_laws n (λ x. g r x x) (λ x. h r x x) (λ x l. a r x x c l l)

  same-norms : norms_of little n g (length little) ≡ norms_of little n h (length little)
  same-norms =
      total-same z24_laws (length little) (λ k. norm_of (character_of n g (slice_index little k))) (λ k. norm_of (character_of n h (slice_index little k)))
      (λ k l. ap norm_of (same-character (slice_index little k) (k, l, sym (get_or_default little k 0 (slice_index little k) l))))

  pub same-sum : character_sum little n g ≡ character_sum little n h
  same-sum = ap real_part same-norms

-- ---- two stars of one wave vector

module _ (p : Parent) (s t : WaveStar) (w : IsTwin s t) (sub : IsSubgroup (rotation_group p.ops) s.little) (n : ℕ) (g h : Matrices) (a : Agree s.little n g h) where
  pub unit-too : IsUnit n g → IsUnit n h
  unit-too = same-unit p n g h s.little a sub.identity

  law-too : (i j : ℕ) → Contains s.little i → Contains s.little j → MultipliesWithPhase p s n g i j → MultipliesWithPhase p t n h i j
  law-too i j ci cj m =
      let c = (rotation_group p.ops).product i j in
      let P : Vector ℤ → Type 0 = λ k. MultiplyTo n h i j c (phase_of k (factor_of p i j)) in
      subst P w.row (same-multiply p n g h s.little a i j c (phase_of s.row (factor_of p i j)) ci cj (sub.product i j ci cj) m)

  contained : (i : ℕ) → i < length s.little → Contains s.little (slice_index s.little i)
  contained i l = (i, l, sym (get_or_default s.little i 0 (slice_index s.little i) l))

  some_of : (e m : ℕ) → e < m * m → 0 < m
  some_of e zero l = let z : zero * zero ≡ 0 = omega arith in absurd (omega (arith, z, l))
  some_of e (suc m) l = omega arith

  pub at-too : (e : ℕ) → e < length s.little * length s.little → MultipliesAt p s n g e → MultipliesAt p t n h e
  at-too e l m =
      let c = length s.little in
      let z = some_of e c l in
      let P : List ℕ → Type 0 = λ xs. MultipliesWithPhase p t n h (left_of xs e) (right_of xs e) in
      subst P w.little (law-too (left_of s.little e) (right_of s.little e) (contained (e / c) (div_below e c c z l)) (contained (e % c) (mod_below e c z)) m)

  count-is : length t.little * length t.little ≡ length s.little * length s.little
  count-is = ap (λ (xs : List ℕ). length xs * length xs) (sym w.little)

  pub all-too : AllMultiply p s n g → AllMultiply p t n h
  all-too m e l = let b : e < length s.little * length s.little = subst (λ k. e < k) count-is l in at-too e b (m e b)

  pub sum-too : character_sum s.little n g ≡ character_sum t.little n h
  sum-too = same-sum p n g h s.little a ∙ ap (λ (xs : List ℕ). character_sum xs n h) w.little

  -- the first pair that fails is not before one that fails
  first-not-before : (b c d e : Op) (x : IsFirstFailing p s n g b c) (y : IsFirstFailing p t n h d e) → y.place < x.place → ⊥
  first-not-before b c d e x y l = y.fails (at-too y.place (subst (λ k. y.place < k) count-is y.listed) (x.before y.place l))

-- the same of the stars and matrices in the other order
module _ (p : Parent) (s t : WaveStar) (w : IsTwin s t) (sub : IsSubgroup (rotation_group p.ops) s.little) (n : ℕ) (g h : Matrices) (a : Agree s.little n g h) where
  sub-too : IsSubgroup (rotation_group p.ops) t.little
  sub-too = subst (IsSubgroup (rotation_group p.ops)) w.little sub

  agree-too : Agree t.little n h g
  agree-too = subst (λ (xs : List ℕ). Agree xs n h g) w.little (agree-sym s.little n g h a)

  abbrev u : IsTwin t s
  u = twin-sym s t w

  failing-one : (b c d e : Op) → IsFirstFailing p s n g b c → IsFirstFailing p t n h d e → (b ≡ d) × (c ≡ e)
  failing-one b c d e x y =
      let at : x.place ≡ y.place = one-place x.place y.place (first-not-before p t s u sub-too n h g agree-too d e b c y x) (first-not-before p s t w sub n g h a b c d e x y) in
      (x.left ∙ (λ i. slice_index_or p.ops (left_of (w.little i) (at i)) identity_op) ∙ sym y.left, x.right ∙ (λ i. slice_index_or p.ops (right_of (w.little i) (at i)) identity_op) ∙ sym y.right)

  all-failing : (b c : Op) → AllMultiply p s n g → IsFirstFailing p t n h b c → ⊥
  all-failing b c m y = y.fails (at-too p s t w sub n g h a y.place l (m y.place l)) where
    l : y.place < length s.little * length s.little
    l = subst (λ k. y.place < k) (count-is p s t w sub n g h a) y.listed

  failing-all : (b c : Op) → IsFirstFailing p s n g b c → AllMultiply p t n h → ⊥
  failing-all b c x m = x.fails (at-too p t s u sub-too n h g agree-too x.place l (m x.place l)) where
    l : x.place < length t.little * length t.little
    l = subst (λ k. x.place < k) (count-is p t s u sub-too n h g agree-too) x.listed

  unit-back : IsUnit n h → IsUnit n g
  unit-back = unit-too p t s u sub-too n h g agree-too

  pub check-one : (name : List ℕ) (r q : Refusal) → IsCheckRefusal p s name n g r → IsCheckRefusal p t name n h q → r ≡ q
  check-one name r q (not_unit x e) (not_unit y f) = e ∙ sym f
  check-one name r q (not_unit x e) (not_multiplying b c v y f) = absurd (x (unit-back v))
  check-one name r q (not_unit x e) (not_irreducible sum m v y o f) = absurd (x (unit-back v))
  check-one name r q (not_multiplying b c v x e) (not_unit y f) = absurd (y (unit-too p s t w sub n g h a v))
  check-one name r q (not_multiplying b c v x e) (not_multiplying d k z y f) =
      let both = failing-one b c d k x y in e ∙ (λ i. refusal.NotMultiplying name (both.0 i) (both.1 i)) ∙ sym f
  check-one name r q (not_multiplying b c v x e) (not_irreducible sum m z y o f) = absurd (failing-all b c x y)
  check-one name r q (not_irreducible sum m v x o e) (not_unit y f) = absurd (y (unit-too p s t w sub n g h a v))
  check-one name r q (not_irreducible sum m v x o e) (not_multiplying b c z y f) = absurd (all-failing b c x y)
  check-one name r q (not_irreducible sum m v x o e) (not_irreducible other k z y l f) =
      let value : sum ≡ other = same24 sum other (o.sum_is ∙ sum-too p s t w sub n g h a ∙ sym l.sum_is) in
      let count : m ≡ k = o.number ∙ ap (λ (xs : List ℕ). length xs) w.little ∙ sym l.number in
      e ∙ (λ i. refusal.NotIrreducible name (value i) (count i)) ∙ sym f

  -- a small representation is not refused
  pub check-none : (name : List ℕ) (r : Refusal) → IsCheckRefusal p s name n g r → IsSmallRep p t n h → ⊥
  check-none name r (not_unit x e) m = x (unit-back m.identity)
  check-none name r (not_multiplying b c v x e) m =
      failing-all b c x (λ e l. m.multiplies (left_of t.little e) (right_of t.little e) (contained-left e l) (contained-right e l)) where
        contained-left : (e : ℕ) → e < length t.little * length t.little → Contains t.little (left_of t.little e)
        contained-left e l = contained p t s u sub-too n h g agree-too (e / length t.little) (div_below e (length t.little) (length t.little) (some_of p t s u sub-too n h g agree-too e (length t.little) l) l)

        contained-right : (e : ℕ) → e < length t.little * length t.little → Contains t.little (right_of t.little e)
        contained-right e l = contained p t s u sub-too n h g agree-too (e % length t.little) (mod_below e (length t.little) (some_of p t s u sub-too n h g agree-too e (length t.little) l))
  check-none name r (not_irreducible sum c v x o e) m = o.differ (sum-too p s t w sub n g h a ∙ m.irreducible ∙ ap rotation_count (sym w.little))
