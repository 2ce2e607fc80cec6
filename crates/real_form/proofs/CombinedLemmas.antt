use Rattle.std.proofs.Common.{◌≡◌, ℕ, zero, suc, ◌+◌, ◌-◌, ◌*◌, ◌/◌, ◌%◌, ◌<◌, ◌≤◌, ◌⊎◌, inl, inr, true, false, refl, sym, ◌∙◌, ap, subst, arith, below_more, List, [], ◌∷◌, ◌++◌, Bool, length, nat_eq, if◌then◌else◌, eq-eqb, ne_eqb}
use Rattle.std.proofs.lemmas.List.{length_push, get_or_push, get_or_append_left}
use Rattle.std.specs.Prelude.{Option, Some, None, IfSome, slice_index, slice_index_or}
use Rattle.std.proofs.lemmas.Nat.{div_below, mod_below, div-mul-add, mod-mul-add, div-add-mod'}
use Rattle.algebra.specs.SumLaws.{decide}
use Rattle.cyclo24.specs.FieldOn.{FieldOn}
use Rattle.cyclo24.specs.FieldLaws.{times-nought, nought-times}
use Rattle.cyclo24.specs.declared.k24.K24.{K24}
use Rattle.cyclo24.specs.K24.{exact24}
use Rattle.cyclo24.specs.ExactK24.{Exact24, k24_laws}
use Rattle.cyclo24.specs.ExactZ24.{ExactZ24, z24, z24_laws, power}
use Rattle.cyclo24.specs.TotalLaws.{total-same, total-times}
use Rattle.cyclo24.specs.ExactField.{ExactField, Value}
use Rattle.lin_alg.specs.Spans.{IsInSpan, IsSubspace}
use Rattle.lin_alg.specs.InsertLaws.{span-subspace, span-least}
use Rattle.lin_alg.specs.Echelon.{EchelonView}
use Rattle.lin_alg.specs.Solving.{plain_rows}
use Rattle.lin_alg.specs.SpanLaws.{funext}
use Rattle.lin_alg.specs.Matrices.{apply}
use Rattle.super_group.specs.Quotient.{SupercellGroup, IsQuotient, order_of}
use Rattle.super_group.specs.QuotientLaws.{row_below}
use Rattle.small_rep.specs.SmallRep.{phased}
use Rattle.real_form.specs.Parts.{parts, lifted, orbit}
use Rattle.real_form.specs.Complexes.{z24_parts}
use Rattle.real_form.specs.Sparse.{IsSparse, IsPhase, ArePhases, two, phase_row, pair_rows, AreCombined, AreAgain}
use Rattle.real_form.specs.Spanned.{HoldsSpan, HoldsPart}
use Rattle.real_form.proofs.OrbitLaws.{plain-member, plain-each}
use Rattle.real_form.proofs.SpannedLemmas.{held-skip}
use Rattle.real_form.proofs.PartsLaws.{parts-same, parts-plus, parts-times, lifted-parts, lifted-plus, lifted-times}
use Rattle.real_form.proofs.Factors.{block-end, some_rotation}
use Rattle.real_form.proofs.SparseLemmas.{arm-end, dead}

phased-nought : (p : ℕ) (x : ExactZ24) → x ≡ z24_laws.nought → phased p x ≡ z24_laws.nought
phased-nought p x e = ap (z24_laws.times (power p)) e ∙ times-nought z24_laws (power p)

some_rows : (a n x : ℕ) → x < a * n → 0 < n
some_rows a zero x l = let c : a * 0 ≡ 0 = omega arith in absurd (omega (arith, l, c))
some_rows a (suc n) x l = omega arith

-- places in rows of n
pub row_of : (d a n : ℕ) → d < a * n → d / n < a
row_of d a n l = div_below d n a (some_rows a n d l) l

pub column_of : (d a n : ℕ) → d < a * n → d % n < n
column_of d a n l = mod_below d n (some_rows a n d l)

pub translations_few : (s : SupercellGroup) → IsQuotient s → length s.translations ≤ order_of s
translations_few s h = let b : 0 * length s.translations + length s.translations ≤ order_of s = block-end s h 0 (some_rotation s h) in omega (arith, b)

-- what holds of each item of a list, and of one more
pushed : {X : Type 0} (xs ys : List X) (x : X) (d : ℕ) (none : X) → ys ≡ xs ++ x ∷ [] → length xs ≡ d → (P : ℕ → X → Type 0) → ((k : ℕ) → k < d → P k (slice_index_or xs k none)) → P d x → (k : ℕ) → k < d + 1 → P k (slice_index_or ys k none)
pushed xs ys x d none e el P h p =
    below_more (λ k. P k (slice_index_or ys k none)) d
    (λ k l. subst (λ y. P k y) (sym (ap (λ zs. slice_index_or zs k none) e ∙ get_or_append_left xs (x ∷ []) none k (subst (λ (m : ℕ). k < m) (sym el) l))) (h k l))
    (subst (λ y. P d y) (sym (ap (λ zs. slice_index_or zs d none) e ∙ get_or_push xs x none d el)) p)

-- from two phases to the rows of an image: the first for those of an arm, the second for all others
abbrev pick : ℕ → ℕ → ℕ → ℕ
pick s arm x = if nat_eq (x / s) arm then 0 else 1

pick-below : (s arm x : ℕ) → pick s arm x < 2
pick-below s arm x = go (nat_eq (x / s) arm) where
  go : (b : Bool) → (if b then 0 else 1) < 2
  go true = omega arith
  go false = omega arith

abbrev phased_line : ℕ → ℕ → ℕ → (ℕ → ExactZ24) → (ℕ → Exact24) → ℕ → Exact24
phased_line n s arm y v = parts z24_parts n (λ x. z24_laws.times (y x) (lifted z24_parts 2 v (pick s arm x)))

line-first : (n s arm x : ℕ) (a b : ExactZ24) → x / s ≡ arm → lifted z24_parts 2 (parts z24_parts 2 (two a b)) (pick s arm x) ≡ a
line-first n s arm x a b e = ap (λ (t : Bool). lifted z24_parts 2 (parts z24_parts 2 (two a b)) (if t then 0 else 1)) (eq-eqb (x / s) arm e) ∙ lifted-parts z24_parts 2 (two a b) 0 (omega arith)

line-second : (n s arm x : ℕ) (a b : ExactZ24) → (x / s ≡ arm → ⊥) → lifted z24_parts 2 (parts z24_parts 2 (two a b)) (pick s arm x) ≡ b
line-second n s arm x a b d = ap (λ (t : Bool). lifted z24_parts 2 (parts z24_parts 2 (two a b)) (if t then 0 else 1)) (ne_eqb (x / s) arm d) ∙ lifted-parts z24_parts 2 (two a b) 1 (omega arith)

line-plus : (n s arm : ℕ) (y : ℕ → ExactZ24) (v w : ℕ → Exact24) (j : ℕ) → phased_line n s arm y (λ k. k24_laws.plus (v k) (w k)) j ≡ k24_laws.plus (phased_line n s arm y v j) (phased_line n s arm y w j)
line-plus n s arm y v w j =
    parts-same z24_parts n _ (λ x. z24_laws.plus (z24_laws.times (y x) (lifted z24_parts 2 v (pick s arm x))) (z24_laws.times (y x) (lifted z24_parts 2 w (pick s arm x))))
    (λ x _. ap (z24_laws.times (y x)) (lifted-plus z24_parts 2 v w (pick s arm x) (pick-below s arm x)) ∙ z24_laws.times-plus (y x) (lifted z24_parts 2 v (pick s arm x)) (lifted z24_parts 2 w (pick s arm x))) j
    ∙ parts-plus z24_parts n (λ x. z24_laws.times (y x) (lifted z24_parts 2 v (pick s arm x))) (λ x. z24_laws.times (y x) (lifted z24_parts 2 w (pick s arm x))) j

line-times : (n s arm : ℕ) (y : ℕ → ExactZ24) (c : Exact24) (v : ℕ → Exact24) (j : ℕ) → phased_line n s arm y (λ k. k24_laws.times c (v k)) j ≡ k24_laws.times c (phased_line n s arm y v j)
line-times n s arm y c v j =
    parts-same z24_parts n _ (λ x. z24_laws.times (z24_parts.from c) (z24_laws.times (y x) (lifted z24_parts 2 v (pick s arm x))))
    (λ x _. ap (z24_laws.times (y x)) (lifted-times z24_parts 2 c v (pick s arm x) (pick-below s arm x)) ∙ turn (y x) (z24_parts.from c) (lifted z24_parts 2 v (pick s arm x))) j
    ∙ parts-times z24_parts n c (λ x. z24_laws.times (y x) (lifted z24_parts 2 v (pick s arm x))) j
  where
    turn : (a b d : ExactZ24) → z24_laws.times a (z24_laws.times b d) ≡ z24_laws.times b (z24_laws.times a d)
    turn a b d = sym (z24_laws.times_assoc a b d) ∙ ap (λ z. z24_laws.times z d) (z24_laws.times_comm a b) ∙ z24_laws.times_assoc b a d

line-subspace : (n s arm : ℕ) (y : ℕ → ExactZ24) (P : (ℕ → Exact24) → Type 0) → IsSubspace k24_laws P → IsSubspace k24_laws (λ v. P (phased_line n s arm y v))
line-subspace n s arm y P h = record {
  has_nought =
      let zero_row : ℕ → Exact24 = λ _. k24_laws.nought in
      let e : phased_line n s arm y zero_row ≡ zero_row =
      funext (λ j. ap (λ v. phased_line n s arm y v j) (funext (λ k. sym (times-nought k24_laws k24_laws.nought)))
      ∙ line-times n s arm y k24_laws.nought zero_row j ∙ nought-times k24_laws (phased_line n s arm y zero_row j)) in
      subst P (sym e) h.has_nought;
  has_plus = λ v u a b.
      subst P (sym (funext (λ j. line-plus n s arm y v u j))) (h.has_plus (phased_line n s arm y v) (phased_line n s arm y u) a b);
  has_times = λ c v a. subst P (sym (funext (λ j. line-times n s arm y c v j))) (h.has_times c (phased_line n s arm y v) a);
}

module _ (R T n s A : ℕ) (D : ℕ → ℕ → ℕ → ExactZ24) where
  -- the phase of a translation on an arm
  pub phase-at : (xs : List ℕ) (k : ℕ) → ArePhases R T n s D xs k → (j t : ℕ) → t < T → j * T + t < k → IsPhase R T n s D (slice_index xs (j * T + t)) j t
  phase-at xs k h j t lt l =
      subst (λ (i : ℕ). IsPhase R T n s D (slice_index xs (j * T + t)) j i) (mod-mul-add j T t lt)
      (subst (λ (i : ℕ). IsPhase R T n s D (slice_index xs (j * T + t)) i ((j * T + t) % T)) (div-mul-add j T t lt) (h.each (j * T + t) l))

  -- a row of arm a / s that is 0 stays so
  pub zero-kept : (xs : List ℕ) → ArePhases R T n s D xs (A * T) → n ≡ A * s → 0 < s → (r t x y : ℕ) → r < R → t < T → x < n → y < n → D (r * T) x y ≡ z24_laws.nought → D (r * T + t) x y ≡ z24_laws.nought
  zero-kept xs h en ls r t x y lr lt lx ly e =
      let j : ℕ = x / s in
      let lx' : x < A * s = subst (λ (k : ℕ). x < k) en lx in
      let lj : j < A = div_below x s A ls lx' in
      phase-at xs (A * T) h j t lt (row_below A T j t lj lt) r x y lr lx ly (λ _. j) ∙ phased-nought (slice_index xs (j * T + t)) (D (r * T) x y) e

  -- the image of a vector at two places under a translation whose phases on their arms are a combination of those of earlier ones
  pub image-combined : (w : ℕ → ExactZ24) (i j : ℕ) → IsSparse z24_laws n w i j → (r arm other t : ℕ) → r < R → t < T → (p o : ℕ → ℕ) →
      ((b : ℕ) → b < T → IsPhase R T n s D (p b) arm b) → ((b : ℕ) → b < T → IsPhase R T n s D (o b) other b) →
      ((b x y : ℕ) → b < T → x < n → y < n → D (r * T) x y ≡ z24_laws.nought → D (r * T + b) x y ≡ z24_laws.nought) →
      ((x : ℕ) → x < n → (x / s ≡ arm → ⊥) → D (r * T) x i ≡ z24_laws.nought) → ((x : ℕ) → x < n → (x / s ≡ other → ⊥) → D (r * T) x j ≡ z24_laws.nought) →
      IsInSpan k24_laws (plain_rows (λ b. phase_row (p b) (o b)) t) (phase_row (p t) (o t)) →
      IsInSpan k24_laws (plain_rows (orbit z24_parts n D w) (r * T + t)) (orbit z24_parts n D w (r * T + t))
  unfolding orbit
  image-combined w i j h r arm other t lr lt p o hp ho kept zi zj combined =
      subst P (key t lt) (span-least k24_laws (λ v. P (line v)) lines (plain_rows u t) (plain-each k24_laws u (λ v. P (line v)) t each) (u t) combined)
    where
      a : ℕ → ℕ → Exact24
      a = orbit z24_parts n D w

      u : ℕ → ℕ → Exact24
      u = λ b. phase_row (p b) (o b)

      y : ℕ → ExactZ24
      y = apply z24_laws n (D (r * T)) w

      P : (ℕ → Exact24) → Type 0
      P = IsInSpan k24_laws (plain_rows a (r * T + t))

      line : (ℕ → Exact24) → ℕ → Exact24
      line = phased_line n s arm y

      lines : IsSubspace k24_laws (λ v. P (line v))
      lines = line-subspace n s arm y P (span-subspace k24_laws (plain_rows a (r * T + t)))

      li : i < n
      li = let a = h.rises in let b = h.inside in omega (arith, a, b)

      -- rows of an arm, by their phase
      row : (k c x : ℕ) → c < T → x < n → IsPhase R T n s D k (x / s) c → z24_laws.times (y x) (power k) ≡ apply z24_laws n (D (r * T + c)) w x
      row k c x lc lx at =
          z24_laws.times_comm (y x) (power k) ∙ sym (total-times z24_laws n (power k) (λ b. z24_laws.times (D (r * T) x b) (w b)))
          ∙ total-same z24_laws n _ _ (λ b lb. sym (z24_laws.times_assoc (power k) (D (r * T) x b) (w b)) ∙ ap (λ d. z24_laws.times d (w b)) (sym (at r x b lr lx lb (λ _. x / s))))

      -- rows of no arm
      none : (c x : ℕ) (z : ExactZ24) → c < T → x < n → (x / s ≡ arm → ⊥) → (x / s ≡ other → ⊥) → z24_laws.times (y x) z ≡ apply z24_laws n (D (r * T + c)) w x
      none c x z lc lx da db =
          ap (λ d. z24_laws.times d z) (dead z24 n (D (r * T) x) w i j h (zi x lx da) (zj x lx db)) ∙ nought-times z24_laws z
          ∙ sym (dead z24 n (D (r * T + c) x) w i j h (kept c x i lc lx li (zi x lx da)) (kept c x j lc lx h.inside (zj x lx db)))

      key : (c : ℕ) → c < T → line (u c) ≡ a (r * T + c)
      key c lc =
          funext (λ k. parts-same z24_parts n _ (apply z24_laws n (D (r * T + c)) w) (λ x lx. elim (decide (x / s) arm) [
            | inl e ↦ ap (z24_laws.times (y x)) (line-first n s arm x (power (p c)) (power (o c)) e) ∙ row (p c) c x lc lx (subst (λ (m : ℕ). IsPhase R T n s D (p c) m c) (sym e) (hp c lc))
            | inr d ↦ ap (z24_laws.times (y x)) (line-second n s arm x (power (p c)) (power (o c)) d) ∙ elim (decide (x / s) other) [
              | inl e ↦ row (o c) c x lc lx (subst (λ (m : ℕ). IsPhase R T n s D (o c) m c) (sym e) (ho c lc))
              | inr f ↦ none c x (power (o c)) lc lx d f
            ]
          ]) k)

      each : (b : ℕ) → b < t → P (line (u b))
      each b l = subst P (sym (key b (omega (arith, l, lt)))) (plain-member k24_laws a (r * T + t) (r * T + b) (omega (arith, l)))

  pub again-at : (w : ℕ → ExactZ24) (i j : ℕ) → IsSparse z24_laws n w i j → (xs : List Bool) → AreCombined R T n s A D xs (A * A * T) → (r arm other : ℕ) → r < R → arm < A → other < A →
      ((x : ℕ) → x < n → (x / s ≡ arm → ⊥) → D (r * T) x i ≡ z24_laws.nought) → ((x : ℕ) → x < n → (x / s ≡ other → ⊥) → D (r * T) x j ≡ z24_laws.nought) →
      AreAgain k24_laws (orbit z24_parts n D w) (r * T) T xs ((arm * A + other) * T)
  again-at w i j h xs marks r arm other lr la lo zi zj t lt m =
      let pair : ℕ = arm * A + other in
      let d : ℕ = pair * T + t in
      let lp : pair < A * A = row_below A A arm other la lo in
      let rows : ℕ → ℕ → ℕ → ℕ → Exact24 = pair_rows marks.phases T in
      let raw : IsInSpan k24_laws (plain_rows (rows (d / T / A) (d / T % A)) (d % T)) (rows (d / T / A) (d / T % A) (d % T)) = marks.each d (row_below (A * A) T pair t lp lt) m in
      let ep : d / T ≡ pair = div-mul-add pair T t lt in
      let ea : d / T / A ≡ arm = ap (λ k. k / A) ep ∙ div-mul-add arm A other lo in
      let eo : d / T % A ≡ other = ap (λ k. k % A) ep ∙ mod-mul-add arm A other lo in
      let et : d % T ≡ t = mod-mul-add pair T t lt in
      let one : IsInSpan k24_laws (plain_rows (rows arm other) t) (rows arm other t) =
      subst (λ (k : ℕ). IsInSpan k24_laws (plain_rows (rows arm other) k) (rows arm other k)) et
      (subst (λ (k : ℕ). IsInSpan k24_laws (plain_rows (rows arm k) (d % T)) (rows arm k (d % T))) eo
      (subst (λ (k : ℕ). IsInSpan k24_laws (plain_rows (rows k (d / T % A)) (d % T)) (rows k (d / T % A) (d % T))) ea raw)) in
      image-combined w i j h r arm other t lr lt (λ b. slice_index marks.phases (arm * T + b)) (λ b. slice_index marks.phases (other * T + b))
      (λ b l. phase-at marks.phases (A * T) marks.are_phases arm b l (row_below A T arm b la l)) (λ b l. phase-at marks.phases (A * T) marks.are_phases other b l (row_below A T other b lo l))
      (λ b x z l lx lz e. marks.zero r b x z lr l lx lz e) zi zj one

  -- lists that are made one by one
  pub phases-none : (xs : List ℕ) → xs ≡ [] → ArePhases R T n s D xs 0
  phases-none xs e = record { count = ap length e; each = λ d l. absurd (omega (arith, l)); below = λ d l. absurd (omega (arith, l)) }

  pub phases-more : (xs ys : List ℕ) (x d : ℕ) → ys ≡ xs ++ x ∷ [] → ArePhases R T n s D xs d → x < 24 → IsPhase R T n s D x (d / T) (d % T) → ArePhases R T n s D ys (d + 1)
  phases-more xs ys x d e h b p = record {
    count = ap length e ∙ length_push xs x ∙ ap (λ k. k + 1) h.count;
    each = pushed xs ys x d 0 e h.count (λ k a. IsPhase R T n s D a (k / T) (k % T)) h.each p;
    below = pushed xs ys x d 0 e h.count (λ _ a. a < 24) h.below b;
  }

  abbrev pub IsCombined : List ℕ → ℕ → Type 0
  IsCombined ps d = IsInSpan k24_laws (plain_rows (pair_rows ps T (d / T / A) (d / T % A)) (d % T)) (pair_rows ps T (d / T / A) (d / T % A) (d % T))

  pub combined-none : (xs : List Bool) (ps : List ℕ) → xs ≡ [] → ArePhases R T n s D ps (A * T) → ((r t x y : ℕ) → r < R → t < T → x < n → y < n → D (r * T) x y ≡ z24_laws.nought → D (r * T + t) x y ≡ z24_laws.nought) →
      (k : AreCombined R T n s A D xs 0) × (k.phases ≡ ps)
  combined-none xs ps e h z = (record { phases = ps; are_phases = h; count = ap length e; each = λ d l. absurd (omega (arith, l)); zero = z }, refl)

  pub combined-more : (xs ys : List Bool) (x : Bool) (d : ℕ) → ys ≡ xs ++ x ∷ [] → (h : AreCombined R T n s A D xs d) → (x ≡ true → IsCombined h.phases d) → (k : AreCombined R T n s A D ys (d + 1)) × (k.phases ≡ h.phases)
  combined-more xs ys x d e h p = (
    record {
      phases = h.phases;
      are_phases = h.are_phases;
      count = ap length e ∙ length_push xs x ∙ ap (λ k. k + 1) h.count;
      each = pushed xs ys x d false e h.count (λ k (b : Bool). b ≡ true → IsCombined h.phases k) h.each p;
      zero = h.zero;
    },
    refl,
  )

  -- the rows of phases of the arms of a pair
  pub pair-inside : (xs : List ℕ) (cnt ar d : ℕ) → cnt ≡ T → ar ≡ A → length xs ≡ A * T → d < ar * ar * cnt → (d / cnt / ar * cnt + cnt ≤ length xs) × (d / cnt % ar * cnt + cnt ≤ length xs)
  pair-inside xs cnt ar d et ea el l =
      let lp : d / cnt < ar * ar = row_of d (ar * ar) cnt l in
      let lj : d / cnt / ar < ar = row_of (d / cnt) ar ar lp in
      let lk : d / cnt % ar < ar = column_of (d / cnt) ar ar lp in
      let e : ar * cnt ≡ A * T = λ i. ea i * et i in
      let a : (d / cnt / ar + 1) * cnt ≤ ar * cnt = arm-end ar cnt (d / cnt / ar) lj in
      let b : (d / cnt % ar + 1) * cnt ≤ ar * cnt = arm-end ar cnt (d / cnt % ar) lk in
      (omega (arith, a, e, el), omega (arith, b, e, el))

-- the phases of an earlier translation
pub pair-again : (xs : List ℕ) (T j k t : ℕ) → (b : ℕ) × (b < t) × (slice_index xs (j * T + b) ≡ slice_index xs (j * T + t)) × (slice_index xs (k * T + b) ≡ slice_index xs (k * T + t)) →
    IsInSpan k24_laws (plain_rows (pair_rows xs T j k) t) (pair_rows xs T j k t)
pair-again xs T j k t w =
    subst (λ (v : ℕ → Exact24). IsInSpan k24_laws (plain_rows (pair_rows xs T j k) t) v) (λ i. phase_row (w.2 i) (w.3 i)) (plain-member k24_laws (pair_rows xs T j k) t w.0 w.1)

-- rows of phases, by equal lists and numbers
pub pair_rows-by : (qs ps : List ℕ) (cnt T ar A d : ℕ) → qs ≡ ps → cnt ≡ T → ar ≡ A → (P : (ℕ → ℕ → Exact24) → ℕ → Type 0) →
    P (pair_rows qs cnt (d / cnt / ar) (d / cnt % ar)) (d % cnt) → P (pair_rows ps T (d / T / A) (d / T % A)) (d % T)
pair_rows-by qs ps cnt T ar A d eq et ea P x =
    subst (λ (zs : List ℕ). P (pair_rows zs T (d / T / A) (d / T % A)) (d % T)) eq
    (subst (λ (a : ℕ). P (pair_rows qs T (d / T / a) (d / T % a)) (d % T)) ea
    (subst (λ (c : ℕ). P (pair_rows qs c (d / c / ar) (d / c % ar)) (d % c)) et x))

pub first-column : (T : ℕ) → 0 < 0 % T → ⊥
first-column T l = grind arith

-- the next of rows of T
next-column : (T d : ℕ) → 0 < T → 0 < (d + 1) % T → ((d + 1) / T ≡ d / T) × ((d + 1) % T ≡ d % T + 1)
next-column T d some more =
    let q : ℕ = d / T in
    let t : ℕ = d % T in
    let at : q * T + t ≡ d = div-add-mod' d T in
    let lt : t < T = mod_below d T some in
    let e : q * T + (t + 1) ≡ d + 1 = omega (arith, at) in
    elim (last t T lt) [
      | inl l ↦ (sym (ap (λ k. k / T) e) ∙ div-mul-add q T (t + 1) l, sym (ap (λ k. k % T) e) ∙ mod-mul-add q T (t + 1) l)
      | inr m ↦
          let f : (q + 1) * T + 0 ≡ d + 1 = let g : (q + 1) * T ≡ q * T + T = omega arith in omega (arith, e, m, g) in
          let z : (d + 1) % T ≡ 0 = sym (ap (λ k. k % T) f) ∙ mod-mul-add (q + 1) T 0 some in
          absurd (omega (arith, z, more))
    ]
  where
    last : (t T : ℕ) → t < T → (t + 1 < T) ⊎ (t + 1 ≡ T)
    last t T l = grind arith

pub part-following : (T A d : ℕ) (ps : List ℕ) (form : EchelonView K24) → 0 < T → HoldsPart k24_laws exact24 4 (pair_rows ps T (d / T / A) (d / T % A)) (d % T + 1) form →
    0 < (d + 1) % T → HoldsPart k24_laws exact24 4 (pair_rows ps T ((d + 1) / T / A) ((d + 1) / T % A)) ((d + 1) % T) form
part-following T A d ps form some h more =
    let e = next-column T d some more in
    subst (λ (k : ℕ). HoldsPart k24_laws exact24 4 (pair_rows ps T (k / A) (k % A)) ((d + 1) % T) form) (sym e.0)
    (subst (λ (k : ℕ). HoldsPart k24_laws exact24 4 (pair_rows ps T (d / T / A) (d / T % A)) k form) (sym e.1) h)

-- a row that is marked is a combination of those before it
pub held-again : {A : Type 0} (f : ExactField) (value : A → Value f) (w : ℕ) (a : ℕ → ℕ → Value f) (q t : ℕ) (form : EchelonView A) (xs : List Bool) (from : Option ℕ) → HoldsSpan f.laws value w a q form →
    IfSome from (λ k. slice_index_or xs (k + t) false ≡ true → IsInSpan f.laws (plain_rows a q) (a q)) → (k : ℕ) × (from ≡ Some k) × (slice_index_or xs (k + t) false ≡ true) → HoldsSpan f.laws value w a (q + 1) form
held-again f value w a q t form xs from h again m =
    let one : IsInSpan f.laws (plain_rows a q) (a q) = subst (λ o. IfSome o (λ k. slice_index_or xs (k + t) false ≡ true → IsInSpan f.laws (plain_rows a q) (a q))) m.1 again m.2 in
    held-skip f value w a q (q + 1) form h (omega arith)
    (λ i l u.
    let e : i ≡ q = omega (arith, l, u) in
    subst (λ (v : ℕ → Value f). IsInSpan f.laws (plain_rows a q) v) (sym (ap a e)) one)

-- the rows of a block that are marked, from its first on
pub again-here : {K : Type 0} (f : FieldOn K) (a : ℕ → ℕ → K) (first end q : ℕ) (xs : List Bool) (from : Option ℕ) → first ≤ q → q < end →
    IfSome from (λ k. AreAgain f a first (end - first) xs k) → IfSome from (λ k. slice_index_or xs (k + (q - first)) false ≡ true → IsInSpan f (plain_rows a q) (a q))
again-here f a first end q xs None l u h = tt
again-here f a first end q xs (Some k) l u h =
    λ m.
    let t : ℕ = q - first in
    let e : first + t ≡ q = omega (arith, l) in
    subst (λ (i : ℕ). IsInSpan f (plain_rows a i) (a i)) e (h t (omega (arith, l, u)) m)

pub inside-here : (first end q m : ℕ) (from : Option ℕ) → first ≤ q → q < end → IfSome from (λ k. k + (end - first) ≤ m) → IfSome from (λ k. k + (q - first) < m)
inside-here first end q m None l u h = tt
inside-here first end q m (Some k) l u h = omega (arith, l, u, h)

-- the marks of a block of T rows
pub again-block : {K : Type 0} (f : FieldOn K) (a : ℕ → ℕ → K) (first count p T m : ℕ) (xs : List Bool) (from : Option ℕ) → first ≡ p → count ≡ T →
    IfSome from (λ k. k + T ≤ m) → IfSome from (λ k. AreAgain f a p T xs k) → IfSome from (λ k. k + ((first + count) - first) ≤ m) × IfSome from (λ k. AreAgain f a first ((first + count) - first) xs k)
again-block f a first count p T m xs None ef ec i g = (tt, tt)
again-block f a first count p T m xs (Some k) ef ec i g =
    let e : (first + count) - first ≡ T = omega (arith, ec) in
    (omega (arith, e, i), subst (λ (z : ℕ). AreAgain f a first z xs k) (sym e) (subst (λ (z : ℕ). AreAgain f a z T xs k) (sym ef) g))
