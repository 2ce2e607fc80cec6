-- Real forms of one irrep are one, but for the entries of their matrices past the dimension.
use Rattle.std.proofs.Common.{◌≡◌, refl, sym, ap, ◌∙◌, subst, inl, inr, ℕ, zero, suc, ◌+◌, ◌*◌, ◌-◌, ◌<◌, Bool, true, false, ltb, ltb-true, if◌then◌else◌, List, [], ◌∷◌, length, Option, arith}
use Rattle.cyclo24.specs.ExactK24.{Exact24, k24_laws}
use Rattle.cyclo24.specs.ExactZ24.{ExactZ24}
use Rattle.cyclo24.specs.FieldOn.{FieldOn}
use Rattle.cyclo24.specs.FieldLaws.{times-nought}
use Rattle.cyclo24.specs.SumLaws.{one-term}
use Rattle.cyclo24.specs.TotalLaws.{total-same}
use Rattle.iso_text.specs.declared.sections.VectorText.{VectorText}
use Rattle.lin_alg.specs.EquationLaws.{eq-self, eq-other}
use Rattle.lin_alg.specs.Equations.{unit_vector}
use Rattle.lin_alg.specs.Matrices.{apply}
use Rattle.lin_alg.specs.Reduced.{IsReduced, ArePast}
use Rattle.lin_alg.specs.Solving.{combination}
use Rattle.lin_alg.specs.SpanLaws.{funext, reduced-unique}
use Rattle.induce.specs.declared.kinds.Kind.{Kind}
use Rattle.induce.specs.declared.kinds.Kind.TheVariants.{Real, Complex, Pseudoreal}
use Rattle.induce.specs.Kinds.{real_dimension}
use Rattle.real_form.specs.Bases.{row_at, pivot_at, unit_rows}
use Rattle.real_form.specs.Complexes.{z24_parts}
use Rattle.real_form.specs.Orbits.{IsFormOf, HasDimension, FirstOf, NoneOf}
use Rattle.real_form.specs.Parts.{Parts, parts, lifted, orbit}
use Rattle.real_form.specs.RealBasis.{IsBasisOf, IsRealBasis, FitsNot}
use Rattle.list_report.specs.RealForms.{tried_of}

-- ---- matrices that agree give the same orbits

by-test : {K : Type 0} (b : Bool) (x y z : K) → (b ≡ true → x ≡ y) → (if b then x else z) ≡ (if b then y else z)
by-test true x y z h = h refl
by-test false x y z h = refl

by-two : {K : Type 0} (b c : Bool) (x y u v z : K) → (b ≡ true → x ≡ y) → (b ≡ false → c ≡ true → u ≡ v)
    → (if b then x else (if c then u else z)) ≡ (if b then y else (if c then v else z))
by-two true c x y u v z h k = h refl
by-two false true x y u v z h k = k refl refl
by-two false false x y u v z h k = refl

inside : (n j : ℕ) → ltb j n ≡ false → ltb j (n + n) ≡ true → j - n < n
inside n j a b = grind arith

module _ {Z K : Type 0} (p : Parts Z K) (n : ℕ) (D E : ℕ → ℕ → ℕ → Z) (same : (q i k : ℕ) → i < n → k < n → D q i k ≡ E q i k) where
  image-same : (w : ℕ → Z) (q i : ℕ) → i < n → apply p.complex n (D q) w i ≡ apply p.complex n (E q) w i
  image-same w q i l = total-same p.complex n (λ k. p.complex.times (D q i k) (w k)) (λ k. p.complex.times (E q i k) (w k)) (λ k lk. ap (λ x. p.complex.times x (w k)) (same q i k l lk))

  at : (w : ℕ → Z) (q j : ℕ) → orbit p n D w q j ≡ orbit p n E w q j
  unfolding orbit parts
  at w q j =
      by-two (ltb j n) (ltb j (n + n)) (p.re (apply p.complex n (D q) w j)) (p.re (apply p.complex n (E q) w j)) (p.im (apply p.complex n (D q) w (j - n))) (p.im (apply p.complex n (E q) w (j - n))) p.real.nought
      (λ b. ap p.re (image-same w q j (ltb-true j n b))) (λ b c. ap p.im (image-same w q (j - n) (inside n j b c)))

  pub orbit-same : orbit p n D ≡ orbit p n E
  orbit-same = funext (λ w. funext (λ q. funext (λ j. at w q j)))

-- ---- what forms of one span share

form-one : {K : Type 0} (f : FieldOn K) (w m : ℕ) (a : ℕ → ℕ → K) (rs ss : List (ℕ × (ℕ → K))) → IsFormOf f w m a rs → IsFormOf f w m a ss → rs ≡ ss
form-one f w m a rs ss r s = reduced-unique f rs ss r.form.reduced s.form.reduced (λ x h. (s.span x).1 ((r.span x).0 h)) (λ x h. (r.span x).1 ((s.span x).0 h))

-- the first of a list that has P is one, as far as P tells
first-same : {V X : Type 0} (P : X → V → Type 0) (N : V → Type 0) (x y : X) → ((v : V) → P x v → P y v → x ≡ y) → ((v : V) (z : X) → P z v → N v → ⊥) → (vs : List V)
    → FirstOf (P x) N vs → FirstOf (P y) N vs → x ≡ y
first-same P N x y one apart [] h k = absurd h
first-same P N x y one apart (v ∷ vs) (inl h) (inl k) = one v h k
first-same P N x y one apart (v ∷ vs) (inl h) (inr k) = absurd (apart v x h k.0)
first-same P N x y one apart (v ∷ vs) (inr h) (inl k) = absurd (apart v y k h.0)
first-same P N x y one apart (v ∷ vs) (inr h) (inr k) = first-same P N x y one apart vs h.1 k.1

first-not-none : {V : Type 0} (P N : V → Type 0) → ((v : V) → P v → N v → ⊥) → (vs : List V) → FirstOf P N vs → NoneOf N vs → ⊥
first-not-none P N apart [] h k = h
first-not-none P N apart (v ∷ vs) (inl h) k = apart v h k.0
first-not-none P N apart (v ∷ vs) (inr h) k = first-not-none P N apart vs h.1 k.1

-- ---- the basis, by the orbits of the vectors that are tried

abbrev Orbits : Type 0
Orbits = (ℕ → ExactZ24) → ℕ → ℕ → Exact24

abbrev Rows : Type 0
Rows = List (ℕ × (ℕ → Exact24))

module _ (m n : ℕ) (o : Orbits) where
  abbrev IsBy : Rows → (ℕ → ExactZ24) → Type 0
  IsBy rs w = IsFormOf k24_laws (n + n) m (o w) rs × (length rs ≡ n)

  abbrev NotBy : (ℕ → ExactZ24) → Type 0
  NotBy w = HasDimension k24_laws (n + n) m (o w) n → ⊥

  by-one : (w : ℕ → ExactZ24) (rs ss : Rows) → IsBy rs w → IsBy ss w → rs ≡ ss
  by-one w rs ss a b = form-one k24_laws (n + n) m (o w) rs ss a.0 b.0

  by-not : (w : ℕ → ExactZ24) (rs : Rows) → IsBy rs w → NotBy w → ⊥
  by-not w rs a b = b (rs, a.0, a.1)

abbrev pub BasisBy : Kind → Option VectorText → ℕ → ℕ → Orbits → Rows → Type 0
BasisBy Real given m n o rs = FirstOf (IsBy m n o rs) (NotBy m n o) (tried_of n given)
BasisBy Complex given m n o rs = rs ≡ unit_rows k24_laws 0 (n + n)
BasisBy Pseudoreal given m n o rs = rs ≡ unit_rows k24_laws 0 (n + n)

abbrev pub NoneBy : Option VectorText → ℕ → ℕ → Orbits → Type 0
NoneBy given m n o = NoneOf (NotBy m n o) (tried_of n given)

pub basis-by : (kind : Kind) (given : Option VectorText) (m n : ℕ) (D : ℕ → ℕ → ℕ → ExactZ24) (rs : Rows) → IsRealBasis kind n m D (tried_of n given) rs → BasisBy kind given m n (orbit z24_parts n D) rs
basis-by Real given m n D rs h = h
basis-by Complex given m n D rs h = h
basis-by Pseudoreal given m n D rs h = h

pub basis-one : (kind : Kind) (given : Option VectorText) (m n : ℕ) (o : Orbits) (rs ss : Rows) → BasisBy kind given m n o rs → BasisBy kind given m n o ss → rs ≡ ss
basis-one Real given m n o rs ss h k = first-same (IsBy m n o) (NotBy m n o) rs ss (λ w. by-one m n o w rs ss) (by-not m n o) (tried_of n given) h k
basis-one Complex given m n o rs ss h k = h ∙ sym k
basis-one Pseudoreal given m n o rs ss h k = h ∙ sym k

pub basis-none : (given : Option VectorText) (m n : ℕ) (o : Orbits) (rs : Rows) → BasisBy Real given m n o rs → NoneBy given m n o → ⊥
basis-none given m n o rs h k = first-not-none (IsBy m n o rs) (NotBy m n o) (λ w. by-not m n o w rs) (tried_of n given) h k

-- ---- coordinates in a reduced form are one

module _ {K : Type 0} (f : FieldOn K) where
  past-row : (p : ℕ) (rs : List (ℕ × (ℕ → K))) → ArePast f p rs → (m : ℕ) → m < length rs → row_at f rs m p ≡ f.nought
  past-row p [] a m l = absurd (omega arith)
  past-row p (r ∷ rs) a zero l = a.1
  past-row p (r ∷ rs) a (suc m) l = past-row p rs a.2 m (omega arith)

  past-pivot : (p : ℕ) (rs : List (ℕ × (ℕ → K))) → ArePast f p rs → (i : ℕ) → i < length rs → p < pivot_at rs i
  past-pivot p [] a i l = absurd (omega arith)
  past-pivot p (r ∷ rs) a zero l = a.0
  past-pivot p (r ∷ rs) a (suc i) l = past-pivot p rs a.2 i (omega arith)

  pivot-own : (rs : List (ℕ × (ℕ → K))) → IsReduced f rs → (i : ℕ) → i < length rs → row_at f rs i (pivot_at rs i) ≡ f.unit
  pivot-own [] r i l = absurd (omega arith)
  pivot-own (b ∷ rs) r zero l = r.0.0
  pivot-own (b ∷ rs) r (suc i) l = pivot-own rs r.2 i (omega arith)

  pivot-apart : (rs : List (ℕ × (ℕ → K))) → IsReduced f rs → (i m : ℕ) → i < length rs → m < length rs → (m ≡ i → ⊥) → row_at f rs m (pivot_at rs i) ≡ f.nought
  pivot-apart [] r i m li lm n = absurd (omega arith)
  pivot-apart (b ∷ rs) r zero zero li lm n = absurd (n refl)
  pivot-apart (b ∷ rs) r zero (suc m) li lm n = past-row b.0 rs r.1 m (omega arith)
  pivot-apart (b ∷ rs) r (suc i) zero li lm n = r.0.1 (pivot_at rs i) (past-pivot b.0 rs r.1 i (omega arith))
  pivot-apart (b ∷ rs) r (suc i) (suc m) li lm n = pivot-apart rs r.2 i m (omega arith) (omega arith) (λ e. n (ap suc e))

  -- a combination has its coefficients at the pivots
  coefficient : (rs : List (ℕ × (ℕ → K))) → IsReduced f rs → (x : ℕ → K) (i : ℕ) → i < length rs → combination f (length rs) x (row_at f rs) (pivot_at rs i) ≡ x i
  coefficient rs r x i l =
      one-term f (length rs) i (λ k. f.times (x k) (row_at f rs k (pivot_at rs i))) l
      (λ k lk n. ap (f.times (x k)) (pivot-apart rs r i k l lk n) ∙ times-nought f (x k))
      ∙ ap (f.times (x i)) (pivot-own rs r i l) ∙ f.times-unit (x i)

  pub coefficients-one : (rs : List (ℕ × (ℕ → K))) → IsReduced f rs → (x y : ℕ → K) → ((j : ℕ) → combination f (length rs) x (row_at f rs) j ≡ combination f (length rs) y (row_at f rs) j)
      → (i : ℕ) → i < length rs → x i ≡ y i
  coefficients-one rs r x y e i l = sym (coefficient rs r x i l) ∙ e (pivot_at rs i) ∙ coefficient rs r y i l

  -- the unit vectors of the places from i on are reduced
  unit-own : (i : ℕ) → unit_vector f i i ≡ f.unit
  unit-own i = ap (λ b. if b then f.unit else f.nought) (eq-self i)

  unit-apart : (i j : ℕ) → (j ≡ i → ⊥) → unit_vector f i j ≡ f.nought
  unit-apart i j n = ap (λ b. if b then f.unit else f.nought) (eq-other j i n)

  unit-past : (p i k : ℕ) → p < i → ArePast f p (unit_rows f i k)
  unit-past p i zero l = tt
  unit-past p i (suc k) l = (l, unit-apart i p (λ e. absurd (omega (arith, l, e))), unit-past p (suc i) k (omega arith))

  unit-reduced : (i k : ℕ) → IsReduced f (unit_rows f i k)
  unit-reduced i zero = tt
  unit-reduced i (suc k) = ((unit-own i, λ j l. unit-apart i j (λ e. absurd (omega (arith, l, e)))), unit-past i (suc i) k (omega arith), unit-reduced (suc i) k)

first-has : {V : Type 0} (P N : V → Type 0) (Q : Type 0) → ((v : V) → P v → Q) → (vs : List V) → FirstOf P N vs → Q
first-has P N Q f [] h = absurd h
first-has P N Q f (v ∷ vs) (inl h) = f v h
first-has P N Q f (v ∷ vs) (inr h) = first-has P N Q f vs h.1

pub basis-reduced : (kind : Kind) (given : Option VectorText) (m n : ℕ) (o : Orbits) (rs : Rows) → BasisBy kind given m n o rs → IsReduced k24_laws rs
basis-reduced Real given m n o rs h = first-has (IsBy m n o rs) (NotBy m n o) (IsReduced k24_laws rs) (λ w a. a.0.form.reduced) (tried_of n given) h
basis-reduced Complex given m n o rs h = subst (IsReduced k24_laws) (sym h) (unit-reduced k24_laws 0 (n + n))
basis-reduced Pseudoreal given m n o rs h = subst (IsReduced k24_laws) (sym h) (unit-reduced k24_laws 0 (n + n))

-- matrices in a basis, by the orbits
abbrev pub MatricesBy : ℕ → ℕ → Orbits → Rows → (ℕ → ℕ → ℕ → Exact24) → Type 0
MatricesBy m n o rs A =
    (q k : ℕ) → q < m → k < length rs → (j : ℕ) → combination k24_laws (length rs) (λ i. A q i k) (row_at k24_laws rs) j ≡ o (lifted z24_parts n (row_at k24_laws rs k)) q j

pub matrices-one : (m n : ℕ) (o : Orbits) (rs : Rows) → IsReduced k24_laws rs → (A B : ℕ → ℕ → ℕ → Exact24) → MatricesBy m n o rs A → MatricesBy m n o rs B
    → (q i k : ℕ) → q < m → i < length rs → k < length rs → A q i k ≡ B q i k
matrices-one m n o rs r A B a b q i k lq li lk = coefficients-one k24_laws rs r (λ x. A q x k) (λ x. B q x k) (λ j. a q k lq lk j ∙ sym (b q k lq lk j)) i li

-- ---- how many rows a basis has

unit-length : {K : Type 0} (f : FieldOn K) (i k : ℕ) → length (unit_rows f i k) ≡ k
unit-length f i zero = refl
unit-length f i (suc k) = ap suc (unit-length f (suc i) k)

twice : (n : ℕ) → n + n ≡ 2 * n
twice n = omega arith

pub basis-length : (kind : Kind) (given : Option VectorText) (m n : ℕ) (D : ℕ → ℕ → ℕ → ExactZ24) (rs : Rows) → IsRealBasis kind n m D (tried_of n given) rs → length rs ≡ real_dimension kind n
basis-length Real given m n D rs h = first-has (IsBasisOf n m D rs) (FitsNot n m D) (length rs ≡ n) (λ w a. a.1) (tried_of n given) h
basis-length Complex given m n D rs h = ap (λ (ss : Rows). length ss) h ∙ unit-length k24_laws 0 (n + n) ∙ twice n
basis-length Pseudoreal given m n D rs h = ap (λ (ss : Rows). length ss) h ∙ unit-length k24_laws 0 (n + n) ∙ twice n
