use Rattle.std.proofs.Common.{◌≡◌, ℕ, zero, suc, ◌+◌, ◌*◌, ◌-◌, ◌/◌, ◌%◌, ◌<◌, ◌≤◌, ◌⊎◌, inl, inr, Bool, true, sym, ◌∙◌, refl, ap, subst, arith, List, length, set, get_or, length-set}
use Rattle.std.proofs.lemmas.Nat.{div-add-mod', mod_below, div-mul-add}
use Rattle.std.proofs.Math.Nat.{mul-le-mul_left, mul_comm}
use Rattle.algebra.specs.SumLaws.{decide}
use Rattle.cyclo24.specs.FieldOn.{FieldOn}
use Rattle.cyclo24.specs.FieldLaws.{times-nought, nought-times}
use Rattle.cyclo24.specs.ExactField.{ExactField, Value}
use Rattle.cyclo24.specs.ExactK24.{Exact24, k24_laws}
use Rattle.cyclo24.specs.ExactZ24.{ExactZ24, z24, z24_laws, real_part, imag_part}
use Rattle.cyclo24.specs.Z24Laws.{from_real-nought, real_part-from_real, imag_part-from_real}
use Rattle.cyclo24.specs.Sums.{total}
use Rattle.lin_alg.specs.SpanLaws.{funext}
use Rattle.lin_alg.specs.Rows.{vector}
use Rattle.lin_alg.specs.Matrices.{apply}
use Rattle.lin_alg.specs.Matrix.{IsWideTerm, IsWideDot}
use Rattle.real_form.specs.Parts.{orbit}
use Rattle.real_form.specs.Complexes.{z24_parts}
use Rattle.real_form.specs.Sparse.{IsSparse, products}
use Rattle.real_form.proofs.PartsLaws.{place}
use Rattle.real_form.proofs.ImageLemmas.{part-re, part-im, part-past}
use Rattle.real_form.proofs.TermLemmas.{dot-wide}
use Rattle.real_form.proofs.VectorLemmas.{vector-at, vector-set_same, vector-set_other}

order3 : (k i : ℕ) → (k < i) ⊎ ((k ≡ i) ⊎ (i < k))
order3 k i = grind arith

strict : (i j : ℕ) → i ≤ j → (i < j) ⊎ (i ≡ j)
strict i j l = grind arith

lower_or : (a b : ℕ) → a ≤ suc b → (a ≤ b) ⊎ (a ≡ suc b)
lower_or a b l = grind arith

module _ {K : Type 0} (f : FieldOn K) where
  -- zero terms at the end
  pub total-flat : (g : ℕ → K) (a b : ℕ) → a ≤ b → ((k : ℕ) → a ≤ k → k < b → g k ≡ f.nought) → total f b g ≡ total f a g
  total-flat g a zero l z = let e : zero ≡ a = omega (arith, l) in ap (λ n. total f n g) e
  total-flat g a (suc b) l z =
      elim (lower_or a b l) [
        | inl m ↦ ap (f.plus (total f b g)) (z b m (omega arith)) ∙ f.plus-nought (total f b g) ∙ total-flat g a b m (λ k p q. z k p (omega (arith, q)))
        | inr e ↦ ap (λ n. total f n g) (sym e)
      ]

  pub sparse-of : (n : ℕ) (w : ℕ → K) (i j : ℕ) → i ≤ j → j < n → ((k : ℕ) → k < i → w k ≡ f.nought) → ((k : ℕ) → i < k → k < j → w k ≡ f.nought) → ((k : ℕ) → j < k → w k ≡ f.nought) → IsSparse f n w i j
  sparse-of n w i j rises inside first between last = record {
    rises = rises;
    inside = inside;
    zero = λ k a b. elim (order3 k i) [
      | inl l ↦ first k l
      | inr (inl e) ↦ absurd (a e)
      | inr (inr l) ↦ elim (order3 k j) [
        | inl m ↦ between k l m
        | inr (inl e) ↦ absurd (b e)
        | inr (inr m) ↦ last k m
      ]
    ];
  }

module _ {A : Type 0} (f : ExactField) (value : A → Value f) where
  pub zero-at : (xs : List A) (i : ℕ) (x : A) (b : Bool) → i < length xs → x ≡ get_or xs i x → b ≡ f.laws.is_nought (value x) → b ≡ true → vector f.laws value xs i ≡ f.laws.nought
  zero-at xs i x b l e d t = vector-at f value xs i x l e ∙ f.laws.is_nought-true (value x) (sym d ∙ t)

-- the products of a row with a vector that is 0 but at two places
module _ {K : Type 0} (f : FieldOn K) (n : ℕ) (x w : ℕ → K) (i j : ℕ) (h : IsSparse f n w i j) where
  pub products-zero : (k : ℕ) → (k ≡ i → ⊥) → (k ≡ j → ⊥) → products f x w k ≡ f.nought
  products-zero k a b = ap (f.times (x k)) (h.zero k a b) ∙ times-nought f (x k)

  product-zero : (m k : ℕ) → k ≡ m → x m ≡ f.nought → products f x w k ≡ f.nought
  product-zero m k e z = ap (λ y. f.times y (w k)) (ap x e ∙ z) ∙ nought-times f (w k)

  pub products-sparse : IsSparse f n (products f x w) i j
  products-sparse = record { rises = h.rises; inside = h.inside; zero = products-zero }

  pub products-first : x j ≡ f.nought → IsSparse f n (products f x w) i i
  products-first z = record {
    rises = omega arith;
    inside = let r = h.rises in let l = h.inside in omega (arith, r, l);
    zero = λ k a _. elim (decide k j) [ inl e ↦ product-zero j k e z | inr b ↦ products-zero k a b ];
  }

  pub products-last : x i ≡ f.nought → IsSparse f n (products f x w) j j
  products-last z = record {
    rises = omega arith;
    inside = h.inside;
    zero = λ k b _. elim (decide k i) [ inl e ↦ product-zero i k e z | inr a ↦ products-zero k a b ];
  }

module _ (f : ExactField) (n : ℕ) (x w : ℕ → Value f) (i j : ℕ) (h : IsSparse f.laws n (products f.laws x w) i j) where
  abbrev g : ℕ → Value f
  g = products f.laws x w

  none : (k : ℕ) → (k ≡ i → ⊥) → (k ≡ j → ⊥) → g k ≡ f.laws.nought
  none = h.zero

  before : total f.laws i g ≡ f.laws.nought
  before =
      let r = h.rises in
      total-flat f.laws g 0 i (omega arith) (λ k _ l. none k (λ e. absurd (omega (arith, l, e))) (λ e. absurd (omega (arith, l, e, r))))

  upto : (z s : Value f) → z ≡ f.laws.nought → s ≡ f.laws.plus z (g i) → s ≡ total f.laws (suc i) g
  upto z s ez es = es ∙ ap (λ y. f.laws.plus y (g i)) (ez ∙ sym before)

  between : i < j → total f.laws j g ≡ total f.laws (suc i) g
  between l = total-flat f.laws g (suc i) j (omega (arith, l)) (λ k a b. none k (λ e. absurd (omega (arith, a, e))) (λ e. absurd (omega (arith, b, e))))

  after : total f.laws n g ≡ total f.laws (suc j) g
  after =
      let r = h.rises in
      let l = h.inside in
      total-flat f.laws g (suc j) n (omega (arith, l)) (λ k a b. none k (λ e. absurd (omega (arith, a, e, r))) (λ e. absurd (omega (arith, a, e))))

  apart : (i ≡ j → ⊥) → i < j
  apart d = elim (strict i j h.rises) [ inl l ↦ l | inr e ↦ absurd (d e) ]

  pub one-term : (z s : Value f) → z ≡ f.laws.nought → i ≡ j → s ≡ f.laws.plus z (g i) → s ≡ total f.laws n g
  one-term z s ez e es = upto z s ez es ∙ ap (λ k. total f.laws (suc k) g) e ∙ sym after

  pub two-terms : (z s t : Value f) → z ≡ f.laws.nought → (i ≡ j → ⊥) → s ≡ f.laws.plus z (g i) → t ≡ f.laws.plus s (g j) → t ≡ total f.laws n g
  two-terms z s t ez d es et = et ∙ ap (λ y. f.laws.plus y (g j)) (upto z s ez es ∙ sym (between (apart d))) ∙ sym after

  pub wide-first : (z : Value f) → z ≡ f.laws.nought → IsWideTerm f z (x i) (w i) → IsWideDot f n x w
  wide-first z ez t = let r = h.rises in let l = h.inside in dot-wide f n i x w z (omega (arith, r, l)) (ez ∙ sym before) t

  pub wide-last : (z s : Value f) → z ≡ f.laws.nought → (i ≡ j → ⊥) → s ≡ f.laws.plus z (g i) → IsWideTerm f s (x j) (w j) → IsWideDot f n x w
  wide-last z s ez d es t = dot-wide f n j x w s h.inside (upto z s ez es ∙ sym (between (apart d))) t

-- a row that is 0 at both places
module _ (f : ExactField) (n : ℕ) (x w : ℕ → Value f) (i j : ℕ) (h : IsSparse f.laws n w i j) where
  pub dead : x i ≡ f.laws.nought → x j ≡ f.laws.nought → total f.laws n (products f.laws x w) ≡ f.laws.nought
  dead a b =
      total-flat f.laws (products f.laws x w) 0 n (omega arith) (λ k _ _. elim (decide k i) [
        | inl e ↦ ap (λ y. f.laws.times y (w k)) (ap x e ∙ a) ∙ nought-times f.laws (w k)
        | inr d ↦ elim (decide k j) [
          | inl e ↦ ap (λ y. f.laws.times y (w k)) (ap x e ∙ b) ∙ nought-times f.laws (w k)
          | inr e ↦ products-zero f.laws n x w i j h k d e
        ]
      ])

module _ {A : Type 0} (f : ExactField) (value : A → Value f) (t : ℕ → Value f) where
  -- entries that are right stay so
  abbrev pub AreKept : List A → List A → Type 0
  AreKept old new = (k : ℕ) → vector f.laws value old k ≡ t k → vector f.laws value new k ≡ t k

  pub set-kept : (row : List A) (j : ℕ) (y : A) → j < length row → value y ≡ t j → AreKept row (set row j y)
  set-kept row j y l e k h =
      elim (decide k j) [
        | inl d ↦ subst (λ (z : ℕ). vector f.laws value (set row j y) z ≡ t z) (sym d) (vector-set_same f value row j y l ∙ e)
        | inr d ↦ vector-set_other f value row j k y d ∙ h
      ]

  pub pair-first : (row : List A) (a m : ℕ) (x y : A) → a < length row → m < length row → value x ≡ t a → value y ≡ t m → vector f.laws value (set (set row a x) m y) a ≡ t a
  pair-first row a m x y la lm ex ey =
      let len : length (set row a x) ≡ length row = rw length-set refl in
      set-kept (set row a x) m y (subst (λ (k : ℕ). m < k) (sym len) lm) ey a (vector-set_same f value row a x la ∙ ex)

  pub pair-second : (row : List A) (a m : ℕ) (x y : A) → m < length row → value y ≡ t m → vector f.laws value (set (set row a x) m y) m ≡ t m
  pair-second row a m x y lm ey =
      let len : length (set row a x) ≡ length row = rw length-set refl in
      vector-set_same f value (set row a x) m y (subst (λ (k : ℕ). m < k) (sym len) lm) ∙ ey

  pub pair-kept : (row : List A) (a m : ℕ) (x y : A) → a < length row → m < length row → value x ≡ t a → value y ≡ t m → AreKept row (set (set row a x) m y)
  pair-kept row a m x y la lm ex ey k h =
      let len : length (set row a x) ≡ length row = rw length-set refl in
      set-kept (set row a x) m y (subst (λ (k : ℕ). m < k) (sym len) lm) ey k (set-kept row a x la ex k h)

  -- the entries from b up to a are right, and those that were so at the start
  pub record AreRight (n b a : ℕ) (old row : List A) : Type 0 where
    pub first : (k : ℕ) → b ≤ k → k < a → vector f.laws value row k ≡ t k
    pub second : (k : ℕ) → b ≤ k → k < a → vector f.laws value row (n + k) ≡ t (n + k)
    pub kept : AreKept old row

  pub right-start : (n b : ℕ) (row : List A) → AreRight n b b row row
  right-start n b row = record { first = λ k l m. absurd (omega (arith, l, m)); second = λ k l m. absurd (omega (arith, l, m)); kept = λ k h. h }

  pub right-next : (n b a : ℕ) (old row new : List A) → AreRight n b a old row → vector f.laws value new a ≡ t a → vector f.laws value new (n + a) ≡ t (n + a) → AreKept row new → AreRight n b (a + 1) old new
  right-next n b a old row new h ea em kept = record {
    first = λ k l m. elim (strict_next k a m) [ inl o ↦ kept k (h.first k l o) | inr e ↦ subst (λ (z : ℕ). vector f.laws value new z ≡ t z) (sym e) ea ];
    second = λ k l m. elim (strict_next k a m) [ inl o ↦ kept (n + k) (h.second k l o) | inr e ↦ subst (λ (z : ℕ). vector f.laws value new (n + z) ≡ t (n + z)) (sym e) em ];
    kept = λ k e. kept k (h.kept k e);
  } where
    strict_next : (k a : ℕ) → k < a + 1 → (k < a) ⊎ (k ≡ a)
    strict_next k a l = grind arith

-- the parts of 0
pub real_part-nought : (x : ExactZ24) → x ≡ z24_laws.nought → k24_laws.nought ≡ real_part x
real_part-nought x e = sym (ap real_part (e ∙ sym from_real-nought) ∙ real_part-from_real k24_laws.nought)

pub imag_part-nought : (x : ExactZ24) → x ≡ z24_laws.nought → k24_laws.nought ≡ imag_part x
imag_part-nought x e = sym (ap imag_part (e ∙ sym from_real-nought) ∙ imag_part-from_real k24_laws.nought)

module _ (n s : ℕ) (D : ℕ → ℕ → ℕ → ExactZ24) (w : ℕ → ExactZ24) (q i j : ℕ) (h : IsSparse z24_laws n w i j) (arm other : ℕ) where
  abbrev t : ℕ → Exact24
  t = orbit z24_parts n D w q

  pub part-zero : (k : ℕ) → k < n → apply z24_laws n (D q) w k ≡ z24_laws.nought → (k24_laws.nought ≡ t k) × (k24_laws.nought ≡ t (n + k))
  part-zero k l e = (
    real_part-nought (apply z24_laws n (D q) w k) e ∙ part-re n D w q k l (apply z24_laws n (D q) w k) (λ _. apply z24_laws n (D q) w k),
    imag_part-nought (apply z24_laws n (D q) w k) e ∙ part-im n D w q k l (apply z24_laws n (D q) w k) (λ _. apply z24_laws n (D q) w k),
  )

  -- a row that is right in the rows of both arms, and keeps the zeros that are right
  pub sparse-image : (row : ℕ → Exact24) →
      ((a : ℕ) → a < n → (a / s ≡ arm → ⊥) → D q a i ≡ z24_laws.nought) → ((a : ℕ) → a < n → (a / s ≡ other → ⊥) → D q a j ≡ z24_laws.nought) →
      ((k : ℕ) → k < n → k / s ≡ arm → row k ≡ t k) → ((k : ℕ) → k < n → k / s ≡ arm → row (n + k) ≡ t (n + k)) →
      ((k : ℕ) → k < n → k / s ≡ other → row k ≡ t k) → ((k : ℕ) → k < n → k / s ≡ other → row (n + k) ≡ t (n + k)) →
      ((k : ℕ) → k24_laws.nought ≡ t k → row k ≡ t k) → row ≡ t
  sparse-image row zi zj a1 a2 o1 o2 kept =
      funext (λ k. elim (place n k) [
        | inl l ↦ elim (decide (k / s) arm) [
          | inl e ↦ a1 k l e
          | inr a ↦ elim (decide (k / s) other) [
            | inl e ↦ o1 k l e
            | inr b ↦ kept k (part-zero k l (dead z24 n (D q k) w i j h (zi k l a) (zj k l b))).0
          ]
        ]
        | inr (inl m) ↦
            subst (λ (z : ℕ). row z ≡ t z) (sym m.2)
            (elim (decide (m.0 / s) arm) [
              | inl e ↦ a2 m.0 m.1 e
              | inr a ↦ elim (decide (m.0 / s) other) [
                | inl e ↦ o2 m.0 m.1 e
                | inr b ↦ kept (n + m.0) (part-zero m.0 m.1 (dead z24 n (D q m.0) w i j h (zi m.0 m.1 a) (zj m.0 m.1 b))).1
              ]
            ])
        | inr (inr m) ↦ kept k (sym (part-past n D w q k m))
      ])

-- the rows of an arm
pub arm-end : (arms s arm : ℕ) → arm < arms → (arm + 1) * s ≤ arms * s
arm-end arms s arm l =
    let a : arm + 1 ≤ arms = omega (arith, l) in
    let x : s * (arm + 1) ≤ s * arms = mul-le-mul_left s a in
    let y : s * (arm + 1) ≡ (arm + 1) * s = mul_comm s (arm + 1) in
    let z : s * arms ≡ arms * s = mul_comm s arms in
    omega (arith, x, y, z)

pub arm-row : (s arm k : ℕ) → 0 < s → k / s ≡ arm → (arm * s ≤ k) × (k < (arm + 1) * s)
arm-row s arm k some e =
    let at : k / s * s + k % s ≡ k = div-add-mod' k s in
    let r : k % s < s = mod_below k s some in
    let m : k / s * s ≡ arm * s = ap (λ z. z * s) e in
    let n : (arm + 1) * s ≡ arm * s + s = omega arith in
    (omega (arith, at, m), omega (arith, at, r, m, n))

pub first-inside : (n : ℕ) (w : ℕ → ExactZ24) (i j : ℕ) → IsSparse z24_laws n w i j → i < n
first-inside n w i j h = let a = h.rises in let b = h.inside in omega (arith, a, b)

-- such a row is of the arm
pub row-arm : (s arm a : ℕ) → arm * s ≤ a → a < (arm + 1) * s → a / s ≡ arm
row-arm s arm a l u =
    let e : a ≡ arm * s + (a - arm * s) = omega (arith, l) in
    let n : (arm + 1) * s ≡ arm * s + s = omega arith in
    let b : a - arm * s < s = omega (arith, l, u, n) in
    ap (λ k. k / s) e ∙ div-mul-add arm s (a - arm * s) b
