use Rattle.std.proofs.Common.{◌≡◌, ℕ, suc, zero, ◌+◌, ◌*◌, ◌/◌, ◌%◌, ◌<◌, ◌≤◌, ◌⊎◌, inl, inr, ◌&&◌, true, false, sym, ◌∙◌, ap, List, length, set, arith, nat_eq, lt-ltb, le-ltb, if◌then◌else◌}
use Rattle.std.proofs.lemmas.Bool.Decides.{eqb_tells}
use Rattle.std.proofs.lemmas.Nat.{div-mul-add, mod-mul-add}
use Rattle.cyclo24.specs.FieldOn.{FieldOn}
use Rattle.cyclo24.specs.ExactField.{ExactField, Value}
use Rattle.cyclo24.specs.FieldLaws.{nought-plus, times-nought, nought-times}
use Rattle.cyclo24.specs.TotalLaws.{total-same, total-nought}
use Rattle.lin_alg.specs.RowLaws.{vector-past}
use Rattle.lin_alg.specs.Rows.{vector}
use Rattle.lin_alg.specs.Matrix.{MatrixView, entry, with_entry}
use Rattle.lin_alg.specs.Matrices.{mul}
use Rattle.lin_alg.proofs.VectorLemmas.{vector-set_same, vector-set_other}

module _ {K : Type 0} (f : FieldOn K) where
  pub add-left_nought : (s x y : K) → f.is_nought x ≡ true → s ≡ f.plus s (f.times x y)
  add-left_nought s x y z = sym (ap (λ a. f.plus s (f.times a y)) (f.is_nought-true x z) ∙ ap (f.plus s) (nought-times f y) ∙ f.plus-nought s)

  pub add-right_nought : (s x y : K) → f.is_nought y ≡ true → s ≡ f.plus s (f.times x y)
  add-right_nought s x y z = sym (ap (λ a. f.plus s (f.times x a)) (f.is_nought-true y z) ∙ ap (f.plus s) (times-nought f x) ∙ f.plus-nought s)

  pub nought-add : (s r : K) → f.is_nought s ≡ true → r ≡ f.plus s r
  nought-add s r z = sym (ap (λ a. f.plus a r) (f.is_nought-true s z) ∙ nought-plus f r)

dec : (k n : ℕ) → (k < n) ⊎ (n ≤ k)
dec k n = grind arith

-- a later row starts behind each earlier one
row-past : (n i m : ℕ) → n ≤ i → n * m ≤ i * m
row-past zero i m l = omega arith
row-past (suc n) zero m l = absurd (omega arith)
row-past (suc n) (suc i) m l =
    let below : n * m ≤ i * m = row-past n i m (omega arith) in
    let a : suc n * m ≡ n * m + m = grind arith in
    let b : suc i * m ≡ i * m + m = grind arith in
    omega arith

pub place-below : (n i m j : ℕ) → i < n → j < m → i * m + j < n * m
place-below n i m j l k =
    let next : suc i * m ≤ n * m = row-past (suc i) n m (omega arith) in
    let a : suc i * m ≡ i * m + m = grind arith in
    omega arith

-- places of two entries differ where a row or a column does
place-apart : (m i j k l : ℕ) → j < m → l < m → k * m + l ≡ i * m + j → (k ≡ i) × (l ≡ j)
place-apart m i j k l b c e = (
  sym (div-mul-add k m l c) ∙ ap (λ p. p / m) e ∙ div-mul-add i m j b,
  sym (mod-mul-add k m l c) ∙ ap (λ p. p % m) e ∙ mod-mul-add i m j b,
)

-- whether two places are one, with the test's answer
pick : (k i l j : ℕ) → ((k ≡ i) × (l ≡ j) × ((nat_eq k i && nat_eq l j) ≡ true)) ⊎ (((k ≡ i) → (l ≡ j) → ⊥) × ((nat_eq k i && nat_eq l j) ≡ false))
pick k i l j =
    elim (eqb_tells k i) [
      | inr h ↦ inr (λ e _. h.1 e, ap (λ b. b && nat_eq l j) h.0)
      | inl h ↦ elim (eqb_tells l j) [
        | inr m ↦ inr (λ _ e. m.1 e, λ z. h.0 z && m.0 z)
        | inl m ↦ inl (h.1, m.1, λ z. h.0 z && m.0 z)
      ]
    ]

module _ {A : Type 0} (f : ExactField) (value : A → Value f) where
  pub entry-inside : (m : MatrixView A) (i j : ℕ) → j < m.cols → entry f.laws value m i j ≡ vector f.laws value m.entries (i * m.cols + j)
  entry-inside m i j l = ap (λ b. if b then vector f.laws value m.entries (i * m.cols + j) else f.laws.nought) (lt-ltb j m.cols l)

  pub entry-right : (m : MatrixView A) (i j : ℕ) → m.cols ≤ j → entry f.laws value m i j ≡ f.laws.nought
  entry-right m i j l = ap (λ b. if b then vector f.laws value m.entries (i * m.cols + j) else f.laws.nought) (le-ltb j m.cols l)

  pub entry-under : (m : MatrixView A) (i j : ℕ) → length m.entries ≡ m.rows * m.cols → m.rows ≤ i → entry f.laws value m i j ≡ f.laws.nought
  entry-under m i j e l =
      elim (dec j m.cols) [
        | inl k ↦
            let past : m.rows * m.cols ≤ i * m.cols = row-past m.rows i m.cols l in
            entry-inside m i j k ∙ vector-past f value m.entries (i * m.cols + j) (omega arith)
        | inr k ↦ entry-right m i j k
      ]

  -- writing one place of the list writes one entry
  pub entry-set : (m : MatrixView A) (i j : ℕ) (x : A) → i < m.rows → j < m.cols → length m.entries ≡ m.rows * m.cols → (k l : ℕ) →
      entry f.laws value (record { rows = m.rows; cols = m.cols; entries = set m.entries (i * m.cols + j) x }) k l ≡ with_entry i j (value x) (entry f.laws value m) k l
  entry-set m i j x lr lc e k l =
      let new : MatrixView A = record { rows = m.rows; cols = m.cols; entries = set m.entries (i * m.cols + j) x } in
      let place : i * m.cols + j < m.rows * m.cols = place-below m.rows i m.cols j lr lc in
      let below : i * m.cols + j < length m.entries = omega arith in
      elim (pick k i l j) [
        | inl h ↦
            (λ z. entry f.laws value new (h.0 z) (h.1 z)) ∙ entry-inside new i j lc ∙ vector-set_same f value m.entries (i * m.cols + j) x below
            ∙ sym (ap (λ b. if b then value x else entry f.laws value m k l) h.2)
        | inr h ↦ elim (dec l m.cols) [
          | inl b ↦
              entry-inside new k l b
              ∙ vector-set_other f value m.entries (i * m.cols + j) (k * m.cols + l) x (λ q. let both = place-apart m.cols i j k l lc b q in h.0 both.0 both.1)
              ∙ sym (entry-inside m k l b) ∙ sym (ap (λ b. if b then value x else entry f.laws value m k l) h.1)
          | inr p ↦ entry-right new k l p ∙ sym (entry-right m k l p) ∙ sym (ap (λ b. if b then value x else entry f.laws value m k l) h.1)
        ]
      ]

  -- an entry, where the list holds the entries of a product row by row
  pub entry-filled : (n m : ℕ) (xs : List A) (t : ℕ → ℕ → Value f) → length xs ≡ n * m → ((p : ℕ) → p < length xs → vector f.laws value xs p ≡ t (p / m) (p % m)) →
      ((i j : ℕ) → n ≤ i → t i j ≡ f.laws.nought) → ((i j : ℕ) → m ≤ j → t i j ≡ f.laws.nought) →
      (i j : ℕ) → entry f.laws value (record { rows = n; cols = m; entries = xs }) i j ≡ t i j
  entry-filled n m xs t e h under right i j =
      let all : MatrixView A = record { rows = n; cols = m; entries = xs } in
      elim (dec j m) [
        | inr k ↦ entry-right all i j k ∙ sym (right i j k)
        | inl k ↦ elim (dec i n) [
          | inr l ↦ entry-under all i j e l ∙ sym (under i j l)
          | inl l ↦
              let below : i * m + j < n * m = place-below n i m j l k in
              let in_list : i * m + j < length xs = omega arith in
              entry-inside all i j k ∙ h (i * m + j) in_list ∙ (λ z. t (div-mul-add i m j k z) (mod-mul-add i m j k z))
        ]
      ]

  pub mul-under : (d : ℕ) (a b : MatrixView A) → length a.entries ≡ a.rows * a.cols → (i j : ℕ) → a.rows ≤ i → mul f.laws d (entry f.laws value a) (entry f.laws value b) i j ≡ f.laws.nought
  mul-under d a b e i j l = total-same f.laws d _ (λ _. f.laws.nought) (λ k h. ap (λ x. f.laws.times x (entry f.laws value b k j)) (entry-under a i k e l) ∙ nought-times f.laws (entry f.laws value b k j)) ∙ total-nought f.laws d

  pub mul-right : (d : ℕ) (a b : MatrixView A) (i j : ℕ) → b.cols ≤ j → mul f.laws d (entry f.laws value a) (entry f.laws value b) i j ≡ f.laws.nought
  mul-right d a b i j l = total-same f.laws d _ (λ _. f.laws.nought) (λ k h. ap (f.laws.times (entry f.laws value a i k)) (entry-right b k j l) ∙ times-nought f.laws (entry f.laws value a i k)) ∙ total-nought f.laws d
