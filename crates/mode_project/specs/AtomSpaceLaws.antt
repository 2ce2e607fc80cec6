-- What the matrices of a space obey.
--
-- matrices-multiply: M(p) M(q) = M(p q)
-- matrix-unit: M(0) is the unit matrix
-- entry-at: the entries of M(q) by atoms
use Rattle.std.proofs.Common.{◌≡◌, ℕ, suc, zero, ◌+◌, ◌*◌, ◌/◌, ◌%◌, ◌<◌, Bool, true, false, inl, inr, refl, sym, ◌∙◌, ap, arith, nat_eq, if◌then◌else◌, ℤ, pos, ◌+ℤ◌, ◌*ℤ◌}
use Rattle.algebra.specs.Sums as sums
use Rattle.algebra.specs.SumLaws.{decide}
use Rattle.cyclo24.specs.FieldOn.{FieldOn}
use Rattle.cyclo24.specs.Numerals.{of_whole}
use Rattle.cyclo24.specs.NumeralLaws.{of-plus, of-times}
use Rattle.cyclo24.specs.Sums.{total}
use Rattle.cyclo24.specs.TotalLaws.{total-same}
use Rattle.lin_alg.specs.BlockLaws.{tested-multiply}
use Rattle.lin_alg.specs.EquationLaws.{eq-self, eq-other}
use Rattle.lin_alg.specs.Matrices.{unit_entry, AreEqualBelow, IsRepresentation}
use Rattle.mode_project.specs.AtomSpace.{AtomSpace, size_of, matrix_of, IsAtomSpace}

pub row-at : (c m b : ℕ) → b < c → (m * c + b) / c ≡ m
row-at c m b l = grind arith

pub number-at : (c m b : ℕ) → b < c → (m * c + b) % c ≡ b
number-at c m b l = grind arith

pub atom-below : (n c p : ℕ) → p < n * c → p / c < n
atom-below n c p l = grind arith

some-each : (n c p : ℕ) → p < n * c → 0 < c
some-each n zero p l = let e : n * 0 ≡ 0 = omega arith in absurd (omega (arith, l, e))
some-each n (suc c) p l = omega arith

pub number-below : (n c p : ℕ) → p < n * c → p % c < c
number-below n c p l = let h : 0 < c = some-each n c p l in omega (arith, h)

pub column-below : (n c i a : ℕ) → i < n → a < c → i * c + a < n * c
column-below n c i a l m = grind arith

places-apart : (c p q : ℕ) → 0 < c → p / c ≡ q / c → p % c ≡ q % c → p ≡ q
places-apart c p q l h k = let e : c * (p / c) ≡ c * (q / c) = ap (λ z. c * z) h in omega (arith, l, e, k)

module _ {K : Type 0} (f : FieldOn K) where
  pub of-total : (n : ℕ) (g : ℕ → ℤ) → of_whole f (sums.total (pos 0) ◌+ℤ◌ n g) ≡ total f n (λ k. of_whole f (g k))
  of-total zero g = refl
  of-total (suc n) g = of-plus f (sums.total (pos 0) ◌+ℤ◌ n g) (g n) ∙ ap (λ x. f.plus x (of_whole f (g n))) (of-total n g)

  module _ (s : AtomSpace) where
    pub entry-at : (q m b i a : ℕ) → b < s.each → a < s.each
        → matrix_of f s q (m * s.each + b) (i * s.each + a) ≡ (if nat_eq m (s.image q i) then of_whole f (s.turn q b a) else f.nought)
    entry-at q m b i a lb la =
        λ t. if nat_eq (row-at s.each m b lb t) (s.image q (row-at s.each i a la t)) then of_whole f (s.turn q (number-at s.each m b lb t) (number-at s.each i a la t)) else f.nought

  module _ (s : AtomSpace) (law : IsAtomSpace s) where
    pub matrices-multiply : IsRepresentation f s.group (size_of s) (matrix_of f s)
    matrices-multiply a b la lb p q lp lq =
        let c = s.each in
        let i = q / c in
        let k = s.image b i in
        let li : i < s.atoms = atom-below s.atoms c q lq in
        sym (tested-multiply f s.atoms c
        (λ m j. nat_eq m (s.image a j)) (λ m j. nat_eq m (s.image b j)) (λ m j. nat_eq m (s.image (s.group.product a b) j))
        (λ m j x y. of_whole f (s.turn a x y)) (λ m j x y. of_whole f (s.turn b x y)) (λ m j x y. of_whole f (s.turn (s.group.product a b) x y))
        p q k (law.images.below b i lb li) (eq-self k) (λ m l d. eq-other m k d)
        (ap (nat_eq (p / c)) (law.images.product a b i la lb li))
        (λ _. ap (of_whole f) (law.product a b (p % c) (q % c) la lb (number-below s.atoms c p lp) (number-below s.atoms c q lq))
        ∙ of-total c (λ z. s.turn a (p % c) z *ℤ s.turn b z (q % c))
        ∙ total-same f c _ _ (λ z l. of-times f (s.turn a (p % c) z) (s.turn b z (q % c)))))

    pub unit-number : (b : Bool) → of_whole f (if b then pos 1 else pos 0) ≡ (if b then f.unit else f.nought)
    unit-number true = f.plus-nought f.unit
    unit-number false = refl

    pub matrix-unit : AreEqualBelow (size_of s) (matrix_of f s 0) (unit_entry f)
    matrix-unit p q lp lq =
        let c = s.each in
        let lc : 0 < c = some-each s.atoms c p lp in
        let li = atom-below s.atoms c q lq in
        let e : matrix_of f s 0 p q ≡ (if nat_eq (p / c) (q / c) then (if nat_eq (p % c) (q % c) then f.unit else f.nought) else f.nought) =
        (λ t. if nat_eq (p / c) (law.images.identity (q / c) li t) then of_whole f (law.unit (p % c) (q % c) (number-below s.atoms c p lp) (number-below s.atoms c q lq) t) else f.nought)
        ∙ ap (λ x. if nat_eq (p / c) (q / c) then x else f.nought) (unit-number (nat_eq (p % c) (q % c))) in
        e ∙ (elim (decide (p / c) (q / c)) [
          | inr n ↦
              let m : p ≡ q → ⊥ = λ h. n (ap (λ z. z / c) h) in
              ap (λ b. if b then (if nat_eq (p % c) (q % c) then f.unit else f.nought) else f.nought) (eq-other (p / c) (q / c) n) ∙ sym (ap (λ b. if b then f.unit else f.nought) (eq-other p q m))
          | inl h ↦
              ap (λ b. if b then (if nat_eq (p % c) (q % c) then f.unit else f.nought) else f.nought) (ap (λ z. nat_eq z (q / c)) h ∙ eq-self (q / c))
              ∙ (elim (decide (p % c) (q % c)) [
                | inr n ↦
                    let m : p ≡ q → ⊥ = λ h. n (ap (λ z. z % c) h) in
                    ap (λ b. if b then f.unit else f.nought) (eq-other (p % c) (q % c) n) ∙ sym (ap (λ b. if b then f.unit else f.nought) (eq-other p q m))
                | inl k ↦
                    let m : p ≡ q = places-apart c p q lc h k in
                    ap (λ b. if b then f.unit else f.nought) (ap (λ z. nat_eq z (q % c)) k ∙ eq-self (q % c)) ∙ sym (ap (λ b. if b then f.unit else f.nought) (ap (λ z. nat_eq z q) m ∙ eq-self q))
              ])
        ])
