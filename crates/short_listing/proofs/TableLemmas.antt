-- Places and rows of a table of matrices.
use Rattle.std.proofs.Common.{◌≡◌, ℕ, zero, suc, ◌+◌, ◌*◌, ◌/◌, ◌%◌, ◌<◌, ◌≤◌, ◌^◌, ◌&&◌, refl, ◌∙◌, ap, subst, arith, nat_eq, below_more, if◌then◌else◌}
use Rattle.std.proofs.lemmas.Nat.{mul-add-lt, div-mul-add, mod-mul-add, mul-le}
use Rattle.lin_alg.specs.EquationLaws.{eq-self, eq-other}
use Rattle.lin_alg.specs.Matrix.{with_entry}

-- row k holds the target in the columns below j, and the other rows are as before
pub record IsRow {K : Type 0} (old new : ℕ → ℕ → K) (k : ℕ) (t : ℕ → K) (j : ℕ) : Type 0 where
  pub row : (m : ℕ) → m < j → new k m ≡ t m
  pub others : (l m : ℕ) → (l ≡ k → ⊥) → new l m ≡ old l m

module _ {K : Type 0} where
  pub row-start : (old : ℕ → ℕ → K) (k : ℕ) (t : ℕ → K) → IsRow old old k t 0
  row-start old k t = record { row = λ m l. absurd (omega (arith, l)); others = λ l m n. refl }

  pub row-next : (old new more : ℕ → ℕ → K) (k : ℕ) (t : ℕ → K) (j : ℕ) (x : K) → x ≡ t j → ((l m : ℕ) → more l m ≡ with_entry k j x new l m) → IsRow old new k t j → IsRow old more k t (j + 1)
  row-next old new more k t j x e set h = record {
    row = below_more (λ m. more k m ≡ t m) j
        (λ m l. set k m ∙ ap (λ b. if b && nat_eq m j then x else new k m) (eq-self k) ∙ ap (λ b. if b then x else new k m) (eq-other m j (λ d. absurd (omega (arith, l, d)))) ∙ h.row m l)
        (set k j ∙ ap (λ b. if b && nat_eq j j then x else new k j) (eq-self k) ∙ ap (λ b. if b then x else new k j) (eq-self j) ∙ e);
    others = λ l m n. set l m ∙ ap (λ b. if b && nat_eq m j then x else new l m) (eq-other l k n) ∙ h.others l m n;
  }

-- a row below the end has a width
pub some_width : (k n d : ℕ) → k < n * d → zero < d
some_width k n zero l = absurd (omega (arith, l))
some_width k n (suc d) l = omega arith

-- a table of so many rows is small
pub small_table : (n d : ℕ) → n ≤ 16384 → d ≤ 24 → n * d * d < 2 ^ 32
small_table n d a b =
    let r : n * d ≤ 16384 * 24 = mul-le n d 16384 24 a b in
    let s : n * d * d ≤ 16384 * 24 * 24 = mul-le (n * d) d (16384 * 24) 24 r b in
    omega (arith, s)

-- what the rows hold by their numbers they hold by element and row
pub by_element : {K : Type 0} (n d : ℕ) (held : ℕ → ℕ → K) (t : ℕ → ℕ → ℕ → K) → ((k j : ℕ) → k < n * d → j < d → held k j ≡ t (k / d) (k % d) j)
    → (q i j : ℕ) → q < n → i < d → j < d → held (q * d + i) j ≡ t q i j
by_element n d held t h q i j lq li lj =
    h (q * d + i) j (subst (λ m. q * d + i < m) (comm d n) (mul-add-lt q d i n lq li)) lj ∙ ap (λ p. t p ((q * d + i) % d) j) (div-mul-add q d i li) ∙ ap (λ r. t q r j) (mod-mul-add q d i li)
  where
    comm : (a b : ℕ) → a * b ≡ b * a
    comm a b = omega arith
