-- What can be decided of rows, and first numbers.
--
-- Decided P: P holds, or it doesn't
-- whole-decide: whether a row is whole can be decided
-- IsFirst P s, first_of_some: where a number has a property that can be decided, a first one has it
use Rattle.std.proofs.Common.{◌≡◌, refl, ℕ, zero, suc, ◌<◌, ◌+◌, ◌⊎◌, inl, inr, ℤ, pos, negsuc, length, below_more, arith}
use Rattle.std.specs.Int.{int_rem_euclid}
use Rattle.space_ops.specs.declared.lattice.Lattice.{Lattice}
use Rattle.space_ops.specs.Matrix.{Vector}
use Rattle.space_ops.specs.Lattice.{centrings_of}
use Rattle.space_ops.specs.Words.{centring_at}
use Rattle.algebra.specs.MultipleLaws.{rem-multiple, multiple-rem}
use Rattle.algebra.specs.Multiples.{IsMultiple}
use Rattle.kstar.specs.WaveVector.{row_value, IsWhole}
use Rattle.kstar.specs.WaveVectorLaws.{IsDozens, whole-generated, whole-centrings, whole-edges}

-- P holds, or it doesn't
abbrev pub Decided : Type 0 → Type 0
Decided P = P ⊎ (P → ⊥)

zero-decide : (y : ℤ) → Decided (y ≡ pos 0)
zero-decide (pos zero) = inl refl
zero-decide (pos (suc n)) = inr (λ e. grind arith)
zero-decide (negsuc n) = inr (λ e. grind arith)

mapped : {P Q : Type 0} → (P → Q) → (Q → P) → Decided P → Decided Q
mapped f g (inl p) = inl (f p)
mapped f g (inr n) = inr (λ q. n (g q))

whole-value-decide : (x : ℤ) → Decided (IsMultiple 144 x)
whole-value-decide x = mapped (rem-multiple 144 (omega arith) x) (multiple-rem 144 (omega arith) x) (zero-decide (int_rem_euclid x (pos 144)))

dozen-decide : (x : ℤ) → Decided (IsMultiple 12 x)
dozen-decide x = mapped (rem-multiple 12 (omega arith) x) (multiple-rem 12 (omega arith) x) (zero-decide (int_rem_euclid x (pos 12)))

both : {P Q : Type 0} → Decided P → Decided Q → Decided (P × Q)
both (inl p) (inl q) = inl (p, q)
both (inl p) (inr n) = inr (λ w. n w.1)
both (inr n) d = inr (λ w. n w.0)

dozens-decide : (k : Vector ℤ) → Decided (IsDozens k)
dozens-decide k = mapped (λ w. record { x = w.0; y = w.1.0; z = w.1.1 }) (λ d. (d.x, (d.y, d.z))) (both (dozen-decide k.x) (both (dozen-decide k.y) (dozen-decide k.z)))

all-decide : (P : ℕ → Type 0) → ((i : ℕ) → Decided (P i)) → (n : ℕ) → Decided ((i : ℕ) → i < n → P i)
all-decide P d zero = inl (λ i l. absurd (omega arith))
all-decide P d (suc n) = next (all-decide P d n) (d n) where
  next : Decided ((i : ℕ) → i < n → P i) → Decided (P n) → Decided ((i : ℕ) → i < suc n → P i)
  next (inl a) (inl b) = inl (λ i l. below_more P n a b i (omega arith))
  next (inl a) (inr m) = inr (λ all. m (all n (omega arith)))
  next (inr m) b = inr (λ all. m (λ i l. all i (omega arith)))

pub whole-decide : (lattice : Lattice) (k : Vector ℤ) → Decided (IsWhole lattice k)
whole-decide lattice k =
    mapped (λ w. whole-generated lattice k w.0 w.1) (λ w. (whole-edges lattice k w, whole-centrings lattice k w))
    (both (dozens-decide k) (all-decide (λ i. IsMultiple 144 (row_value k (centring_at lattice i))) (λ i. whole-value-decide (row_value k (centring_at lattice i))) (length (centrings_of lattice))))

-- s is the first number with the property
abbrev pub IsFirst : (ℕ → Type 0) → ℕ → Type 0
IsFirst P s = P s × ((r : ℕ) → r < s → P r → ⊥)

find : (P : ℕ → Type 0) → ((i : ℕ) → Decided (P i)) → (n : ℕ) → ((s : ℕ) × (s < n) × IsFirst P s) ⊎ ((r : ℕ) → r < n → P r → ⊥)
find P d zero = inr (λ r l. absurd (omega arith))
find P d (suc n) = next (find P d n) (d n) where
  next : (((s : ℕ) × (s < n) × IsFirst P s) ⊎ ((r : ℕ) → r < n → P r → ⊥)) → Decided (P n) → ((s : ℕ) × (s < suc n) × IsFirst P s) ⊎ ((r : ℕ) → r < suc n → P r → ⊥)
  next (inl w) b = let l : w.0 < n = w.1 in inl (w.0, omega arith, w.2)
  next (inr a) (inl p) = inl (n, omega arith, (p, a))
  next (inr a) (inr m) = inr (λ r l. below_more (λ r. P r → ⊥) n a m r (omega arith))

pub first_of_some : (P : ℕ → Type 0) → ((i : ℕ) → Decided (P i)) → (n : ℕ) → P n → (s : ℕ) × (s < n + 1) × IsFirst P s
first_of_some P d n p = pick (find P d (n + 1)) where
  pick : (((s : ℕ) × (s < n + 1) × IsFirst P s) ⊎ ((r : ℕ) → r < n + 1 → P r → ⊥)) → (s : ℕ) × (s < n + 1) × IsFirst P s
  pick (inl w) = w
  pick (inr a) = absurd (a n (omega arith) p)
