-- Groups that operations generate with the primitive lattice, where each has a rotation that keeps a
-- numbered list of 48 small matrices and no translation outside the lattice.
--
-- IsKept number at m, IsKeeping number at s: the matrix is listed under its number; products with s are listed again
-- IsKeepingStep number at g: an operation with such a rotation
-- product-keeps: products of matrices that keep the list
-- few-kept, pure-kept: such a group has not too many rotations, and no extra translation
use Rattle.std.proofs.Common.{◌≡◌, sym, ap, ◌∙◌, subst, ⊎_elim, ℕ, ◌<◌, ◌≤◌, ℤ, List, [], ◌∷◌, length, arith}
use Rattle.std.proofs.lemmas.Int.{ints}
use Rattle.algebra.specs.Whole.{whole}
use Rattle.algebra.specs.WholeLaws.{whole_ring}
use Rattle.algebra.specs.PigeonholeLaws.{pigeonhole}
use Rattle.space_ops.specs.declared.op.Op.{Op}
use Rattle.space_ops.specs.declared.lattice.Lattice.TheVariants.{P}
use Rattle.space_ops.specs.Matrix.{Matrix, Vector, matrix_times, image_under, unit_matrix, zero_vector}
use Rattle.space_ops.specs.MatrixLaws.{same_vector, matrix_times-assoc}
use Rattle.space_ops.specs.Seitz.{Seitz, seitz_inverse}
use Rattle.space_ops.specs.Op.{IsSmallMatrix}
use Rattle.space_ops.specs.LatticeLaws.{zero-lattice, sum-lattice, image-lattice, below_one}
use Rattle.space_ops.specs.Words.{op_at, centring_at, IsLatticeVector, IsStep, AreSteps, word_value, IsWord, IsWordRotation, HasMoreRotations, HasLargeRotation, HasTooManyRotations, HasExtraTranslation}

-- the matrix is listed under its number
abbrev pub IsKept : (Matrix ℤ → ℕ) → (ℕ → Matrix ℤ) → Matrix ℤ → Type 0
IsKept number at m = m ≡ at (number m)

-- the products with it are listed again
abbrev pub IsKeeping : (Matrix ℤ → ℕ) → (ℕ → Matrix ℤ) → Matrix ℤ → Type 0
IsKeeping number at s = (i : ℕ) → i < 48 → IsKept number at (matrix_times whole s (at i))

-- a step whose rotation keeps them, without a translation outside the lattice
pub record IsKeepingStep (number : Matrix ℤ → ℕ) (at : ℕ → Matrix ℤ) (g : Seitz ℤ) : Type 0 where
  pub keeps : IsKeeping number at g.rot
  pub lattice : IsLatticeVector P g.shift

image-zero : (r : Matrix ℤ) → zero_vector whole ≡ image_under whole r (zero_vector whole)
image-zero r = same_vector _ _ (omega (arith, ints)) (omega (arith, ints)) (omega (arith, ints))

image-edges : (r : Matrix ℤ) (t : Vector ℤ) → IsLatticeVector P t → IsLatticeVector P (image_under whole r t)
image-edges r t h =
    image-lattice P r t (below_one (λ i. IsLatticeVector P (image_under whole r (centring_at P i))) (subst (IsLatticeVector P) (image-zero r) (zero-lattice P))) h

-- a word with a listed rotation, and no translation outside the lattice
record IsKeptWord (number : Matrix ℤ → ℕ) (at : ℕ → Matrix ℤ) (g : Seitz ℤ) : Type 0 where
  rotation : IsKept number at g.rot
  lattice : IsLatticeVector P g.shift

module _ (number : Matrix ℤ → ℕ) (at : ℕ → Matrix ℤ) (below : (m : Matrix ℤ) → number m < 48) where
  kept : (s m : Matrix ℤ) → IsKeeping number at s → IsKept number at m → IsKept number at (matrix_times whole s m)
  kept s m h e = subst (λ (x : Matrix ℤ). IsKept number at (matrix_times whole s x)) (sym e) (h (number m) (below m))

  -- products of matrices that keep them
  pub product-keeps : (s t : Matrix ℤ) → IsKeeping number at s → IsKeeping number at t → IsKeeping number at (matrix_times whole s t)
  product-keeps s t h k = λ i l. subst (IsKept number at) (sym (matrix_times-assoc whole whole_ring s t (at i))) (kept s (matrix_times whole t (at i)) h (k i l))

  kept-apart : (m n : Matrix ℤ) → IsKept number at m → IsKept number at n → number m ≡ number n → m ≡ n
  kept-apart m n e f same = e ∙ ap at same ∙ sym f

module _ (number : Matrix ℤ → ℕ) (at : ℕ → Matrix ℤ) (below : (m : Matrix ℤ) → number m < 48)
    (unit : IsKept number at (unit_matrix whole)) (unit-keeps : IsKeeping number at (unit_matrix whole)) (small : (i : ℕ) → i < 48 → IsSmallMatrix (at i))
    (gens : List Op) (gen : (i : ℕ) → i < length gens → IsKeepingStep number at (op_at gens i))
    (back : (i : ℕ) → i < length gens → IsKeepingStep number at (seitz_inverse whole (op_at gens i))) where
  step-kept : (s : Seitz ℤ) → IsStep gens P s → IsKeepingStep number at s
  step-kept s h =
      ⊎_elim (λ g. subst (IsKeepingStep number at) (sym g.2) (gen g.0 g.1))
      (λ k. ⊎_elim (λ g. subst (IsKeepingStep number at) (sym g.2) (back g.0 g.1))
      (λ t. record { keeps = subst (IsKeeping number at) (sym t.0) unit-keeps; lattice = t.1 }) k) h

  value-kept : (w : List (Seitz ℤ)) → AreSteps gens P w → IsKeptWord number at (word_value w)
  value-kept [] h = record { rotation = unit; lattice = zero-lattice P }
  value-kept (s ∷ w) h =
      let step = step-kept s h.0 in
      let rest = value-kept w h.1 in
      record {
        rotation = kept number at below s.rot (word_value w).rot step.keeps rest.rotation;
        lattice = sum-lattice P s.shift (image_under whole s.rot (word_value w).shift) step.lattice (image-edges s.rot (word_value w).shift rest.lattice);
      }

  word-kept : (g : Seitz ℤ) → IsWord gens P g → IsKeptWord number at g
  word-kept g h = subst (IsKeptWord number at) h.value (value-kept h.word h.steps)

  rotation-kept : (r : Matrix ℤ) → IsWordRotation gens P r → IsKept number at r
  rotation-kept r h = subst (IsKept number at) h.rotation (word-kept h.element h.is_word).rotation

  few-more : HasMoreRotations gens P 48 → ⊥
  few-more h =
      let within : (i : ℕ) → i < 49 → i ≤ 48 = λ i l. omega arith in
      let each : (i : ℕ) → i < 49 → IsKept number at (h.number i) = λ i l. rotation-kept (h.number i) (h.are_words i (within i l)) in
      let e : 49 ≤ 48 =
      pigeonhole 49 48 (λ i l. number (h.number i)) (λ i l. below (h.number i))
      (λ i j l k same. h.apart i j (within i l) (within j k) (kept-apart number at below (h.number i) (h.number j) (each i l) (each j k) same)) in
      absurd (omega (arith, e))

  few-large : HasLargeRotation gens P → ⊥
  few-large h = h.not_small (subst IsSmallMatrix (sym (rotation-kept h.large h.is_word)) (small (number h.large) (below h.large)))

  pub few-kept : HasTooManyRotations gens P → ⊥
  few-kept h = ⊎_elim few-more few-large h

  pub pure-kept : HasExtraTranslation gens P → ⊥
  pure-kept h = h.outside (word-kept h.extra h.is_word).lattice
