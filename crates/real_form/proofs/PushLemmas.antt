use Rattle.std.proofs.Common.{◌≡◌, ℕ, suc, zero, ◌+◌, ◌<◌, ◌≤◌, inl, inr, refl, sym, ◌∙◌, ap, arith, below_more, List, [], ◌∷◌, ◌++◌, length, lt-ltb, le-ltb, if◌then◌else◌}
use Rattle.cyclo24.specs.ExactField.{ExactField, Value}
use Rattle.algebra.specs.SumLaws.{below}
use Rattle.cyclo24.specs.declared.z24.Z24.{Z24}
use Rattle.cyclo24.specs.Z24.{exact_z24}
use Rattle.cyclo24.specs.ExactZ24.{z24, z24_laws}
use Rattle.lin_alg.specs.SpanLaws.{funext}
use Rattle.lin_alg.specs.RowLaws.{vector-past}
use Rattle.lin_alg.specs.Rows.{vector}
use Rattle.real_form.specs.declared.candidate.Candidate.{Candidate}
use Rattle.real_form.specs.Candidates.{candidate_entry, candidate_vector}

module _ {A : Type 0} (f : ExactField) (value : A → Value f) where
  pub vector-before : (xs : List A) (y : A) (i : ℕ) → i < length xs → vector f.laws value (xs ++ y ∷ []) i ≡ vector f.laws value xs i
  vector-before [] y i l = absurd (omega arith)
  vector-before (x ∷ xs) y zero l = refl
  vector-before (x ∷ xs) y (suc i) l = vector-before xs y i (omega arith)

  pub vector-last : (xs : List A) (y : A) (i : ℕ) → length xs ≡ i → vector f.laws value (xs ++ y ∷ []) i ≡ value y
  vector-last [] y zero e = refl
  vector-last [] y (suc i) e = absurd (omega (arith, e))
  vector-last (x ∷ xs) y zero e = absurd (omega (arith, e))
  vector-last (x ∷ xs) y (suc i) e = vector-last xs y i (omega (arith, e))

  pub pushed-next : (t : ℕ → Value f) (xs : List A) (y : A) (k : ℕ) → length xs ≡ k → value y ≡ t k → ((i : ℕ) → i < k → vector f.laws value xs i ≡ t i) → (i : ℕ) → i < k + 1 → vector f.laws value (xs ++ y ∷ []) i ≡ t i
  pushed-next t xs y k e ey h = below_more (λ i. vector f.laws value (xs ++ y ∷ []) i ≡ t i) k (λ i l. vector-before xs y i (omega (arith, l, e)) ∙ h i l) (vector-last xs y k e ∙ ey)

  -- the list holds the n entries of the target, which is 0 from n on
  pub pushed-all : (t : ℕ → Value f) (n : ℕ) (xs : List A) → length xs ≡ n → ((i : ℕ) → n ≤ i → t i ≡ f.laws.nought) → ((i : ℕ) → i < n → vector f.laws value xs i ≡ t i) → vector f.laws value xs ≡ t
  pushed-all t n xs e past h =
      funext (λ i. elim (below i n) [
        | inl l ↦ h i l
        | inr l ↦ vector-past f value xs i (omega (arith, l, e)) ∙ sym (past i l)
      ])

pub candidate-filled : (n : ℕ) (c : Candidate) (xs : List Z24) → length xs ≡ n → ((i : ℕ) → i < n → vector z24_laws exact_z24 xs i ≡ candidate_entry c i) → vector z24_laws exact_z24 xs ≡ candidate_vector n c
unfolding candidate_vector
candidate-filled n c xs e h =
    funext (λ k. elim (below k n) [
      | inl l ↦ h k l ∙ sym (ap (λ b. if b then candidate_entry c k else z24_laws.nought) (lt-ltb k n l))
      | inr l ↦ vector-past z24 exact_z24 xs k (omega (arith, l, e)) ∙ sym (ap (λ b. if b then candidate_entry c k else z24_laws.nought) (le-ltb k n l))
    ])
