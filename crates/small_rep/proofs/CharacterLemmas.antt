-- One character more.
use Rattle.std.proofs.Common.{◌≡◌, ap, ◌∙◌, subst, ℕ, suc, ◌+◌, inl, inr, IsTrue, get_or, arith}
use Rattle.cyclo24.specs.declared.z24.Z24.{Z24}
use Rattle.cyclo24.specs.ExactZ24.{ExactZ24, z24, z24_laws, is_wide_sum_z24}
use Rattle.lin_alg.specs.Matrix.{MatrixView, IsWideTrace}
use Rattle.lin_alg.specs.Matrices.{trace}
use Rattle.small_rep.specs.SmallRep.{character_of, norm_of, norms_of}
use Rattle.small_rep.specs.Check.{IsWideNorm, IsWideCharacter}
use Rattle.small_rep.specs.Rep.{RepView, matrices_of}
use Rattle.small_rep.proofs.PairCheckLemmas.{entries, AreEntries}

-- the sum over the first i rotations
abbrev pub norms : RepView → ℕ → ExactZ24
norms v i = norms_of v.little v.size (matrices_of v) i

module _ (v : RepView) (k : ℕ) (m : MatrixView Z24) (r : ℕ) (er : r ≡ get_or v.little k 0) (rows : m.rows ≡ v.size) (fm : AreEntries v r m) where
  matrix-is : entries m ≡ matrices_of v (get_or v.little k 0)
  matrix-is = (λ i x y. fm x y i) ∙ ap (matrices_of v) er

  abbrev character : ExactZ24
  character = character_of v.size (matrices_of v) (get_or v.little k 0)

  pub character-is : (x : ExactZ24) → x ≡ trace z24_laws m.rows (entries m) → x ≡ character
  character-is x e = e ∙ (λ t. trace z24_laws (rows t) (matrix-is t))

  pub trace_wide : IsWideTrace z24 m.rows (entries m) → IsWideCharacter v.little v.size (matrices_of v) k
  trace_wide w = inl (subst (λ (A : Type 0). A) (λ t. IsWideTrace z24 (rows t) (matrix-is t)) w)

  module _ (x : ExactZ24) (ex : x ≡ trace z24_laws m.rows (entries m)) where
    pub norm_wide : IsWideNorm x → IsWideCharacter v.little v.size (matrices_of v) k
    norm_wide w = inr (inl (subst IsWideNorm (character-is x ex) w))

    module _ (s y : ExactZ24) (es : s ≡ norms v k) (ey : y ≡ norm_of x) where
      pub sum_wide : IsTrue (is_wide_sum_z24 s y) → IsWideCharacter v.little v.size (matrices_of v) k
      sum_wide w = inr (inr (subst (λ (A : Type 0). A) (λ t. IsTrue (is_wide_sum_z24 (es t) ((ey ∙ ap norm_of (character-is x ex)) t))) w))

      pub sum_more : (z : ExactZ24) → z ≡ z24_laws.plus s y → z ≡ norms v (k + 1)
      sum_more z e =
          let n : suc k ≡ k + 1 = omega arith in
          e ∙ (λ t. z24_laws.plus (es t) ((ey ∙ ap norm_of (character-is x ex)) t)) ∙ ap (norms v) n
