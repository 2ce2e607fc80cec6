-- The law of one pair, from the matrices of the code.
use Rattle.std.proofs.Common.{◌≡◌, ◌⊎◌, sym, ap, ◌∙◌, subst, ℕ}
use Rattle.cyclo24.specs.declared.z24.Z24.{Z24}
use Rattle.cyclo24.specs.ExactZ24.{ExactZ24, z24, z24_laws, power}
use Rattle.cyclo24.specs.Z24.{exact_z24}
use Rattle.lin_alg.specs.Matrix.{MatrixView, entry, IsWideMul, IsWideMultiple}
use Rattle.lin_alg.specs.Matrices.{AreEqualBelow, mul, multiple}
use Rattle.small_rep.specs.Check.{left_of, right_of}
use Rattle.small_rep.specs.Rep.{RepView, matrices_of, pair_at}
use Rattle.small_rep.specs.RepCheck.{PairMultiplies, IsWideTablePair}

abbrev pub entries : MatrixView Z24 → ℕ → ℕ → ExactZ24
entries m = entry z24_laws exact_z24 m

abbrev pub AreEntries : RepView → ℕ → MatrixView Z24 → Type 0
AreEntries v r m = (x y : ℕ) → entries m x y ≡ matrices_of v r x y

-- the matrices of the code are those of rotations a, b and c, and x is the phase of the pair
module _ (v : RepView) (e : ℕ) (l r o : MatrixView Z24) (a b c : ℕ) (ea : a ≡ left_of v.little e) (eb : b ≡ right_of v.little e) (ec : c ≡ (pair_at v e).product)
    (fl : AreEntries v a l) (fr : AreEntries v b r) (fo : AreEntries v c o) (x : ExactZ24) (ex : x ≡ power (pair_at v e).power) (n : ℕ) (en : n ≡ v.size) where
  left-is : entries l ≡ matrices_of v (left_of v.little e)
  left-is = (λ i x y. fl x y i) ∙ ap (matrices_of v) ea

  right-is : entries r ≡ matrices_of v (right_of v.little e)
  right-is = (λ i x y. fr x y i) ∙ ap (matrices_of v) eb

  other-is : entries o ≡ matrices_of v (pair_at v e).product
  other-is = (λ i x y. fo x y i) ∙ ap (matrices_of v) ec

  law-is : AreEqualBelow n (mul z24_laws n (entries l) (entries r)) (multiple z24_laws x (entries o)) ≡ PairMultiplies v e
  law-is = λ t. AreEqualBelow (en t) (mul z24_laws (en t) (left-is t) (right-is t)) (multiple z24_laws (ex t) (other-is t))

  pub pair_multiplies : AreEqualBelow n (mul z24_laws n (entries l) (entries r)) (multiple z24_laws x (entries o)) → PairMultiplies v e
  pair_multiplies h = subst (λ (A : Type 0). A) law-is h

  pub pair_fails : (AreEqualBelow n (mul z24_laws n (entries l) (entries r)) (multiple z24_laws x (entries o)) → ⊥) → PairMultiplies v e → ⊥
  pair_fails not h = not (subst (λ (A : Type 0). A) (sym law-is) h)

  pub pair_wide : (IsWideMul z24 n n n (entries l) (entries r) ⊎ IsWideMultiple z24 n x (entries o)) → IsWideTablePair v e
  pair_wide w = subst (λ (A : Type 0). A) (λ t. IsWideMul z24 (en t) (en t) (en t) (left-is t) (right-is t) ⊎ IsWideMultiple z24 (en t) (ex t) (other-is t)) w
