use Rattle.std.proofs.Common.{◌≡◌, ℕ, ◌+◌, ◌<◌, inl, inr, sym, ◌∙◌, subst, IsTrue}
use Rattle.cyclo24.specs.ExactK24.{Exact24}
use Rattle.cyclo24.specs.ExactZ24.{ExactZ24, z24_laws, from_real, imaginary, is_wide_from_real, is_wide_product_z24, is_wide_sum_z24}
use Rattle.real_form.specs.Parts.{lifted}
use Rattle.real_form.proofs.PartsLaws.{lifted-at}
use Rattle.real_form.specs.Complexes.{z24_parts}
use Rattle.real_form.specs.Wide.{IsWideLifted}

module _ (n : ℕ) (v : ℕ → Exact24) (j : ℕ) (l : j < n) where
  pub wide-real : (x : Exact24) → x ≡ v j → IsTrue (is_wide_from_real x) → IsWideLifted n v
  wide-real x e h = (j, l, inl (inl (subst (λ (y : Exact24). IsTrue (is_wide_from_real y)) e h)))

  pub wide-imaginary : (x : Exact24) → x ≡ v (n + j) → IsTrue (is_wide_from_real x) → IsWideLifted n v
  wide-imaginary x e h = (j, l, inl (inr (subst (λ (y : Exact24). IsTrue (is_wide_from_real y)) e h)))

  pub wide-turned : (r x : ExactZ24) → r ≡ imaginary → x ≡ from_real (v (n + j)) → IsTrue (is_wide_product_z24 r x) → IsWideLifted n v
  wide-turned r x e d h =
      (j, l, inr (inl (subst (λ (y : ExactZ24). IsTrue (is_wide_product_z24 imaginary y)) d (subst (λ (y : ExactZ24). IsTrue (is_wide_product_z24 y x)) e h))))

  pub wide-sum : (x y : ExactZ24) → x ≡ from_real (v j) → y ≡ z24_laws.times imaginary (from_real (v (n + j))) → IsTrue (is_wide_sum_z24 x y) → IsWideLifted n v
  wide-sum x y e d h =
      (j, l, inr (inr (subst (λ (z : ExactZ24). IsTrue (is_wide_sum_z24 (from_real (v j)) z)) d (subst (λ (z : ExactZ24). IsTrue (is_wide_sum_z24 z y)) e h))))

  pub lifted-is : (x y z : ExactZ24) → z ≡ z24_laws.plus x y → x ≡ from_real (v j) → y ≡ z24_laws.times imaginary (from_real (v (n + j))) → z ≡ lifted z24_parts n v j
  lifted-is x y z h e d = h ∙ (λ t. z24_laws.plus (e t) (d t)) ∙ sym (lifted-at z24_parts n v j l)
