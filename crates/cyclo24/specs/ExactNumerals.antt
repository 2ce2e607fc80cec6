-- Whole numbers and their quotients in a field of exact lists.
--
-- of_whole-is: the whole number z is the list of z over 1
-- quotient-is: x / d times d is x
use Rattle.std.proofs.Common.{◌≡◌, ℕ, ◌<◌, refl, sym, ap, ◌∙◌, pos, neg_ℤ, [], ◌∷◌, ◌++◌, map}
use Rattle.std.specs.Int.RustNames.{unsigned_abs}
use Rattle.algebra.specs.Ring.{Ops}
use Rattle.algebra.specs.Solve.{V, K, Mul, at}
use Rattle.algebra.specs.SolveLaws.{solve}
use Rattle.cyclo24.specs.FieldOn.{ones}
use Rattle.cyclo24.specs.ExactField.{Exact}
use Rattle.cyclo24.specs.Gcd.{lowest_terms}
use Rattle.cyclo24.specs.FractionLaws.{fractions, lower, is_lower, is_times, is_ones, same_from_is, one_positive, times}
use Rattle.cyclo24.specs.Numerators.{Numerators, IsNumerators, content_of}
use Rattle.cyclo24.specs.CommonLaws.{content_of_is, lowest-one}
use Rattle.cyclo24.specs.Listed.{numerators, is_exact}
use Rattle.cyclo24.specs.ListedLaws.{listed, listed-lower, exact_laws, take-last, get_or-last}
use Rattle.cyclo24.specs.Carry.{carried-ones}
use Rattle.cyclo24.specs.ExactLaws.{neg-is, low}

module _ {R : Type 0} (o : Ops R) (m : Numerators o) (h : IsNumerators o m) where
  ones-lower : (n : ℕ) → ones (exact_laws o m h) n ≡ (listed o m h).to (lower o (content_of m) (content_of_is o m h) (o.num n) 1 (one_positive o (content_of m) (content_of_is o m h)))
  ones-lower n =
      let c = content_of m in let i = content_of_is o m h in
      let f = fractions o c i in
      let p = one_positive o c i in
      sym ((listed o m h).to-from (ones (exact_laws o m h) n))
      ∙ ap (listed o m h).to (carried-ones f (listed o m h) n
      ∙ same_from_is o c i (ones f n) (lower o c i (o.num n) 1 p) (o.num n) (o.num 1) (o.num n) (o.num 1) (is_ones o c i n) (is_lower o c i (o.num n) 1 p) refl)

  pub ones-is : (n : ℕ) → (ones (exact_laws o m h) n).0 ≡ m.list (o.num n) ++ pos 1 ∷ []
  ones-is n = ap (λ (x : Exact (is_exact m.count)). x.0) (ones-lower n) ∙ listed-lower o m h (o.num n) 1 (one_positive o (content_of m) (content_of_is o m h)) ∙ lowest-one (m.list (o.num n))

  pub neg_ones-is : (n : ℕ) → ((exact_laws o m h).neg (ones (exact_laws o m h) n)).0 ≡ map neg_ℤ (m.list (o.num n)) ++ pos 1 ∷ []
  neg_ones-is n =
      let x = ones (exact_laws o m h) n in
      let e : x.0 ≡ m.list (o.num n) ++ pos 1 ∷ [] = ones-is n in
      let t : numerators m.count x.0 ≡ m.list (o.num n) = ap (numerators m.count) e ∙ take-last m.count (m.list (o.num n)) (pos 1) (h.length-list (o.num n)) in
      let l : low m.count x.0 ≡ 1 = ap (low m.count) e ∙ ap unsigned_abs (get_or-last m.count (m.list (o.num n)) (pos 1) (h.length-list (o.num n))) in
      neg-is o m h x ∙ (λ i. lowest_terms (map neg_ℤ (t i)) (l i)) ∙ lowest-one (map neg_ℤ (m.list (o.num n)))

  -- x / d times d is x / 1
  pub quotient-is : (x : R) (d : ℕ) (p : 0 < d) → (exact_laws o m h).times ((listed o m h).to (lower o (content_of m) (content_of_is o m h) x d p)) (ones (exact_laws o m h) d)
      ≡ (listed o m h).to (lower o (content_of m) (content_of_is o m h) x 1 (one_positive o (content_of m) (content_of_is o m h)))
  quotient-is x d p =
      let c = content_of m in let i = content_of_is o m h in
      let q = one_positive o c i in
      let s = listed o m h in
      let f = lower o c i x d p in
      let k = lower o c i (o.num d) 1 q in
      ap (λ y. s.to (times o c i (s.from (s.to f)) (s.from y))) (ones-lower d)
      ∙ (λ j. s.to (times o c i (s.from-to f j) (s.from-to k j)))
      ∙ ap s.to (same_from_is o c i (times o c i f k) (lower o c i x 1 q) (o.mul x (o.num d)) (o.mul (o.num d) (o.num 1)) x (o.num 1)
      (is_times o c i f k x (o.num d) (o.num d) (o.num 1) (is_lower o c i x d p) (is_lower o c i (o.num d) 1 q)) (is_lower o c i x 1 q)
      (solve o h.ring (at (o.num 0) (x ∷ o.num d ∷ [])) (Mul (K 1) (Mul (V 0) (V 1))) (Mul (Mul (V 1) (K 1)) (V 0)) refl))
