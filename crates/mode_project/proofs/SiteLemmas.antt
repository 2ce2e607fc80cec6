use Rattle.std.proofs.Common.{◌≡◌, ℕ, suc, zero, ◌<◌, ◌||◌, Bool, true, false, refl, sym, ◌∙◌, ap, arith, List, [], ◌∷◌, length, nat_eq}
use Rattle.std.specs.Prelude.{slice_index_or}
use Rattle.lin_alg.specs.EquationLaws.{eq-self}
use Rattle.lin_alg.specs.Reduced.{is_pivot}

module _ {V : Type 0} where
  pub pivot-none : (p : ℕ) (rows : List (ℕ × V)) (n : ℕ × V) → ((k : ℕ) → k < length rows → nat_eq p (slice_index_or rows k n).0 ≡ false) → is_pivot p rows ≡ false
  pivot-none p [] n h = refl
  pivot-none p (r ∷ rows) n h = λ i. h 0 (omega arith) i || pivot-none p rows n (λ k l. h (suc k) (omega (arith, l))) i

  or-true : (p : ℕ) (r : ℕ × V) (rows : List (ℕ × V)) → is_pivot p rows ≡ true → is_pivot p (r ∷ rows) ≡ true
  or-true p r rows h = ap (λ b. nat_eq p r.0 || b) h ∙ right (nat_eq p r.0)
    where
      right : (b : Bool) → (b || true) ≡ true
      right true = refl
      right false = refl

  pub pivot-some : (p : ℕ) (rows : List (ℕ × V)) (n : ℕ × V) (k : ℕ) → k < length rows → p ≡ (slice_index_or rows k n).0 → is_pivot p rows ≡ true
  pivot-some p [] n k l e = absurd (omega (arith, l))
  pivot-some p (r ∷ rows) n zero l e = ap (λ b. b || is_pivot p rows) (ap (nat_eq p) (sym e) ∙ eq-self p)
  pivot-some p (r ∷ rows) n (suc k) l e = or-true p r rows (pivot-some p rows n k (omega (arith, l)) e)
