-- Products of numbers that were passed by value, in a width that holds them; multiples by their remainders.
use Rattle.std.proofs.Common.{◌≡◌, sym, ap, ◌∙◌, subst, ℕ, suc, ◌%◌, ◌/◌, ℤ, pos, negsuc, ◌*ℤ◌, unsigned_abs, FitsSigned, to_z, of_z, arith}
use Rattle.std.proofs.lemmas.Int.{to_z-of_z, unsigned_abs-mul}
use Rattle.std.proofs.Math.IntN.{pos-*ℤ-pos}
use Rattle.std.proofs.Math.Nat.{div-add-mod, mul-mod_right}
use Rattle.std.specs.Int.{Width}
use Rattle.algebra.specs.Multiples.{IsMultiple}
use Rattle.algebra.specs.MultipleLaws.{multiple_minus}
use Rattle.space_ops.specs.Op.{IsWithin}

-- p and q are a and x
module _ (w : Width) (p q a x : ℤ) (e : p ≡ a) (f : q ≡ x) (h : FitsSigned w (a *ℤ x)) where
  pub product_fits : FitsSigned w (p *ℤ q)
  product_fits = subst (FitsSigned w) (λ i. sym e i *ℤ sym f i) h

  pub product_value : to_z w (of_z w (p *ℤ q)) ≡ a *ℤ x
  product_value = ap (λ k. to_z w (of_z w k)) (λ i. e i *ℤ f i) ∙ to_z-of_z w (a *ℤ x) h

  pub product_near : (n : ℕ) → IsWithin n (a *ℤ x) → IsWithin n (to_z w (of_z w (p *ℤ q)))
  product_near n k = subst (IsWithin n) (sym product_value) k

natural_multiple : (n a : ℕ) → a % n ≡ 0 → IsMultiple n (pos a)
natural_multiple n a e = record { quotient = pos (a / n); is = ap pos (omega (arith, e, div-add-mod a n)) ∙ sym (pos-*ℤ-pos n (a / n)) }

pub multiple_of_rem : (n : ℕ) (x : ℤ) → unsigned_abs x % n ≡ 0 → IsMultiple n x
multiple_of_rem n (pos a) e = natural_multiple n a e
multiple_of_rem n (negsuc a) e = multiple_minus n (pos (suc a)) (natural_multiple n (suc a) e)

pub rem_of_multiple : (n : ℕ) (x : ℤ) → IsMultiple n x → unsigned_abs x % n ≡ 0
rem_of_multiple n x h = ap (λ k. k % n) (ap unsigned_abs h.is ∙ unsigned_abs-mul (pos n) h.quotient) ∙ mul-mod_right n (unsigned_abs h.quotient)
