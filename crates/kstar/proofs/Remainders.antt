-- Tests of remainders.
use Rattle.std.proofs.Common.{◌≡◌, FitsSigned, ◌∙◌, ℕ, ◌<◌, ◌%◌, ◌-◌, ap, sym, ℤ, pos, negsuc, ◌*ℤ◌, of_z, true, false, eqb, w32, arith}
use Rattle.std.specs.Int.{Width, int_rem_euclid}
use Rattle.std.specs.Int.RustNames.{int_rem}
use Rattle.std.proofs.lemmas.Int.{to_z-of_z}
use Rattle.algebra.specs.MultipleLaws.{multiple-int_rem}
use Rattle.algebra.specs.PassedLaws.{passed}

is_zero : (n : ℕ) → eqb n 0 ≡ true → n ≡ 0
is_zero n e = grind arith

zero_of : (w : Width) (x : ℤ) (d : ℕ) → eqb (of_z w (int_rem_euclid x (pos d))) 0 ≡ true → int_rem_euclid x (pos d) ≡ pos 0
zero_of w (pos a) d e = ap pos (is_zero (a % d) e)
zero_of w (negsuc a) d e = ap pos (is_zero (d - 1 - a % d) e)

rem_is : (w : Width) (x r : ℤ) (d : ℕ) → FitsSigned w x → r ≡ int_rem_euclid (passed w x) (pos d) → r ≡ int_rem_euclid x (pos d)
rem_is w x r d f e = e ∙ ap (λ y. int_rem_euclid y (pos d)) (to_z-of_z w x f)

-- the remainder is 0 where the test says so
pub rem_yes : (w : Width) (x r : ℤ) (d : ℕ) → FitsSigned w x → r ≡ int_rem_euclid (passed w x) (pos d) → eqb (of_z w r) 0 ≡ true → int_rem_euclid x (pos d) ≡ pos 0
rem_yes w x r d f e t = zero_of w x d (sym (ap (λ y. eqb (of_z w y) 0) (rem_is w x r d f e)) ∙ t)

pub rem_no : (w : Width) (x r : ℤ) (d : ℕ) → FitsSigned w x → r ≡ int_rem_euclid (passed w x) (pos d) → eqb (of_z w r) 0 ≡ false → int_rem_euclid x (pos d) ≡ pos 0 → ⊥
rem_no w x r d f e t z =
    let k : true ≡ false = sym (ap (λ y. eqb (of_z w y) 0) (rem_is w x r d f e ∙ z)) ∙ t in
    cc

-- the code's remainder of a multiple is 0
pub multiple-rem_code : (x n r : ℤ) (d : ℕ) → 0 < d → FitsSigned w32 n → FitsSigned w32 r → r ≡ pos d → x *ℤ pos d ≡ n → of_z w32 (int_rem (passed w32 n) (passed w32 r)) ≡ 0
multiple-rem_code x n r d l f g e h =
    (λ i. of_z w32 (int_rem (to_z-of_z w32 n f i) ((to_z-of_z w32 r g ∙ e) i))) ∙ ap (of_z w32) (multiple-int_rem x n d l h)
