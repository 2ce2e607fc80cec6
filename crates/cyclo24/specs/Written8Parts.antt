-- Conjugates and parts of eight numerators over a denominator, before lowest terms.
--
-- conjugate, real, imaginary: the formulas; from_four: a real number as one of the cyclotomic field
use Rattle.std.specs.Prelude.{ℤ, pos, negsuc, [], ◌∷◌}
use Rattle.cyclo24.specs.declared.whole.Whole.{Whole}
use Rattle.cyclo24.specs.declared.fraction4.Fraction4.{Fraction4}
use Rattle.cyclo24.specs.declared.fraction8.Fraction8.{Fraction8}
use Rattle.cyclo24.specs.Written4.{fraction}
use Rattle.cyclo24.specs.Checked.{Checked, then, give, times, plus}
use Rattle.cyclo24.specs.Written8.{num, dot}

-- the sum of two numbers with signs
abbrev pub signed : ℤ → Whole → ℤ → Whole → Checked Whole
signed f x g y = dot (num f ∷ num g ∷ []) (x ∷ y ∷ [])

-- the conjugate, over d
unfoldable pub conjugate : Fraction8 → Checked Fraction8
conjugate a =
    then (plus a.c0 a.c4) (λ c0.
    then (times (num (negsuc 0)) a.c4) (λ c4.
    then (signed (negsuc 0) a.c3 (negsuc 0) a.c7) (λ c5.
    then (signed (negsuc 0) a.c2 (negsuc 0) a.c6) (λ c6.
    then (signed (negsuc 0) a.c1 (negsuc 0) a.c5) (λ c7.
    give (record { d = a.d; c0 = c0; c1 = a.c3; c2 = a.c2; c3 = a.c1; c4 = c4; c5 = c5; c6 = c6; c7 = c7 }))))))

-- the real part, over 4 d
unfoldable pub real : Fraction8 → Checked Fraction4
real a =
    fraction
    (signed (pos 4) a.c0 (pos 2) a.c4)
    (dot (num (pos 1) ∷ num (pos 2) ∷ num (negsuc 0) ∷ num (pos 1) ∷ []) (a.c1 ∷ a.c3 ∷ a.c5 ∷ a.c7 ∷ []))
    (times (num (pos 2)) a.c2)
    (dot (num (pos 1) ∷ num (pos 1) ∷ num (negsuc 0) ∷ []) (a.c1 ∷ a.c5 ∷ a.c7 ∷ []))
    (times (num (pos 4)) a.d)

-- the imaginary part, over 4 d
unfoldable pub imaginary : Fraction8 → Checked Fraction4
imaginary a =
    fraction
    (signed (pos 2) a.c2 (pos 4) a.c6)
    (dot (num (negsuc 0) ∷ num (pos 2) ∷ num (pos 1) ∷ num (pos 1) ∷ []) (a.c1 ∷ a.c3 ∷ a.c5 ∷ a.c7 ∷ []))
    (times (num (pos 2)) a.c4)
    (dot (num (pos 1) ∷ num (pos 1) ∷ num (pos 1) ∷ []) (a.c1 ∷ a.c5 ∷ a.c7 ∷ []))
    (times (num (pos 4)) a.d)

-- a real number, over d
unfoldable pub from_four : Fraction4 → Checked Fraction8
from_four a =
    then (plus a.a1 a.a3) (λ c1.
    then (times (num (pos 2)) a.a2) (λ c2.
    then (signed (negsuc 0) a.a1 (pos 1) a.a3) (λ c5.
    then (times (num (negsuc 0)) a.a2) (λ c6.
    then (times (num (negsuc 1)) a.a3) (λ c7.
    give (record { d = a.d; c0 = a.a0; c1 = c1; c2 = c2; c3 = c1; c4 = num (pos 0); c5 = c5; c6 = c6; c7 = c7 }))))))
