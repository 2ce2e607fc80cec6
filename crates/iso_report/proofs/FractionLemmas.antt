-- Twelfths in lowest terms.
use Rattle.std.proofs.Common.{◌≡◌, refl, sym, ap, ◌∙◌, ℕ, zero, suc, ◌+◌, ◌*◌, Bool, true, false, if◌then◌else◌, ◌==◌, neg_ℤ, eq-eqb, ne_eqb, ◌/◌, ◌%◌, ◌<◌, ℤ, pos, negsuc, ◌*ℤ◌, unsigned_abs, arith}
use Rattle.std.specs.Int.{IsGcd}
use Rattle.std.proofs.lemmas.Int.{unsigned_abs-mul}
use Rattle.std.proofs.Math.IntN.{pos-*ℤ-pos, negsuc-*ℤ-pos}
use Rattle.std.proofs.Math.Nat.{mod-eq_of_lt, suc-mul}
use Rattle.std.proofs.lemmas.Nat.Gcd.{dvd_of_mod-eq-zero, mod-eq-zero_of_dvd}
use Rattle.algebra.specs.DivisorLaws.{divides}
use Rattle.iso_text.specs.Fractions.{IsLowest}
use Rattle.iso_text.specs.declared.numbers.Frac.{Frac}
use Rattle.kstar.specs.declared.wave_vector.KVector.{KVector}
use Rattle.kstar.specs.Fraction.{part_of, IsLowestRow}
use Rattle.space_ops.specs.Matrix.{Vector}
use Rattle.space_ops.specs.OpText.{common_with_twelve, fraction_text}
use Rattle.std.specs.Prelude.{◌++◌, codes}
use Rattle.report_steps.specs.Fractions.{minus_text, frac_text, edges_text, row_text}

if-true : (b : Bool) (x y : ℕ) → b ≡ true → (if b then x else y) ≡ x
if-true true x y e = refl
if-true false x y e = cc

if-false : (b : Bool) (x y : ℕ) → b ≡ false → (if b then x else y) ≡ y
if-false true x y e = cc
if-false false x y e = refl

-- the divisor m of n, else y
abbrev or_else : ℕ → ℕ → ℕ → ℕ
or_else n m y = if n % m == 0 then m else y

yes : (n m y : ℕ) → n % m ≡ 0 → or_else n m y ≡ m
yes n m y e = if-true (n % m == 0) m y (eq-eqb (n % m) 0 e)

no : (n m y : ℕ) → (n % m ≡ 0 → ⊥) → or_else n m y ≡ y
no n m y d = if-false (n % m == 0) m y (ne_eqb (n % m) 0 d)

abbrev from-2 : ℕ → ℕ
from-2 n = or_else n 2 1

abbrev from-3 : ℕ → ℕ
from-3 n = or_else n 3 (from-2 n)

abbrev from-4 : ℕ → ℕ
from-4 n = or_else n 4 (from-3 n)

abbrev from-6 : ℕ → ℕ
from-6 n = or_else n 6 (from-4 n)

common-12 : (n : ℕ) → n % 12 ≡ 0 → common_with_twelve n ≡ 12
common-12 n a = yes n 12 (from-6 n) a

common-6 : (n : ℕ) → (n % 12 ≡ 0 → ⊥) → n % 6 ≡ 0 → common_with_twelve n ≡ 6
common-6 n a b = no n 12 (from-6 n) a ∙ yes n 6 (from-4 n) b

common-4 : (n : ℕ) → (n % 12 ≡ 0 → ⊥) → (n % 6 ≡ 0 → ⊥) → n % 4 ≡ 0 → common_with_twelve n ≡ 4
common-4 n a b c = no n 12 (from-6 n) a ∙ no n 6 (from-4 n) b ∙ yes n 4 (from-3 n) c

common-3 : (n : ℕ) → (n % 12 ≡ 0 → ⊥) → (n % 6 ≡ 0 → ⊥) → (n % 4 ≡ 0 → ⊥) → n % 3 ≡ 0 → common_with_twelve n ≡ 3
common-3 n a b c d = no n 12 (from-6 n) a ∙ no n 6 (from-4 n) b ∙ no n 4 (from-3 n) c ∙ yes n 3 (from-2 n) d

common-2 : (n : ℕ) → (n % 12 ≡ 0 → ⊥) → (n % 6 ≡ 0 → ⊥) → (n % 4 ≡ 0 → ⊥) → (n % 3 ≡ 0 → ⊥) → n % 2 ≡ 0 → common_with_twelve n ≡ 2
common-2 n a b c d e = no n 12 (from-6 n) a ∙ no n 6 (from-4 n) b ∙ no n 4 (from-3 n) c ∙ no n 3 (from-2 n) d ∙ yes n 2 1 e

common-1 : (n : ℕ) → (n % 12 ≡ 0 → ⊥) → (n % 6 ≡ 0 → ⊥) → (n % 4 ≡ 0 → ⊥) → (n % 3 ≡ 0 → ⊥) → (n % 2 ≡ 0 → ⊥) → common_with_twelve n ≡ 1
common-1 n a b c d e = no n 12 (from-6 n) a ∙ no n 6 (from-4 n) b ∙ no n 4 (from-3 n) c ∙ no n 3 (from-2 n) d ∙ no n 2 1 e

-- what is below m leaves itself
one-mod : (m : ℕ) → 1 < m → 1 % m ≡ 0 → ⊥
one-mod m l h = let e : 1 % m ≡ 1 = mod-eq_of_lt l in absurd (omega (arith, e, h))

large : (m k : ℕ) → 0 < m → m < k → m % k ≡ 0 → ⊥
large m k s l h = let e : m % k ≡ m = mod-eq_of_lt l in absurd (omega (arith, e, h, s))

-- coprime to d: not both multiples of m
apart : (a d m : ℕ) → IsGcd a d 1 → 1 < m → d % m ≡ 0 → a % m ≡ 0 → ⊥
apart a d m g l e f =
    let h : 1 % m ≡ 0 = mod-eq-zero_of_dvd m (g.2 m (dvd_of_mod-eq-zero m f) (dvd_of_mod-eq-zero m e)) in
    one-mod m l h

-- the parts of n twelfths in lowest terms
abbrev AreParts : ℕ → ℕ → ℕ → Type 0
AreParts n a d = (n / common_with_twelve n ≡ a) × (12 / common_with_twelve n ≡ d)

parts-by : (n a d g : ℕ) → common_with_twelve n ≡ g → n / g ≡ a → 12 / g ≡ d → AreParts n a d
parts-by n a d g e f h = (ap (λ t. n / t) e ∙ f, ap (λ t. 12 / t) e ∙ h)

parts : (n a d : ℕ) → IsGcd a d 1 → 12 % d ≡ 0 → a * 12 ≡ n * d → AreParts n a d
parts n a zero g t e = absurd (omega arith)
parts n a (suc zero) g t e = parts-by n a 1 12 (common-12 n (omega arith)) (omega arith) refl
parts n a (suc (suc zero)) g t e =
    let odd : a % 2 ≡ 0 → ⊥ = apart a 2 2 g (omega arith) refl in
    parts-by n a 2 6 (common-6 n (λ h. odd (omega arith)) (omega arith)) (omega arith) refl
parts n a (suc (suc (suc zero))) g t e =
    let third : a % 3 ≡ 0 → ⊥ = apart a 3 3 g (omega arith) refl in
    parts-by n a 3 4 (common-4 n (λ h. third (omega arith)) (λ h. third (omega arith)) (omega arith)) (omega arith) refl
parts n a (suc (suc (suc (suc zero)))) g t e =
    let odd : a % 2 ≡ 0 → ⊥ = apart a 4 2 g (omega arith) refl in
    parts-by n a 4 3 (common-3 n (λ h. odd (omega arith)) (λ h. odd (omega arith)) (λ h. odd (omega arith)) (omega arith)) (omega arith) refl
parts n a (suc (suc (suc (suc (suc zero))))) g t e = absurd (omega arith)
parts n a (suc (suc (suc (suc (suc (suc zero)))))) g t e =
    let odd : a % 2 ≡ 0 → ⊥ = apart a 6 2 g (omega arith) refl in
    let third : a % 3 ≡ 0 → ⊥ = apart a 6 3 g (omega arith) refl in
    parts-by n a 6 2 (common-2 n (λ h. odd (omega arith)) (λ h. third (omega arith)) (λ h. odd (omega arith)) (λ h. third (omega arith)) (omega arith)) (omega arith) refl
parts n a (suc (suc (suc (suc (suc (suc (suc zero))))))) g t e = absurd (omega arith)
parts n a (suc (suc (suc (suc (suc (suc (suc (suc zero)))))))) g t e = absurd (omega arith)
parts n a (suc (suc (suc (suc (suc (suc (suc (suc (suc zero))))))))) g t e = absurd (omega arith)
parts n a (suc (suc (suc (suc (suc (suc (suc (suc (suc (suc zero)))))))))) g t e = absurd (omega arith)
parts n a (suc (suc (suc (suc (suc (suc (suc (suc (suc (suc (suc zero))))))))))) g t e = absurd (omega arith)
parts n a (suc (suc (suc (suc (suc (suc (suc (suc (suc (suc (suc (suc zero)))))))))))) g t e =
    let odd : a % 2 ≡ 0 → ⊥ = apart a 12 2 g (omega arith) refl in
    let third : a % 3 ≡ 0 → ⊥ = apart a 12 3 g (omega arith) refl in
    parts-by n a 12 1 (common-1 n (λ h. odd (omega arith)) (λ h. odd (omega arith)) (λ h. odd (omega arith)) (λ h. third (omega arith)) (λ h. odd (omega arith))) (omega arith) refl
parts n a (suc (suc (suc (suc (suc (suc (suc (suc (suc (suc (suc (suc (suc d))))))))))))) g t e =
    absurd (large 12 (suc (suc (suc (suc (suc (suc (suc (suc (suc (suc (suc (suc (suc d))))))))))))) (omega arith) (omega arith) t)

pos-neg : (m n : ℕ) → pos m ≡ neg_ℤ (pos (suc n)) → ⊥
pos-neg m n e = cc

product_suc : (n d : ℕ) → 0 < d → (k : ℕ) × (suc n * d ≡ suc k)
product_suc n zero some = absurd (omega arith)
product_suc n (suc d) some = (n * suc d + d, omega (arith, suc-mul n (suc d)))

opposite : (a b c d : ℕ) → 0 < d → pos a *ℤ pos c ≡ negsuc b *ℤ pos d → ⊥
opposite a b c d l e =
    let k = product_suc b d l in
    pos-neg (a * c) k.0 (sym (pos-*ℤ-pos a c) ∙ e ∙ negsuc-*ℤ-pos b d ∙ ap (λ t. neg_ℤ (pos t)) k.1)

sign-same : (x z : ℤ) (d : ℕ) → 0 < d → x *ℤ pos 12 ≡ z *ℤ pos d → minus_text x ≡ minus_text z
sign-same (pos a) (pos b) d l e = refl
sign-same (negsuc a) (negsuc b) d l e = refl
sign-same (pos a) (negsuc b) d l e = absurd (opposite a b 12 d l e)
sign-same (negsuc a) (pos b) d l e = absurd (opposite b a d 12 (omega arith) (sym e))

-- a fraction that is t twelfths in lowest terms
pub edges-is : (t : ℤ) (f : Frac) → IsLowest t 12 f → frac_text f ≡ edges_text t
edges-is t f low =
    let n = unsigned_abs t in
    let a = unsigned_abs f.num in
    let e : a * 12 ≡ n * f.den = sym (unsigned_abs-mul f.num (pos 12)) ∙ ap unsigned_abs low.same ∙ unsigned_abs-mul t (pos f.den) in
    let p = parts n a f.den low.coprime (mod-eq-zero_of_dvd f.den (divides a f.den n 12 (omega arith) low.coprime e)) e in
    (λ i. sign-same f.num t f.den low.positive low.same i ++ fraction_text (sym p.0 i) (sym p.1 i))

-- a wave vector that is a row in lowest terms
pub row-is : (row : Vector ℤ) (k : KVector) → IsLowestRow row k
    → frac_text (part_of k 0) ++ codes " " ++ frac_text (part_of k 1) ++ codes " " ++ frac_text (part_of k 2) ≡ row_text row
row-is row k low =
    λ i. edges-is row.x (part_of k 0) low.first i ++ codes " " ++ edges-is row.y (part_of k 1) low.second i ++ codes " " ++ edges-is row.z (part_of k 2) low.third i
