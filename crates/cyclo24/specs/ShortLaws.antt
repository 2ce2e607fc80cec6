-- Sums of short products, in which no written number is wide.
--
-- then_all, times_narrow, short_narrow: nothing wide is written
-- short_most: the size of a sum of short products
use Rattle.std.proofs.Common.{◌≡◌, ℕ, ◌+◌, ◌*◌, ◌^◌, ◌<◌, ◌≤◌, Bool, false, arith, ℤ, pos, ◌+ℤ◌, ◌*ℤ◌, refl, lit≤, List, [], ◌∷◌, length, ◌∙◌}
use Rattle.std.specs.Prelude.{◌||◌}
use Rattle.std.specs.Int.RustNames.{unsigned_abs}
use Rattle.cyclo24.specs.declared.whole.Whole.{Whole}
use Rattle.cyclo24.specs.declared.whole.Product.{Product}
use Rattle.cyclo24.specs.Checked.{is_wide, any_wide, Checked, then, written, times, plus, term, sum_from, sum_of}
use Rattle.cyclo24.specs.CheckedLaws.{below_wide, any_wide-append}
use Rattle.cyclo24.specs.SmallLaws.{times_most, factor_most, sum_most}
use Rattle.cyclo24.specs.Short.{IsShortProduct, AreShort, more}

or_false : (a b : Bool) → a ≡ false → b ≡ false → (a || b) ≡ false
or_false a b e f = cc

narrow_by : (z : ℤ) (k : ℕ) → unsigned_abs z ≤ k → k < 2 ^ 126 → is_wide z ≡ false
narrow_by z k h l = below_wide z (omega (arith, h, l))

-- a number that isn't wide is written
pub written_all : (z : ℤ) (k : ℕ) → unsigned_abs z ≤ k → k < 2 ^ 126 → any_wide (written z).written ≡ false
written_all z k h l = or_false (is_wide z) false (narrow_by z k h l) refl

pub then_all : {A B : Type 0} (m : Checked A) (f : A → Checked B) → any_wide m.written ≡ false → any_wide (f m.value).written ≡ false → any_wide (then m f).written ≡ false
unfolding then
then_all m f e g = any_wide-append m.written (f m.value).written ∙ or_false (any_wide m.written) (any_wide (f m.value).written) e g

pub times_narrow : (x y : Whole) → unsigned_abs x.n ≤ 2 ^ 28 → unsigned_abs y.n ≤ 2 ^ 28 → any_wide (times x y).written ≡ false
times_narrow x y h k = written_all (x.n *ℤ y.n) (2 ^ 56) (times_most x.n y.n h k) (lit≤ tt)

term_size : (p : Product) → IsShortProduct p → unsigned_abs (term p).value.n ≤ 2 ^ 59
unfolding term then
term_size p h = let m = factor_most 8 p.factor.n (p.x.n *ℤ p.y.n) h.factor in omega (arith, m, times_most p.x.n p.y.n h.x h.y)

term_narrow : (p : Product) → IsShortProduct p → any_wide (term p).written ≡ false
unfolding term then
term_narrow p h = then_all (times p.x p.y) (λ xy. times p.factor xy) (times_narrow p.x p.y h.x h.y) (written_all (p.factor.n *ℤ (p.x.n *ℤ p.y.n)) (2 ^ 59) (term_size p h) (lit≤ tt))

sum_narrow : (s : Whole) (ps : List Product) → unsigned_abs s.n + length ps * 2 ^ 59 < 2 ^ 126 → AreShort ps → any_wide (sum_from s ps).written ≡ false
unfolding sum_from
sum_narrow s [] h a = refl
sum_narrow s (q ∷ qs) h (more p ps k a) =
    let v = (term p).value in
    let t : unsigned_abs v.n ≤ 2 ^ 59 = term_size p k in
    let r : unsigned_abs (s.n +ℤ v.n) + length ps * 2 ^ 59 < 2 ^ 126 = omega (arith, sum_most s.n v.n, t, h) in
    let small : is_wide (s.n +ℤ v.n) ≡ false = below_wide (s.n +ℤ v.n) (omega (arith, r)) in
    then_all (term p) (λ x. then (plus s x) (λ r. sum_from r ps)) (term_narrow p k)
    (then_all (plus s v) (λ r. sum_from r ps) (or_false (is_wide (s.n +ℤ v.n)) false small refl) (sum_narrow (plus s v).value ps r a))

-- in a sum of short products nothing wide is written
pub short_narrow : (ps : List Product) → length ps ≤ 8 → AreShort ps → any_wide (sum_of ps).written ≡ false
short_narrow ps h a = sum_narrow (record { n = pos 0 }) ps (omega (arith, h)) a

sum_size : (s : Whole) (ps : List Product) → AreShort ps → unsigned_abs (sum_from s ps).value.n ≤ unsigned_abs s.n + length ps * 2 ^ 59
unfolding sum_from then
sum_size s [] a = omega arith
sum_size s (q ∷ qs) (more p ps k a) =
    let v = (term p).value in
    let t : unsigned_abs v.n ≤ 2 ^ 59 = term_size p k in
    omega (arith, sum_most s.n v.n, t, sum_size (plus s v).value ps a)

pub short_most : (ps : List Product) → AreShort ps → unsigned_abs (sum_of ps).value.n ≤ length ps * 2 ^ 59
short_most ps a = omega (arith, sum_size (record { n = pos 0 }) ps a)
