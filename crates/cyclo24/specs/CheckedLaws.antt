-- What the test for wide numbers says, and checked computations one after another.
--
-- below_wide, at_least_wide, narrow_abs: is_wide by the absolute value
-- then_ok, then_err, answer_give: the answer of a computation in steps
-- quotient_below: a quotient is no larger
-- answer_ok, answer_err: what an answer says of the written numbers
use Rattle.std.proofs.Common.{◌≡◌, ℕ, ◌^◌, ◌<◌, ◌≤◌, Bool, true, false, arith, ℤ, refl, le_trans, lit≤, List, [], ◌∷◌, ◌++◌, ap, ◌∙◌, sym, Result, Ok, Err, cond}
use Rattle.std.specs.Prelude.{FitsSigned, ◌||◌, pos, negsuc, ◌-ℤ◌, ◌+ℤ◌, neg_ℤ, suc, ◌/◌}
use Rattle.std.proofs.lemmas.Int.{ints, to_z-of_z, to_z_pos}
use Rattle.std.proofs.Common.{to_z, of_z}
use Rattle.cyclo24.specs.Gcd.{gcd, quotient}
use Rattle.cyclo24.specs.GcdLaws.{gcd_below}
use Rattle.std.specs.Int.{w64, w128}
use Rattle.std.proofs.lemmas.Int.{fits_signed_from_abs}
use Rattle.std.proofs.lemmas.Bool.Decides.{nat_tests}
use Rattle.std.specs.Int.RustNames.{unsigned_abs}
use Rattle.cyclo24.specs.declared.field.Wide.{Wide}
use Rattle.cyclo24.specs.declared.whole.Whole.{Whole}
use Rattle.cyclo24.specs.Checked.{is_wide, any_wide, answer, Checked, then, give, written, plus, term, sum_from, sum_of}
use Rattle.cyclo24.specs.declared.whole.Product.{Product}
use Rattle.cyclo24.specs.BoolLaws.{or_left, or_right}
use Rattle.std.proofs.Math.Nat.{div-le_self}

pub below_wide : (z : ℤ) → unsigned_abs z < 2 ^ 126 → is_wide z ≡ false
unfolding is_wide
below_wide z h = grind (arith, nat_tests)

pub at_least_wide : (z : ℤ) → 2 ^ 126 ≤ unsigned_abs z → is_wide z ≡ true
unfolding is_wide
at_least_wide z h = grind (arith, nat_tests)

pub fits_from_narrow : (z : ℤ) → is_wide z ≡ false → FitsSigned w128 z
unfolding is_wide
fits_from_narrow z h = fits_signed_from_abs w128 z (let k : unsigned_abs z < 2 ^ 126 = grind (arith, nat_tests) in le_trans k (lit≤ tt))

by_bool : (b : Bool) → (b ≡ false → b ≡ true) → b ≡ true
by_bool true f = refl
by_bool false f = f refl

-- what does not fit is wide
pub wide_unless_fits : (z : ℤ) → ¬ (FitsSigned w128 z) → is_wide z ≡ true
wide_unless_fits z h = by_bool (is_wide z) (λ e. absurd (h (fits_from_narrow z e)))

pub wide_answer : (z : ℤ) → ¬ (FitsSigned w128 z) → answer (written z) ≡ Err (record {})
unfolding answer
wide_answer z h = let k = wide_unless_fits z h in grind arith

pub narrow_answer : (z : ℤ) → unsigned_abs z < 2 ^ 126 → answer (written z) ≡ Ok (record { n = z })
unfolding answer
narrow_answer z h = let k = below_wide z h in grind arith

pub wide_answer_by_size : (z : ℤ) → 2 ^ 126 ≤ unsigned_abs z → answer (written z) ≡ Err (record {})
unfolding answer
wide_answer_by_size z h = let k = at_least_wide z h in grind arith

or_assoc : (a b c : Bool) → (a || (b || c)) ≡ ((a || b) || c)
or_assoc a b c = grind arith

pub any_wide-append : (xs ys : List ℤ) → any_wide (xs ++ ys) ≡ (any_wide xs || any_wide ys)
any_wide-append [] ys = refl
any_wide-append (x ∷ xs) ys = ap (λ b. is_wide x || b) (any_wide-append xs ys) ∙ or_assoc (is_wide x) (any_wide xs) (any_wide ys)

abbrev pick : {A : Type 0} → Bool → A → Result A Wide
pick b a = cond b (Err (record {})) (Ok a)

ok_from : {A : Type 0} (b : Bool) (a x : A) → pick b a ≡ Ok x → (b ≡ false) × (a ≡ x)
ok_from true a x e = absurd (cc)
ok_from false a x e = (refl, cc)

err_from : {A : Type 0} (b : Bool) (a : A) (w : Wide) → pick b a ≡ Err w → b ≡ true
err_from true a w e = refl
err_from false a w e = absurd (cc)

-- after a computation that gave a value
pub answer_then_ok : {A B : Type 0} (m : Checked A) (f : A → Checked B) (x : A) → answer m ≡ Ok x → answer (then m f) ≡ answer (f x)
unfolding answer then
answer_then_ok m f x e =
    let h = ok_from (any_wide m.written) m.value x e in
    ap (λ b. pick b (f m.value).value) (any_wide-append m.written (f m.value).written ∙ ap (λ b. b || any_wide (f m.value).written) h.0)
    ∙ ap (λ y. pick (any_wide (f y).written) (f y).value) h.1

-- after one that gave none
pub answer_then_err : {A B : Type 0} (m : Checked A) (f : A → Checked B) (w : Wide) → answer m ≡ Err w → answer (then m f) ≡ Err w
unfolding answer then
answer_then_err m f w e =
    ap (λ b. pick b (f m.value).value) (any_wide-append m.written (f m.value).written ∙ ap (λ b. b || any_wide (f m.value).written) (err_from (any_wide m.written) m.value w e))

pub answer_give : {A : Type 0} (a : A) → answer (give a) ≡ Ok a
unfolding answer
answer_give a = refl

-- the same, by what calls returned
pub then_ok : {A B : Type 0} (m : Checked A) (f : A → Checked B) {x : A} {r : Result A Wide} {q : Result B Wide} → r ≡ answer m → r ≡ Ok x → q ≡ answer (f x) → q ≡ answer (then m f)
then_ok m f {x = x} p w k = k ∙ sym (answer_then_ok m f x (sym p ∙ w))

pub then_err : {A B : Type 0} (m : Checked A) (f : A → Checked B) {w : Wide} {r : Result A Wide} {q : Result B Wide} → r ≡ answer m → r ≡ Err w → q ≡ Err w → q ≡ answer (then m f)
then_err m f {w = w} p e k = k ∙ sym (answer_then_err m f w (sym p ∙ e))

pub narrow_abs : (z : ℤ) → is_wide z ≡ false → unsigned_abs z < 2 ^ 126
unfolding is_wide
narrow_abs z h = grind (arith, nat_tests)

pub negated_fits : (z : ℤ) → is_wide z ≡ false → FitsSigned w128 (pos 0 -ℤ z)
negated_fits z h = fits_signed_from_abs w128 (pos 0 -ℤ z) (omega (arith, ints, narrow_abs z h))

pub minus_is : (z : ℤ) → pos 0 -ℤ z ≡ neg_ℤ z
minus_is z = omega (arith, ints)

back : (z : ℤ) → is_wide z ≡ false → to_z w128 (of_z w128 z) ≡ z
back z h = to_z-of_z w128 z (fits_from_narrow z h)

pub negated_is : (z : ℤ) → is_wide z ≡ false → to_z w128 (of_z w128 (pos 0 -ℤ to_z w128 (of_z w128 z))) ≡ neg_ℤ z
negated_is z h = ap (λ (y : ℤ). to_z w128 (of_z w128 (pos 0 -ℤ y))) (back z h) ∙ to_z-of_z w128 (pos 0 -ℤ z) (negated_fits z h) ∙ minus_is z

-- what is computed from the bits of two narrow numbers
pub common_is : (a b : ℤ) (p q r : ℕ) → is_wide a ≡ false → is_wide b ≡ false → r ≡ gcd p q → p ≡ unsigned_abs (to_z w128 (of_z w128 a)) → q ≡ unsigned_abs (to_z w128 (of_z w128 b)) → r ≡ gcd (unsigned_abs a) (unsigned_abs b)
common_is a b p q r h k e f g = cc (e, f, g, back a h, back b k)

pub common_below : (a b : ℤ) → is_wide a ≡ false → is_wide b ≡ false → gcd (unsigned_abs a) (unsigned_abs b) < 2 ^ 126
common_below a b h k = gcd_below (unsigned_abs a) (unsigned_abs b) (2 ^ 126) (narrow_abs a h) (narrow_abs b k)

pub small_fits : (n : ℕ) → n < 2 ^ 126 → FitsSigned w128 (pos n)
small_fits n h = fits_signed_from_abs w128 (pos n) (le_trans h (lit≤ tt))

pub small_is : (n : ℕ) → n < 2 ^ 126 → to_z w128 n ≡ pos n
small_is n h = to_z_pos w128 n (le_trans h (lit≤ tt))

pub small_narrow : (n : ℕ) → n < 2 ^ 126 → is_wide (pos n) ≡ false
small_narrow n h = below_wide (pos n) h

pub answer_ok : {A : Type 0} (m : Checked A) (x : A) → answer m ≡ Ok x → (any_wide m.written ≡ false) × (m.value ≡ x)
unfolding answer
answer_ok m x e = ok_from (any_wide m.written) m.value x e

pub answer_err : {A : Type 0} (m : Checked A) (w : Wide) → answer m ≡ Err w → any_wide m.written ≡ true
unfolding answer
answer_err m w e = err_from (any_wide m.written) m.value w e

-- nothing wide was written in either part
pub then_narrow : {A B : Type 0} (m : Checked A) (f : A → Checked B) → any_wide (then m f).written ≡ false → (any_wide m.written ≡ false) × (any_wide (f m.value).written ≡ false)
unfolding then
then_narrow m f e = let h = sym (any_wide-append m.written (f m.value).written) ∙ e in (or_left (any_wide m.written) (any_wide (f m.value).written) h, or_right (any_wide m.written) (any_wide (f m.value).written) h)

pub written_narrow : (z : ℤ) → any_wide (written z).written ≡ false → is_wide z ≡ false
written_narrow z e = or_left (is_wide z) false e

negated : (n : ℕ) → unsigned_abs (neg_ℤ (pos n)) ≡ n
negated n = omega (arith, ints)

pub quotient_below : (z : ℤ) (g : ℕ) → unsigned_abs (quotient z g) ≤ unsigned_abs z
quotient_below (pos n) g = let h : n / g ≤ n = div-le_self n g in omega arith
quotient_below (negsuc n) g = let h : suc n / g ≤ suc n = div-le_self (suc n) g in omega (arith, ints, negated (suc n / g))

pub quotient_narrow : (z : ℤ) (g : ℕ) → is_wide z ≡ false → is_wide (quotient z g) ≡ false
quotient_narrow z g h = let k = quotient_below z g in below_wide (quotient z g) (omega (arith, narrow_abs z h))

pub neg_narrow : (z : ℤ) → is_wide z ≡ false → is_wide (neg_ℤ z) ≡ false
neg_narrow z h = let e : unsigned_abs (neg_ℤ z) ≡ unsigned_abs z = omega (arith, ints) in below_wide (neg_ℤ z) (omega (arith, narrow_abs z h))

pub sum_from_narrow : (s : Whole) (ps : List Product) → is_wide s.n ≡ false → any_wide (sum_from s ps).written ≡ false → is_wide (sum_from s ps).value.n ≡ false
unfolding sum_from then
sum_from_narrow s [] h e = h
sum_from_narrow s (p ∷ ps) h e =
    let a = then_narrow (term p) (λ x. then (plus s x) (λ r. sum_from r ps)) e in
    let b = then_narrow (plus s (term p).value) (λ r. sum_from r ps) a.1 in
    sum_from_narrow (plus s (term p).value).value ps (written_narrow (s.n +ℤ (term p).value.n) b.0) b.1

-- a sum that is answered is narrow
pub sum_of_narrow : (ps : List Product) → any_wide (sum_of ps).written ≡ false → is_wide (sum_of ps).value.n ≡ false
sum_of_narrow ps e = sum_from_narrow (record { n = pos 0 }) ps (below_wide (pos 0) (lit≤ tt)) e

-- one product after the others
pub sum_step : (s v r : Whole) (p : Product) (ps : List Product) → answer (term p) ≡ Ok v → answer (plus s v) ≡ Ok r → answer (sum_from s (p ∷ ps)) ≡ answer (sum_from r ps)
unfolding sum_from
sum_step s v r p ps e f = answer_then_ok (term p) (λ x. then (plus s x) (λ r. sum_from r ps)) v e ∙ answer_then_ok (plus s v) (λ r. sum_from r ps) r f

pub sum_err_term : (s : Whole) (w : Wide) (p : Product) (ps : List Product) → answer (term p) ≡ Err w → answer (sum_from s (p ∷ ps)) ≡ Err w
unfolding sum_from
sum_err_term s w p ps e = answer_then_err (term p) (λ x. then (plus s x) (λ r. sum_from r ps)) w e

pub sum_err_plus : (s v : Whole) (w : Wide) (p : Product) (ps : List Product) → answer (term p) ≡ Ok v → answer (plus s v) ≡ Err w → answer (sum_from s (p ∷ ps)) ≡ Err w
unfolding sum_from
sum_err_plus s v w p ps e f = answer_then_ok (term p) (λ x. then (plus s x) (λ r. sum_from r ps)) v e ∙ answer_then_err (plus s v) (λ r. sum_from r ps) w f

-- no more products
pub sum_end : (s : Whole) → answer (sum_from s []) ≡ Ok s
unfolding sum_from
sum_end s = answer_give s

-- numbers of 64 bits
pub narrow64 : (z : ℤ) → FitsSigned w64 z → is_wide z ≡ false
narrow64 (pos n) h = below_wide (pos n) (le_trans h.sfits (lit≤ tt))
narrow64 (negsuc n) h = below_wide (negsuc n) (omega (arith, h.sfits))

pub kept64 : (z : ℤ) → FitsSigned w64 z → is_wide (to_z w128 (of_z w128 (to_z w64 (of_z w64 z)))) ≡ false
kept64 z h = ap (λ (y : ℤ). is_wide (to_z w128 (of_z w128 y))) (to_z-of_z w64 z h) ∙ ap is_wide (to_z-of_z w128 z (fits_from_narrow z (narrow64 z h))) ∙ narrow64 z h

pub kept128 : (z : ℤ) → FitsSigned w128 z → unsigned_abs z < 2 ^ 126 → is_wide (to_z w128 (of_z w128 z)) ≡ false
kept128 z h k = ap is_wide (to_z-of_z w128 z h) ∙ below_wide z k
