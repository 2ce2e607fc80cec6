-- How many terms the text of a number has: as many as it has signs behind its first byte, and one more.
use Rattle.std.proofs.Common.{◌≡◌, refl, sym, ap, ◌∙◌, ℕ, ◌+◌, ◌<◌, ◌^◌, ◌/◌, ◌%◌, ℤ, pos, Bool, true, false, cond, List, [], ◌∷◌, ◌++◌, length, filter, nat_eq, arith, append_assoc}
use Rattle.std.specs.Prelude.{not, ◌&&◌, ◌||◌, drop, codes, decimal, nat_lt, nat_le, unsigned_abs, int_lt}
use Rattle.std.specs.List.{list_any}
use Rattle.std.specs.Ordering.{int_eq}
use Rattle.std.proofs.Math.Nat.{div-le_self}
use Rattle.std.proofs.lemmas.Fmt.{decimal_by_steps_wide}
use Rattle.std.proofs.lemmas.List.Folds.{list_any-append}
use Rattle.iso_text.specs.Cuts.{is_sign}
use Rattle.cyclo24.specs.Gcd.{gcd, all_zero}
use Rattle.cyclo24.specs.NumberText.{quotient_text, part_text, sign_text, signed_text, terms_text, number_text}

-- a text without a sign, and not empty
abbrev IsPlain : List ℕ → Type 0
IsPlain t = (list_any is_sign t ≡ false) × (0 < length t)

or-false : (a b : Bool) → a ≡ false → b ≡ false → (a || b) ≡ false
or-false a b e f = (λ i. e i || f i)

plain-append : (a b : List ℕ) → IsPlain a → list_any is_sign b ≡ false → IsPlain (a ++ b)
plain-append (x ∷ xs) b p q = (list_any-append is_sign (x ∷ xs) b ∙ or-false _ _ p.0 q, search (arith))
plain-append [] b p q = absurd (omega (arith, p.1))

digit : (n : ℕ) → n < 10 → is_sign (48 + n) ≡ false
digit n l = grind arith

decimal-plain : (n : ℕ) → n < 10 ^ 64 → IsPlain (decimal n)
decimal-plain n l =
    decimal_by_steps_wide (λ k ds. IsPlain ds) (λ k small. (or-false _ _ (digit k small) refl, omega arith))
    (λ k ds big p. plain-append ds ((48 + k % 10) ∷ []) p (or-false _ _ (digit (k % 10) (omega arith)) refl)) n l

quotient-plain : (n d : ℕ) → n < 10 ^ 64 → d < 10 ^ 64 → IsPlain (quotient_text n d)
quotient-plain n d l m = by (nat_eq d 1)
  where
    by : (b : Bool) → IsPlain (cond b (decimal n) (decimal n ++ codes "/" ++ decimal d))
    by true = decimal-plain n l
    by false = plain-append (decimal n ++ codes "/") (decimal d) (plain-append (decimal n) (codes "/") (decimal-plain n l) refl) (decimal-plain d m).0

some-length : (unit : List ℕ) → nat_eq (length unit) 0 ≡ false → 0 < length unit
some-length unit e = grind arith

parts-plain : (q unit : List ℕ) (a b : Bool) → IsPlain q → list_any is_sign unit ≡ false → (a ≡ false → 0 < length unit) → IsPlain (cond a q (cond b unit (q ++ codes "*" ++ unit)))
parts-plain q unit true b p u l = p
parts-plain q unit false true p u l = (u, l refl)
parts-plain q unit false false p u l = plain-append (q ++ codes "*") unit (plain-append q (codes "*") p refl) u

part-plain : (n d : ℕ) (unit : List ℕ) → n < 10 ^ 64 → d < 10 ^ 64 → list_any is_sign unit ≡ false → IsPlain (part_text n d unit)
unfolding part_text
part-plain n d unit l m p = parts-plain (quotient_text n d) unit (nat_eq (length unit) 0) (nat_eq n 1 && nat_eq d 1) (quotient-plain n d l m) p (some-length unit)

signed-none : (first : Bool) (d : ℕ) (z : ℤ) (unit : List ℕ) → int_eq z (pos 0) ≡ true → signed_text first d z unit ≡ []
unfolding signed_text
signed-none first d z unit e =
    let n = unsigned_abs z in ap (λ b. cond b [] (sign_text first z ++ part_text (n / gcd n d) (d / gcd n d) unit)) e

signed-some : (first : Bool) (d : ℕ) (z : ℤ) (unit : List ℕ) → int_eq z (pos 0) ≡ false
    → signed_text first d z unit ≡ sign_text first z ++ part_text (unsigned_abs z / gcd (unsigned_abs z) d) (d / gcd (unsigned_abs z) d) unit
unfolding signed_text
signed-some first d z unit e =
    let n = unsigned_abs z in ap (λ b. cond b [] (sign_text first z ++ part_text (n / gcd n d) (d / gcd n d) unit)) e

-- numerators of at most 64 digits, each with a unit without a sign
abbrev pub Fit : List ℤ → List (List ℕ) → Type 0
Fit [] units = Unit {0}
Fit (z ∷ zs) [] = ⊥
Fit (z ∷ zs) (unit ∷ units) = (unsigned_abs z < 10 ^ 64) × (list_any is_sign unit ≡ false) × Fit zs units

part-of : (d : ℕ) (z : ℤ) (unit : List ℕ) → d < 10 ^ 64 → unsigned_abs z < 10 ^ 64 → list_any is_sign unit ≡ false
    → IsPlain (part_text (unsigned_abs z / gcd (unsigned_abs z) d) (d / gcd (unsigned_abs z) d) unit)
part-of d z unit m l p =
    let n = unsigned_abs z in
    let a = div-le_self n (gcd n d) in
    let b = div-le_self d (gcd n d) in
    part-plain (n / gcd n d) (d / gcd n d) unit (omega (arith, a, l)) (omega (arith, b, m)) p

-- whether some numerator isn't 0
abbrev some : List ℤ → Bool
some zs = not (all_zero zs)

later-sign : (b : Bool) (t : List ℕ) → list_any is_sign (cond b (codes "-") (codes "+") ++ t) ≡ true
later-sign true t = refl
later-sign false t = refl

-- a sign and what follows it
signed-later : (z : ℤ) (t : List ℕ) → list_any is_sign (sign_text false z ++ t) ≡ true
signed-later z t = later-sign (int_lt z (pos 0)) t

-- behind another term each one has its sign
later-by : (d : ℕ) (z : ℤ) (unit rest : List ℕ) (b c : Bool) → int_eq z (pos 0) ≡ b → list_any is_sign rest ≡ not c → list_any is_sign (signed_text false d z unit ++ rest) ≡ not (b && c)
later-by d z unit rest true c e f = ap (λ t. list_any is_sign (t ++ rest)) (signed-none false d z unit e) ∙ f
later-by d z unit rest false c e f =
    let part = part_text (unsigned_abs z / gcd (unsigned_abs z) d) (d / gcd (unsigned_abs z) d) unit in
    ap (λ t. list_any is_sign (t ++ rest)) (signed-some false d z unit e) ∙ ap (list_any is_sign) (append_assoc (sign_text false z) part rest)
    ∙ signed-later z (part ++ rest)

signs-later : (d : ℕ) (zs : List ℤ) (units : List (List ℕ)) → Fit zs units → list_any is_sign (terms_text false d zs units) ≡ some zs
signs-later d [] units f = refl
signs-later d (z ∷ zs) [] f = absurd f
signs-later d (z ∷ zs) (unit ∷ units) f = later-by d z unit (terms_text false d zs units) (int_eq z (pos 0)) (all_zero zs) refl (signs-later d zs units f.2)

-- how many numerators aren't 0
abbrev count : List ℤ → ℕ
count zs = length (filter (λ z. not (int_eq z (pos 0))) zs)

-- behind the first byte of a text without a sign
plain-behind : (t rest : List ℕ) → IsPlain t → list_any is_sign (drop 1 (t ++ rest)) ≡ list_any is_sign rest
plain-behind [] rest p = absurd (omega (arith, p.1))
plain-behind (c ∷ cs) rest p = list_any-append is_sign cs rest ∙ ap (λ b. b || list_any is_sign rest) (or-right (is_sign c) (list_any is_sign cs) p.0)
  where
    or-right : (a b : Bool) → (a || b) ≡ false → b ≡ false
    or-right true b e = cc
    or-right false b e = e

-- behind the sign of the first term and its first byte
first-sign : (b : Bool) (t rest : List ℕ) → IsPlain t → list_any is_sign (drop 1 (cond b (codes "-") [] ++ (t ++ rest))) ≡ list_any is_sign rest
first-sign true t rest p = list_any-append is_sign t rest ∙ ap (λ b. b || list_any is_sign rest) p.0
first-sign false t rest p = plain-behind t rest p

count-by : (a : Bool) (z : ℤ) (zs : List ℤ) → nat_lt 0 (length zs) ≡ not a → (c : Bool) → nat_lt 0 (length (cond (not c) (z ∷ zs) zs)) ≡ not (c && a)
count-by a z zs e true = e
count-by a z zs e false = grind arith

count-some : (zs : List ℤ) → nat_lt 0 (count zs) ≡ some zs
count-some [] = refl
count-some (z ∷ zs) = count-by (all_zero zs) z (filter (λ z. not (int_eq z (pos 0))) zs) (count-some zs) (int_eq z (pos 0))

first-by : (d : ℕ) (z : ℤ) (unit rest whole : List ℕ) (zs : List ℤ) (b : Bool) → int_eq z (pos 0) ≡ b
    → IsPlain (part_text (unsigned_abs z / gcd (unsigned_abs z) d) (d / gcd (unsigned_abs z) d) unit)
    → list_any is_sign rest ≡ nat_lt 0 (count zs) → list_any is_sign (drop 1 whole) ≡ nat_lt 1 (count zs)
    → list_any is_sign (drop 1 (signed_text true d z unit ++ cond b whole rest)) ≡ nat_lt 1 (length (cond (not b) (z ∷ filter (λ z. not (int_eq z (pos 0))) zs) (filter (λ z. not (int_eq z (pos 0))) zs)))
first-by d z unit rest whole zs true e p f g = ap (λ t. list_any is_sign (drop 1 (t ++ whole))) (signed-none true d z unit e) ∙ g
first-by d z unit rest whole zs false e p f g =
    let part = part_text (unsigned_abs z / gcd (unsigned_abs z) d) (d / gcd (unsigned_abs z) d) unit in
    ap (λ t. list_any is_sign (drop 1 (t ++ rest))) (signed-some true d z unit e)
    ∙ ap (λ t. list_any is_sign (drop 1 t)) (append_assoc (sign_text true z) part rest)
    ∙ first-sign (int_lt z (pos 0)) part rest p ∙ f ∙ grind arith

signs-first : (d : ℕ) (zs : List ℤ) (units : List (List ℕ)) → d < 10 ^ 64 → Fit zs units → list_any is_sign (drop 1 (terms_text true d zs units)) ≡ nat_lt 1 (count zs)
signs-first d [] units m f = refl
signs-first d (z ∷ zs) [] m f = absurd f
signs-first d (z ∷ zs) (unit ∷ units) m f =
    by (int_eq z (pos 0)) refl (part-of d z unit m f.0 f.1) (signs-later d zs units f.2 ∙ sym (count-some zs)) (signs-first d zs units m f.2)
  where
    by : (b : Bool) → int_eq z (pos 0) ≡ b → IsPlain (part_text (unsigned_abs z / gcd (unsigned_abs z) d) (d / gcd (unsigned_abs z) d) unit)
        → list_any is_sign (terms_text false d zs units) ≡ nat_lt 0 (count zs) → list_any is_sign (drop 1 (terms_text true d zs units)) ≡ nat_lt 1 (count zs)
        → list_any is_sign (drop 1 (signed_text true d z unit ++ terms_text b d zs units)) ≡ nat_lt 1 (length (cond (not b) (z ∷ filter (λ z. not (int_eq z (pos 0))) zs) (filter (λ z. not (int_eq z (pos 0))) zs)))
    by true e p g h = first-by d z unit (terms_text false d zs units) (terms_text true d zs units) zs true e p g h
    by false e p g h = first-by d z unit (terms_text false d zs units) (terms_text true d zs units) zs false e p g h

-- a text with no sign behind its first byte has at most one term
whole-by : (b : Bool) (t : List ℕ) (n : ℕ) → (b ≡ true → n ≡ 0) → list_any is_sign (drop 1 t) ≡ nat_lt 1 n → list_any is_sign (drop 1 (cond b (codes "0") t)) ≡ not (nat_le n 1)
whole-by true t n e f = let z = e refl in grind arith
whole-by false t n e f = f ∙ grind arith

none : (zs : List ℤ) → all_zero zs ≡ true → count zs ≡ 0
none zs e = let s : nat_lt 0 (count zs) ≡ false = count-some zs ∙ ap not e in grind arith

pub signs-number : (d : ℕ) (zs : List ℤ) (units : List (List ℕ)) → d < 10 ^ 64 → Fit zs units → list_any is_sign (drop 1 (number_text d zs units)) ≡ not (nat_le (count zs) 1)
signs-number d zs units m f = whole-by (all_zero zs) (terms_text true d zs units) (count zs) (none zs) (signs-first d zs units m f)
