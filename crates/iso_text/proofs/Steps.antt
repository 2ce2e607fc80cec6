-- Steps that may give nothing, and counts.
use Rattle.std.proofs.Common.{◌≡◌, ℕ, ◌<◌, ◌≤◌, ◌==◌, Bool, true, false, List, [], ◌∷◌, length, Option, Some, None, refl, ◌∙◌, arith, inl, inr, nat_le, if◌then◌else◌}
use Rattle.std.specs.Prelude.{option_and_then, is_none, Result, Ok, Err, IfOk, ◌⊎◌, ◌||◌}
use Rattle.std.proofs.lemmas.Bool.Decides.{nat_tests}

pub guard : {X : Type 0} (b : Bool) (x y : X) → (if b then Some x else None) ≡ Some y → (b ≡ true) × (x ≡ y)
guard true x y e = (refl, cc)
guard false x y e = absurd cc

pub guard_not : {X : Type 0} (b : Bool) (x y : X) → (if b then None else Some x) ≡ Some y → (b ≡ false) × (x ≡ y)
guard_not true x y e = absurd cc
guard_not false x y e = (refl, cc)

pub when : {X : Type 0} (b : Bool) (o : Option X) (y : X) → (if b then o else None) ≡ Some y → (b ≡ true) × (o ≡ Some y)
when true o y e = (refl, e)
when false o y e = absurd cc

pub bind : {X Y : Type 0} (o : Option X) (f : X → Option Y) (y : Y) → option_and_then f o ≡ Some y → (x : X) × (o ≡ Some x) × (f x ≡ Some y)
bind None f y e = absurd cc
bind (Some x) f y e = (x, refl, e)

is_zero : (n : ℕ) → (n == 0) ≡ true → n ≡ 0
is_zero n e = grind (arith, nat_tests)

is_more : (n : ℕ) → (n == 0) ≡ false → 0 < n
is_more n e = grind (arith, nat_tests)

pub zero_length : {X : Type 0} (xs : List X) → (length xs == 0) ≡ true → xs ≡ []
zero_length [] e = refl
zero_length (x ∷ xs) e = absurd (omega (arith, is_zero (length (x ∷ xs)) e))

pub some_length : {X : Type 0} (xs : List X) → (length xs == 0) ≡ false → 0 < length xs
some_length xs e = is_more (length xs) e

pub none_is : {X : Type 0} (o : Option X) → is_none o ≡ true → o ≡ None
none_is None e = refl
none_is (Some x) e = absurd cc

pub le_leb : (a b : ℕ) → a ≤ b → nat_le a b ≡ true
le_leb a b h = grind (arith, nat_tests)

pub if_ok : {X E : Type 0} (r : Result X E) (x y : X) → x ≡ y → IfOk r (λ a. a ≡ x) → IfOk r (λ a. a ≡ y)
if_ok (Ok a) x y same is = is ∙ same
if_ok (Err e) x y same is = is

pub some_is : {X : Type 0} {x y : X} → Some x ≡ Some y → x ≡ y
some_is e = cc

pub equal : (a b : ℕ) → (a == b) ≡ true → a ≡ b
equal a b e = grind (arith, nat_tests)

pub one_of : (n a b : ℕ) → (n == a || n == b) ≡ true → (n ≡ a) ⊎ (n ≡ b)
one_of n a b e = by_cases (n == a) (n == b) e (equal n a) (equal n b)
  where
    by_cases : {A B : Type 0} (x y : Bool) → (x || y) ≡ true → (x ≡ true → A) → (y ≡ true → B) → A ⊎ B
    by_cases true y e f g = inl (f refl)
    by_cases false y e f g = inr (g e)
