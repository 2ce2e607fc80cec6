-- Cases of tests and of steps that may fail.
use Rattle.std.proofs.Common.{◌≡◌, ℕ, Bool, true, false, ◌⊎◌, ◌&&◌, ◌||◌, not, refl, arith, inl, inr, cond, ◌<◌, nat_lt, Option, Some, None}
use Rattle.std.proofs.lemmas.Bool.Decides.{nat_tests}
use Rattle.hall_symbol.specs.Steps.{◌>>=◌}

pub and-first : (s t : Bool) → (s && t) ≡ true → s ≡ true
and-first true t h = refl
and-first false t h = cc h

pub and-second : (s t : Bool) → (s && t) ≡ true → t ≡ true
and-second true t h = h
and-second false t h = cc h

pub not_or : (s t : Bool) → not (s || t) ≡ true → (s ≡ false) × (t ≡ false)
not_or true t h = cc h
not_or false true h = cc h
not_or false false h = (refl, refl)

pub not_true : (s : Bool) → not s ≡ true → s ≡ false
not_true true h = cc h
not_true false h = refl

pub or_true : (s : Bool) → (s || true) ≡ true
or_true true = refl
or_true false = refl

pub or_false : (s t : Bool) → s ≡ false → t ≡ false → (s || t) ≡ false
or_false s t e f = rw (e, f) refl

pub or-false : (s t : Bool) → (s || t) ≡ false → (s ≡ false) × (t ≡ false)
or-false true t h = cc h
or-false false t h = (refl, h)

pub or-true : (s t : Bool) → (s || t) ≡ true → (s ≡ true) ⊎ (t ≡ true)
or-true true t h = inl refl
or-true false t h = inr h

pub true-false : false ≡ true → ⊥
true-false h = cc h

pub bind-some : {A B : Type 0} (o : Option A) (f : A → Option B) (y : B) → (o >>= f) ≡ Some y → (x : A) × (o ≡ Some x) × (f x ≡ Some y)
bind-some None f y h = cc h
bind-some (Some x) f y h = (x, refl, h)

pub some-value : {A : Type 0} (x y : A) → Some x ≡ Some y → x ≡ y
some-value x y h = cc h

-- which way a test went
pub chosen : {A : Type 0} (b : Bool) (x y z : A) → cond b x y ≡ z → ((b ≡ true) × (x ≡ z)) ⊎ ((b ≡ false) × (y ≡ z))
chosen true x y z h = inl (refl, h)
chosen false x y z h = inr (refl, h)

pub option-cases : {A : Type 0} (o : Option A) → (o ≡ None) ⊎ ((x : A) × (o ≡ Some x))
option-cases None = inl refl
option-cases (Some x) = inr (x, refl)

pub lt-true : (m n : ℕ) → nat_lt m n ≡ true → m < n
lt-true m n h = grind (arith, nat_tests)
