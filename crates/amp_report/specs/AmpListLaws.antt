-- Lists by their elements.
--
-- there: an element at each place
-- last-or-before: an element of a list with one more at the end
-- each-there: the items at one place are related
-- each-by: lists of one length, by their items
use Rattle.std.proofs.Common.{◌≡◌, refl, sym, ap, subst, inl, inr, ◌⊎◌, ℕ, zero, suc, ◌<◌, List, [], ◌∷◌, ◌++◌, length, arith, Some, slice_get}
use Rattle.std.proofs.lemmas.Option.{same_Some, none-some}
use Rattle.report_steps.specs.IrrepSteps.{Each}

pub there : {X : Type 0} (xs : List X) (k : ℕ) → k < length xs → (x : X) × (slice_get xs k ≡ Some x)
there [] k l = absurd (omega arith)
there (x ∷ xs) zero l = (x, refl)
there (x ∷ xs) (suc k) l = there xs k (omega arith)

-- an element of a list with one more at the end
pub last-or-before : {X : Type 0} (xs : List X) (x : X) (k : ℕ) (y : X) → slice_get (xs ++ x ∷ []) k ≡ Some y → (slice_get xs k ≡ Some y) ⊎ ((k ≡ length xs) × (y ≡ x))
last-or-before [] x zero y h = inr (refl, sym (same_Some x y h))
last-or-before [] x (suc k) y h = absurd (none-some y h)
last-or-before (z ∷ xs) x zero y h = inl h
last-or-before (z ∷ xs) x (suc k) y h = elim (last-or-before xs x k y h) [ inl e ↦ inl e | inr e ↦ inr (ap suc e.0, e.1) ]

-- the items at one place
pub each-there : {A B : Type 0} (R : A → B → Type 0) (xs : List A) (ys : List B) (n : ℕ) (x : A) (y : B) → Each R xs ys → slice_get xs n ≡ Some x → slice_get ys n ≡ Some y → R x y
each-there R [] ys n x y h s t = absurd (none-some x s)
each-there R (a ∷ xs) [] n x y h s t = absurd h
each-there {A} {B} R (a ∷ xs) (b ∷ ys) zero x y h s t =
    let P : A → Type 0 = λ z. R z y in
    let Q : B → Type 0 = λ z. R a z in
    subst P (same_Some a x s) (subst Q (same_Some b y t) h.0)
each-there R (a ∷ xs) (b ∷ ys) (suc n) x y h s t = each-there R xs ys n x y h.1 s t

-- lists of one length, by their items
pub each-by : {A B : Type 0} (R : A → B → Type 0) (xs : List A) (ys : List B) → length ys ≡ length xs → ((n : ℕ) (x : A) (y : B) → slice_get xs n ≡ Some x → slice_get ys n ≡ Some y → R x y)
    → Each R xs ys
each-by R [] [] e f = tt
each-by R [] (y ∷ ys) e f = absurd (omega arith)
each-by R (x ∷ xs) [] e f = absurd (omega arith)
each-by R (x ∷ xs) (y ∷ ys) e f = (f 0 x y refl refl, each-by R xs ys (omega arith) (λ n a b s t. f (suc n) a b s t))
