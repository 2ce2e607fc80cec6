-- What is known of two lists whose items at one place are related.
--
-- each-at: the items at one place; each-length: the lists have one length
-- each-map: what is made of the items of the second list
-- each-same: where the relation gives each item one other, one list gives one other
-- each-through: two relations through a list between them
use Rattle.std.proofs.Common.{◌≡◌, refl, ap, ℕ, zero, suc, ◌<◌, List, [], ◌∷◌, length, get_or, map, arith}
use Rattle.report_steps.specs.IrrepSteps.{Each}

-- the items at one place
pub each-at : {A B : Type 0} (R : A → B → Type 0) (xs : List A) (ys : List B) (i : ℕ) (x : A) (y : B) → i < length xs → Each R xs ys → R (get_or xs i x) (get_or ys i y)
each-at R [] ys i x y l h = absurd (omega arith)
each-at R (a ∷ xs) [] i x y l h = absurd h
each-at R (a ∷ xs) (b ∷ ys) zero x y l h = h.0
each-at R (a ∷ xs) (b ∷ ys) (suc i) x y l h = each-at R xs ys i x y (omega arith) h.1

-- the lists have one length
pub each-length : {A B : Type 0} (R : A → B → Type 0) (xs : List A) (ys : List B) → Each R xs ys → length xs ≡ length ys
each-length R [] [] h = refl
each-length R [] (y ∷ ys) h = absurd h
each-length R (x ∷ xs) [] h = absurd h
each-length R (x ∷ xs) (y ∷ ys) h = ap suc (each-length R xs ys h.1)

-- what is made of the items of the second list
pub each-map : {A B C : Type 0} (R : A → B → Type 0) (T : A → C → Type 0) (g : B → C) (xs : List A) (ys : List B) → ((x : A) (y : B) → R x y → T x (g y)) → Each R xs ys → Each T xs (map g ys)
each-map R T g [] [] f h = tt
each-map R T g [] (y ∷ ys) f h = h
each-map R T g (x ∷ xs) [] f h = h
each-map R T g (x ∷ xs) (y ∷ ys) f h = (f x y h.0, each-map R T g xs ys f h.1)

-- two lists that are so related to a third one are the same
pub each-same : {A B : Type 0} (R : A → B → Type 0) (xs : List A) (ys zs : List B) → ((x : A) (y z : B) → R x y → R x z → y ≡ z) → Each R xs ys → Each R xs zs → ys ≡ zs
each-same R [] [] [] f h k = refl
each-same R [] [] (z ∷ zs) f h k = absurd k
each-same R [] (y ∷ ys) zs f h k = absurd h
each-same R (x ∷ xs) [] zs f h k = absurd h
each-same R (x ∷ xs) (y ∷ ys) [] f h k = absurd k
each-same R (x ∷ xs) (y ∷ ys) (z ∷ zs) f h k = (λ i. f x y z h.0 k.0 i ∷ each-same R xs ys zs f h.1 k.1 i)

-- two relations through a list between them
pub each-through : {A B C : Type 0} (R : A → B → Type 0) (S : B → C → Type 0) (xs : List A) (ys : List B) (zs : List C) → Each R xs ys → Each S ys zs → Each (λ x z. (y : B) × R x y × S y z) xs zs
each-through R S [] [] [] h k = tt
each-through R S [] [] (z ∷ zs) h k = k
each-through R S [] (y ∷ ys) zs h k = absurd h
each-through R S (x ∷ xs) [] zs h k = absurd h
each-through R S (x ∷ xs) (y ∷ ys) [] h k = k
each-through R S (x ∷ xs) (y ∷ ys) (z ∷ zs) h k = ((y, h.0, k.0), each-through R S xs ys zs h.1 k.1)
