-- Lists whose items at one place are related, one item more at a time.
use Rattle.std.proofs.Common.{◌≡◌, sym, ap, ◌∙◌, subst, ℕ, zero, suc, ◌+◌, ◌<◌, ◌≤◌, List, [], ◌∷◌, ◌++◌, length, take, get_or, arith}
use Rattle.std.proofs.lemmas.List.{take_more, take_all}
use Rattle.std.specs.List.{All}
use Rattle.report_steps.specs.IrrepSteps.{Each}

pub each-push : {A B : Type 0} (R : A → B → Type 0) (xs : List A) (ys : List B) (x : A) (y : B) → Each R xs ys → R x y → Each R (xs ++ x ∷ []) (ys ++ y ∷ [])
each-push R [] [] x y h r = (r, tt)
each-push R [] (b ∷ ys) x y h r = absurd h
each-push R (a ∷ xs) [] x y h r = absurd h
each-push R (a ∷ xs) (b ∷ ys) x y h r = (h.0, each-push R xs ys x y h.1 r)

-- one more item of each
pub each-more : {A B : Type 0} (R : A → B → Type 0) (xs : List A) (ys : List B) (i : ℕ) (x : A) (y : B) → i < length xs → get_or xs i x ≡ x → Each R (take i xs) ys → R x y
    → Each R (take (i + 1) xs) (ys ++ y ∷ [])
each-more {A} {B} R xs ys i x y l e h r =
    let P : List A → Type 0 = λ zs. Each R zs (ys ++ y ∷ []) in
    subst P (sym (take_more xs i x l ∙ ap (λ z. take i xs ++ z ∷ []) e)) (each-push R (take i xs) ys x y h r)

-- all items
pub each-whole : {A B : Type 0} (R : A → B → Type 0) (xs : List A) (ys : List B) (i : ℕ) → length xs ≤ i → Each R (take i xs) ys → Each R xs ys
each-whole {A} {B} R xs ys i l h = let P : List A → Type 0 = λ zs. Each R zs ys in subst P (take_all i xs l) h

-- what relations of items say of each item of the second list
pub each-second : {A B : Type 0} (R : A → B → Type 0) (P : B → Type 0) (xs : List A) (ys : List B) → ((x : A) (y : B) → R x y → P y) → Each R xs ys → All P ys
each-second R P xs [] f h k d l = absurd (omega arith)
each-second R P [] (y ∷ ys) f h k d l = absurd h
each-second R P (x ∷ xs) (y ∷ ys) f h zero d l = f x y h.0
each-second R P (x ∷ xs) (y ∷ ys) f h (suc k) d l = each-second R P xs ys f h.1 k d (omega arith)
