-- One element of two lists, one behind the other.
use Rattle.std.proofs.Common.{◌≡◌, ap, ◌∙◌, ℕ, zero, suc, ◌-◌, ◌≤◌, List, [], ◌∷◌, ◌++◌, length, arith, Some, slice_get}
use Rattle.std.proofs.lemmas.Option.{none-some}

pub front-at : {X : Type 0} (xs ys : List X) (m : ℕ) (x : X) → slice_get xs m ≡ Some x → slice_get (xs ++ ys) m ≡ Some x
front-at [] ys m x e = absurd (none-some x e)
front-at (y ∷ xs) ys zero x e = e
front-at (y ∷ xs) ys (suc m) x e = front-at xs ys m x e

pub back-at : {X : Type 0} (xs ys : List X) (m : ℕ) → length xs ≤ m → slice_get (xs ++ ys) m ≡ slice_get ys (m - length xs)
back-at [] ys m l = let z : m ≡ m - 0 = omega arith in ap (slice_get ys) z
back-at (x ∷ xs) ys zero l = absurd (omega arith)
back-at (x ∷ xs) ys (suc m) l = let s : m - length xs ≡ suc m - suc (length xs) = omega arith in back-at xs ys m (omega arith) ∙ ap (slice_get ys) s
