-- Lists with one more at the end.
use Rattle.std.proofs.Common.{◌≡◌, ℕ, suc, zero, ◌<◌, inl, inr, refl, sym, ap, subst, List, [], ◌∷◌, ◌++◌, map, arith, length, get_or}
use Rattle.lin_alg.specs.UnionLaws.{lower}

pub get_or-last : {X : Type 0} (xs : List X) (x d : X) → get_or (xs ++ x ∷ []) (length xs) d ≡ x
get_or-last [] x d = refl
get_or-last (y ∷ ys) x d = get_or-last ys x d

pub get_or-front : {X : Type 0} (xs : List X) (x d : X) (i : ℕ) → i < length xs → get_or (xs ++ x ∷ []) i d ≡ get_or xs i d
get_or-front [] x d i l = absurd (omega arith)
get_or-front (y ∷ ys) x d zero l = refl
get_or-front (y ∷ ys) x d (suc i) l = get_or-front ys x d i (omega arith)

pub length-last : {X : Type 0} (xs : List X) (x : X) → length (xs ++ x ∷ []) ≡ suc (length xs)
length-last [] x = refl
length-last (y ∷ ys) x = ap suc (length-last ys x)

pub map-last : {X Y : Type 0} (h : X → Y) (xs : List X) (x : X) → map h (xs ++ x ∷ []) ≡ map h xs ++ h x ∷ []
map-last h [] x = refl
map-last h (y ∷ ys) x = ap (λ z. h y ∷ z) (map-last h ys x)

-- an item is the same with another default
pub same-default : {X : Type 0} (xs : List X) (i : ℕ) (d e : X) → i < length xs → get_or xs i d ≡ get_or xs i e
same-default [] i d e l = absurd (omega arith)
same-default (x ∷ xs) zero d e l = refl
same-default (x ∷ xs) (suc i) d e l = same-default xs i d e (omega arith)

-- what holds of each item, by its place, and of one more
pub each-last : {X : Type 0} (P : ℕ → X → Type 0) (xs : List X) (x d : X) → ((i : ℕ) → i < length xs → P i (get_or xs i d)) → P (length xs) x →
    (i : ℕ) → i < length (xs ++ x ∷ []) → P i (get_or (xs ++ x ∷ []) i d)
each-last P xs x d a b i l =
    let n = length-last xs x in
    let m : i < suc (length xs) = omega arith in
    elim (lower i (length xs) m) [
      | inl k ↦ subst (P i) (sym (get_or-front xs x d i k)) (a i k)
      | inr e ↦ subst (λ (z : ℕ). P z (get_or (xs ++ x ∷ []) z d)) (sym e) (subst (P (length xs)) (sym (get_or-last xs x d)) b)
    ]
