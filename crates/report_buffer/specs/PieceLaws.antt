-- The pieces of a report that are made of a list, one for each element.
--
-- made-joined: joined they are the text of the list
-- behind-first: a piece behind the first one
-- made-piece, made-count: piece i, and how many there are
-- numbered-piece, numbered-count: the same where each element has a number
use Rattle.std.proofs.Common.{◌≡◌, refl, ap, ◌∙◌, ℕ, zero, suc, ◌+◌, ◌-◌, ◌<◌, List, [], ◌∷◌, ◌++◌, length, map, flat_map, Some, slice_get, arith}
use Rattle.std.specs.List.{concat, enumerate_from}
use Rattle.std.proofs.lemmas.Option.{same_Some, none-some}

pub made-joined : {X : Type 0} (f : X → List ℕ) (xs : List X) → concat (map f xs) ≡ flat_map f xs
made-joined f [] = refl
made-joined f (x ∷ xs) = ap (λ t. f x ++ t) (made-joined f xs)

pub behind-first : {A : Type 0} (first : A) (xs : List A) (n : ℕ) (x : A) → 0 < n → slice_get xs (n - 1) ≡ Some x → slice_get (first ∷ xs) n ≡ Some x
behind-first first xs zero x l e = absurd (omega arith)
behind-first first xs (suc n) x l e = let s : n ≡ suc n - 1 = omega arith in ap (slice_get xs) s ∙ e

pub made-piece : {X A : Type 0} (f : X → A) (xs : List X) (i : ℕ) (x : X) → slice_get xs i ≡ Some x → slice_get (map f xs) i ≡ Some (f x)
made-piece f [] i x e = absurd (none-some x e)
made-piece f (y ∷ xs) zero x e = ap (λ t. Some (f t)) (same_Some y x e)
made-piece f (y ∷ xs) (suc i) x e = made-piece f xs i x e

pub made-count : {X A : Type 0} (f : X → A) (xs : List X) → length (map f xs) ≡ length xs
made-count f [] = refl
made-count f (x ∷ xs) = ap suc (made-count f xs)

pub numbered-piece : {X A : Type 0} (f : ℕ × X → A) (n : ℕ) (xs : List X) (i : ℕ) (x : X) → slice_get xs i ≡ Some x → slice_get (map f (enumerate_from n xs)) i ≡ Some (f (n + i, x))
numbered-piece f n [] i x e = absurd (none-some x e)
numbered-piece f n (y ∷ xs) zero x e = let z : n ≡ n + 0 = omega arith in λ t. Some (f (z t, same_Some y x e t))
numbered-piece f n (y ∷ xs) (suc i) x e = let s : n + 1 + i ≡ n + suc i = omega arith in numbered-piece f (n + 1) xs i x e ∙ ap (λ k. Some (f (k, x))) s

pub numbered-count : {X A : Type 0} (f : ℕ × X → A) (n : ℕ) (xs : List X) → length (map f (enumerate_from n xs)) ≡ length xs
numbered-count f n [] = refl
numbered-count f n (x ∷ xs) = ap suc (numbered-count f (n + 1) xs)
