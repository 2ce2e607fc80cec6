-- Lists cut down by tests, one element more at a time.
use Rattle.std.proofs.Common.{◌≡◌, refl, ap, ◌∙◌, ℕ, zero, suc, ◌+◌, ◌<◌, Bool, true, false, cond, Option, Some, List, [], ◌∷◌, ◌++◌, length, map, take, get_or, flat_map, filter, arith}
use Rattle.std.specs.Prelude.{filter_map}
use Rattle.std.specs.List.{range_with_len, reduce, cons_option}
use Rattle.std.proofs.lemmas.List.{append-nil, map-append}
use Rattle.std.proofs.lemmas.List.Elements.{filter_more, filter_map-append}
use Rattle.std.proofs.lemmas.List.Sums.{fold-append}
use Rattle.std.proofs.lemmas.Grind.{flat_map-append}
use Rattle.list_report.specs.StabiliserParts.{reduced_with}

-- the numbers from a on, one more at the end
pub range-more : (a n : ℕ) → range_with_len a (suc n) ≡ range_with_len a n ++ (a + n) ∷ []
range-more a zero = let e : a ≡ a + 0 = omega arith in ap (λ k. k ∷ []) e
range-more a (suc n) = let e : a + 1 + n ≡ a + suc n = omega arith in ap (λ t. a ∷ t) (range-more (a + 1) n) ∙ ap (λ k. a ∷ (range_with_len (a + 1) n ++ k ∷ [])) e

pub range-next : (n : ℕ) → range_with_len 0 (n + 1) ≡ range_with_len 0 n ++ n ∷ []
range-next n =
    let e : n + 1 ≡ suc n = omega arith in
    let z : 0 + n ≡ n = omega arith in
    ap (range_with_len 0) e ∙ range-more 0 n ∙ ap (λ k. range_with_len 0 n ++ k ∷ []) z

flat_map-one : {X A : Type 0} (f : X → List A) (b : Bool) (x : X) → flat_map f (cond b (x ∷ []) []) ≡ cond b (f x) []
flat_map-one f true x = append-nil (f x)
flat_map-one f false x = refl

-- what f gives of the elements that pass, one more
pub pieces-more : {X A : Type 0} (f : X → List A) (p : X → Bool) (xs : List X) (i : ℕ) (d : X) → i < length xs
    → flat_map f (filter p (take (i + 1) xs)) ≡ flat_map f (filter p (take i xs)) ++ cond (p (get_or xs i d)) (f (get_or xs i d)) []
pieces-more f p xs i d l =
    ap (flat_map f) (filter_more p xs i d l) ∙ flat_map-append f (filter p (take i xs)) (cond (p (get_or xs i d)) (get_or xs i d ∷ []) [])
    ∙ ap (λ t. flat_map f (filter p (take i xs)) ++ t) (flat_map-one f (p (get_or xs i d)) (get_or xs i d))

reduce-one : {X : Type 0} (f : X → X → X) (xs : List X) (x : X) → reduce f (xs ++ x ∷ []) ≡ Some (reduced_with f (reduce f xs) x)
reduce-one f [] x = refl
reduce-one f (y ∷ ys) x = ap Some (fold-append f y ys (x ∷ []))

reduce-cond : {X Y : Type 0} (f : Y → Y → Y) (g : X → Y) (b : Bool) (xs : List X) (x : X)
    → reduce f (map g (xs ++ cond b (x ∷ []) [])) ≡ cond b (Some (reduced_with f (reduce f (map g xs)) (g x))) (reduce f (map g xs))
reduce-cond f g true xs x = ap (reduce f) (map-append g xs (x ∷ [])) ∙ reduce-one f (map g xs) (g x)
reduce-cond f g false xs x = ap (λ t. reduce f (map g t)) (append-nil xs)

-- of the elements that pass, one more
pub reduced-more : {X Y : Type 0} (f : Y → Y → Y) (g : X → Y) (p : X → Bool) (xs : List X) (i : ℕ) (d : X) → i < length xs
    → reduce f (map g (filter p (take (i + 1) xs)))
    ≡ cond (p (get_or xs i d)) (Some (reduced_with f (reduce f (map g (filter p (take i xs)))) (g (get_or xs i d)))) (reduce f (map g (filter p (take i xs))))
reduced-more f g p xs i d l =
    ap (λ t. reduce f (map g t)) (filter_more p xs i d l) ∙ reduce-cond f g (p (get_or xs i d)) (filter p (take i xs)) (get_or xs i d)

-- the texts of what h gives of the numbers, one more
pub numbers-more : {Y A : Type 0} (f : Y → List A) (h : ℕ → Option Y) (n : ℕ)
    → flat_map f (filter_map h (range_with_len 0 (n + 1))) ≡ flat_map f (filter_map h (range_with_len 0 n)) ++ flat_map f (cons_option (h n) [])
numbers-more f h n =
    ap (λ t. flat_map f (filter_map h t)) (range-next n) ∙ ap (flat_map f) (filter_map-append h (range_with_len 0 n) (n ∷ []))
    ∙ flat_map-append f (filter_map h (range_with_len 0 n)) (cons_option (h n) [])

-- the texts of the numbers, one more
pub texts-more : {A : Type 0} (f : ℕ → List A) (n : ℕ) → flat_map f (range_with_len 0 (n + 1)) ≡ flat_map f (range_with_len 0 n) ++ f n
texts-more f n =
    ap (flat_map f) (range-next n) ∙ flat_map-append f (range_with_len 0 n) (n ∷ []) ∙ ap (λ t. flat_map f (range_with_len 0 n) ++ t) (append-nil (f n))
