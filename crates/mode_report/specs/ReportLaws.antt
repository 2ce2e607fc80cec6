-- The texts of the elements of a list with their numbers.
--
-- numbered-append: of two lists, one behind the other
-- numbered-more: of a list with one more element at the end
-- numbered-take: of the first elements, one more
use Rattle.std.proofs.Common.{◌≡◌, sym, ap, ◌∙◌, ℕ, suc, ◌+◌, ◌<◌, List, [], ◌∷◌, ◌++◌, length, take, get_or, flat_map, arith, append_assoc}
use Rattle.std.specs.List.{enumerate_from}
use Rattle.std.proofs.lemmas.List.{append-nil, take_more, length-take-le}

module _ {X A : Type 0} (f : ℕ × X → List A) where
  -- the numbers of the second list go on behind those of the first
  pub numbered-append : (n : ℕ) (xs ys : List X)
      → flat_map f (enumerate_from n (xs ++ ys)) ≡ flat_map f (enumerate_from n xs) ++ flat_map f (enumerate_from (n + length xs) ys)
  numbered-append n [] ys = let e : n ≡ n + 0 = omega arith in ap (λ k. flat_map f (enumerate_from k ys)) e
  numbered-append n (x ∷ xs) ys =
      let e : n + 1 + length xs ≡ n + suc (length xs) = omega arith in
      ap (λ t. f (n, x) ++ t) (numbered-append (n + 1) xs ys ∙ ap (λ k. flat_map f (enumerate_from (n + 1) xs) ++ flat_map f (enumerate_from k ys)) e)
      ∙ sym (append_assoc (f (n, x)) (flat_map f (enumerate_from (n + 1) xs)) (flat_map f (enumerate_from (n + suc (length xs)) ys)))

  pub numbered-more : (n : ℕ) (xs : List X) (x : X) → flat_map f (enumerate_from n (xs ++ x ∷ [])) ≡ flat_map f (enumerate_from n xs) ++ f (n + length xs, x)
  numbered-more n xs x = numbered-append n xs (x ∷ []) ∙ ap (λ t. flat_map f (enumerate_from n xs) ++ t) (append-nil (f (n + length xs, x)))

  pub numbered-take : (n : ℕ) (xs : List X) (i : ℕ) (d : X) → i < length xs
      → flat_map f (enumerate_from n (take (i + 1) xs)) ≡ flat_map f (enumerate_from n (take i xs)) ++ f (n + i, get_or xs i d)
  numbered-take n xs i d l =
      ap (λ t. flat_map f (enumerate_from n t)) (take_more xs i d l) ∙ numbered-more n (take i xs) (get_or xs i d)
      ∙ ap (λ k. flat_map f (enumerate_from n (take i xs)) ++ f (n + k, get_or xs i d)) (length-take-le i xs (omega arith))
