-- Reports, line by line.
use Rattle.std.proofs.Common.{◌≡◌, sym, ap, ◌∙◌, ℕ, ◌+◌, List, [], ◌∷◌, ◌++◌, map, flat_map, append_assoc, arith}
use Rattle.std.specs.List.{range_with_len}
use Rattle.std.proofs.lemmas.Grind.{flat_map-append}
use Rattle.std.proofs.lemmas.List.{append-nil}
use Rattle.std.proofs.lemmas.List.FromFn.{map-range_with_len_more}

-- a line with one more behind it
pub line-behind : (l i t0 t1 t2 : List ℕ) → t0 ≡ l ++ (10 ∷ []) → t1 ≡ t0 ++ i → t2 ≡ t1 ++ (10 ∷ []) → t2 ≡ l ++ (10 ∷ (i ++ (10 ∷ [])))
line-behind l i t0 t1 t2 a b c =
    c ∙ ap (λ t. t ++ (10 ∷ [])) (b ∙ ap (λ t. t ++ i) a) ∙ append_assoc (l ++ (10 ∷ [])) i (10 ∷ []) ∙ append_assoc l (10 ∷ []) (i ++ (10 ∷ []))

-- a line with two more behind it, the second a word and a number
pub lines-behind : (l i w n t0 t1 t2 t3 t4 : List ℕ) → t0 ≡ l ++ (10 ∷ []) → t1 ≡ t0 ++ i → t2 ≡ t1 ++ (10 ∷ w) → t3 ≡ t2 ++ n → t4 ≡ t3 ++ (10 ∷ [])
    → t4 ≡ l ++ (10 ∷ (i ++ (10 ∷ ((w ++ n) ++ (10 ∷ [])))))
lines-behind l i w n t0 t1 t2 t3 t4 a b c d e =
    let h : List ℕ = (l ++ (10 ∷ [])) ++ i in
    e ∙ ap (λ t. t ++ (10 ∷ [])) (d ∙ ap (λ t. t ++ n) (c ∙ ap (λ t. t ++ (10 ∷ w)) (b ∙ ap (λ t. t ++ i) a)))
    ∙ append_assoc (h ++ (10 ∷ w)) n (10 ∷ []) ∙ append_assoc h (10 ∷ w) (n ++ (10 ∷ []))
    ∙ ap (λ t. h ++ (10 ∷ t)) (sym (append_assoc w n (10 ∷ [])))
    ∙ append_assoc (l ++ (10 ∷ [])) i (10 ∷ ((w ++ n) ++ (10 ∷ []))) ∙ append_assoc l (10 ∷ []) (i ++ (10 ∷ ((w ++ n) ++ (10 ∷ []))))

-- a head of two lines with more behind it
pub two-behind : (l i rest : List ℕ) → (l ++ (10 ∷ (i ++ (10 ∷ [])))) ++ rest ≡ l ++ (10 ∷ (i ++ (10 ∷ rest)))
two-behind l i rest = append_assoc l (10 ∷ (i ++ (10 ∷ []))) rest ∙ ap (λ t. l ++ (10 ∷ t)) (append_assoc i (10 ∷ []) rest)

-- a head of three lines with more behind it
pub three-behind : (l i k rest : List ℕ) → (l ++ (10 ∷ (i ++ (10 ∷ (k ++ (10 ∷ [])))))) ++ rest ≡ l ++ (10 ∷ (i ++ (10 ∷ (k ++ (10 ∷ rest)))))
three-behind l i k rest = append_assoc l (10 ∷ (i ++ (10 ∷ (k ++ (10 ∷ []))))) rest ∙ ap (λ t. l ++ (10 ∷ t)) (two-behind i k rest)

-- a list with one item more
pub table-more : {X A : Type 0} (f : X → List A) (g : ℕ → X) (n : ℕ) (old t new : List A) → t ≡ old ++ flat_map f (map g (range_with_len 0 n)) → new ≡ t ++ f (g n)
    → new ≡ old ++ flat_map f (map g (range_with_len 0 (n + 1)))
table-more f g n old t new a b =
    let xs = map g (range_with_len 0 n) in
    let more = ap (flat_map f) (map-range_with_len_more g 0 n n (omega arith)) ∙ flat_map-append f xs (g n ∷ []) ∙ ap (λ z. flat_map f xs ++ z) (append-nil (f (g n))) in
    b ∙ ap (λ z. z ++ f (g n)) a ∙ append_assoc old (flat_map f xs) (f (g n)) ∙ ap (λ z. old ++ z) (sym more)
