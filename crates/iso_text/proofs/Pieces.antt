-- Reads and writes piece by piece.
use Rattle.std.proofs.Common.{◌≡◌, ℕ, zero, suc, zero-add, ◌+◌, ◌-◌, ◌≤◌, List, [], ◌∷◌, ◌++◌, length, take, drop, Option, Some, None, IfSome, refl, ◌∙◌, sym, ap, subst, arith, append_assoc, length-drop}
use Rattle.std.proofs.lemmas.List.{length-take-le, take-append-le, drop-drop}
use Rattle.std.proofs.Math.Seq.{take-append-add}
use Rattle.std.proofs.lemmas.Grind.{common_steps}
use Rattle.iso_text.specs.Counts.{raised}
use Rattle.iso_text.specs.Streams.{Reads, GrownBy, IsAtEnd, IsRestOf}

-- a front, and the front of what follows
pub take_plus : (i n : ℕ) (xs : List ℕ) → take (i + n) xs ≡ take i xs ++ take n (drop i xs)
take_plus zero n xs = rw zero-add refl
take_plus (suc i) n [] = grind (arith, common_steps)
take_plus (suc i) n (x ∷ xs) = let e : suc i + n ≡ suc (i + n) = omega arith in rw e (ap (λ t. x ∷ t) (take_plus i n xs))

-- what was written grows by one more piece
pub grown_more : (old mid new : Option (List ℕ)) (i n : ℕ) (piece part : List ℕ) → part ≡ drop i piece → IfSome old (λ held. mid ≡ Some (held ++ take i piece)) → GrownBy (take n part) mid new
    → IfSome old (λ held. new ≡ Some (held ++ take (i + n) piece))
grown_more None mid new i n piece part e before now = tt
grown_more (Some held) mid new i n piece part e before now =
    let P : Option (List ℕ) → Type 0 = λ o. GrownBy (take n part) o new in
    let here : new ≡ Some ((held ++ take i piece) ++ take n (drop i piece)) = subst P before now ∙ ap (λ t. Some ((held ++ take i piece) ++ take n t)) e in
    here ∙ ap (λ bytes. Some bytes) (append_assoc held (take i piece) (take n (drop i piece)) ∙ ap (λ t. held ++ t) (sym (take_plus i n piece)))

-- what was read grows by one more piece
pub reads_more : (old mid new : Option (List ℕ)) (i n : ℕ) (buf part tail : List ℕ) → i ≤ length buf → n ≤ length part
    → IfSome old (λ left. Reads i buf left mid) → IfSome mid (λ left. Reads n part left new)
    → IfSome old (λ left. Reads (i + n) (take i buf ++ (part ++ tail)) left new)
reads_more None mid new i n buf part tail within fits before now = tt
reads_more (Some left) mid new i n buf part tail within fits before now =
    let P : Option (List ℕ) → Type 0 = λ o. IfSome o (λ left. Reads n part left new) in
    let here : Reads n part (drop i left) new = subst P before.others now in
    let behind : n ≤ length left - i = rw length-drop at here.few in
    let few : i + n ≤ length left = omega (arith, before.few) in
    let size : length (take i buf) ≡ i = length-take-le i buf within in
    let front : take (length (take i buf) + n) (take i buf ++ (part ++ tail)) ≡ take i buf ++ take n (part ++ tail) = take-append-add (take i buf) (part ++ tail) n in
    let same : take n (part ++ tail) ≡ take n part = take-append-le n part tail fits in
    record {
      few = few;
      bytes = ap (λ k. take (k + n) (take i buf ++ (part ++ tail))) (sym size) ∙ front ∙ ap (λ t. take i buf ++ t) (same ∙ here.bytes) ∙ ap (λ t. t ++ take n (drop i left)) before.bytes ∙ sym (take_plus i n left);
      others = here.others ∙ ap (λ t. Some t) (drop-drop n i left);
    }

-- the end of what is left is an end of what was left
pub rest_of : (old mid : Option (List ℕ)) (i : ℕ) (buf : List ℕ) → IfSome old (λ left. Reads i buf left mid) → IsRestOf old mid
rest_of None mid i buf before = tt
rest_of (Some left) mid i buf before = (i, before.others)

-- what was read is all, where nothing is left of it
pub all_read : (old mid : Option (List ℕ)) (i : ℕ) (buf : List ℕ) → IfSome old (λ left. Reads i buf left mid) → IsAtEnd mid → IfSome old (λ left. i ≡ length left)
all_read None mid i buf before ended = tt
all_read (Some left) mid i buf before ended =
    let none : drop i left ≡ [] = subst IsAtEnd before.others ended in
    let zero_left : length left - i ≡ 0 = sym (length-drop i left) ∙ ap (λ t. length t) none in
    omega (arith, before.few)

-- a read of nothing changes nothing
pub reads_none : (old mid new : Option (List ℕ)) (i n : ℕ) (buf part tail : List ℕ) → n ≡ 0 → i ≤ length buf → n ≤ length part
    → IfSome old (λ left. Reads i buf left mid) → IfSome mid (λ left. Reads n part left new)
    → IfSome old (λ left. Reads i (take i buf ++ (part ++ tail)) left new)
reads_none old mid new i n buf part tail e within fits before now =
    let same : i + n ≡ i = omega arith in
    subst (λ k. IfSome old (λ left. Reads k (take i buf ++ (part ++ tail)) left new)) same (reads_more old mid new i n buf part tail within fits before now)

-- a slice's end, as a call is lent it
pub whole_end : (i : ℕ) (xs : List ℕ) → take (length xs - i) (drop i xs) ≡ drop i xs
whole_end i xs = grind (arith, common_steps)

-- two raises in a row
pub raised_more : (n m a b c : ℕ) → b ≡ raised n a → c ≡ raised m b → c ≡ raised (n + m) a
raised_more n m a b c first second = omega arith
