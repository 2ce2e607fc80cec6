use Rattle.std.proofs.Common.{◌≡◌, ℕ, suc, zero, ◌<◌, ◌+◌, ◌⊎◌, inl, inr, refl, sym, ◌∙◌, ap, List, [], ◌∷◌, ◌++◌, length, map, get_or, take, subst, Vec}
use Rattle.std.proofs.lemmas.List.{with_items_is}
use Rattle.std.specs.Vec.{with_items}
use Rattle.std.specs.List.{insert}
use Rattle.lin_alg.specs.Rows.{HaveWidth}
use Rattle.lin_alg.specs.Rows.{HaveLength}
use Rattle.lin_alg.proofs.MemoryLemmas.{long-append}
use Rattle.lin_alg.proofs.PlaceLemmas.{take-item}

pub long-last : {A X : Type 0} (h : X → List A) (w : ℕ) (xs : List X) (x : X) → HaveLength w (map h (xs ++ x ∷ [])) → HaveLength w (map h xs) × (length (h x) ≡ w)
long-last h w [] x a = (tt, a.0)
long-last h w (y ∷ ys) x a = let k : HaveLength w (map h ys) × (length (h x) ≡ w) = long-last h w ys x a.1 in ((a.0, k.0), k.1)

pub wide-insert : {A : Type 0} (w : ℕ) (rs : List (ℕ × List A)) (i : ℕ) (y : ℕ × List A) → HaveWidth w rs → y.0 < w → length y.1 ≡ w → HaveWidth w (insert rs i y)
wide-insert w [] zero y a l e = (l, e, tt)
wide-insert w [] (suc i) y a l e = (l, e, tt)
wide-insert w (r ∷ rs) zero y a l e = (l, e, a)
wide-insert w (r ∷ rs) (suc i) y a l e = (a.0, a.1, wide-insert w rs i y a.2 l e)

pub map-insert : {X Y : Type 0} (h : X → Y) (xs : List X) (i : ℕ) (y : X) → map h (insert xs i y) ≡ insert (map h xs) i (h y)
map-insert h [] zero y = refl
map-insert h [] (suc i) y = refl
map-insert h (x ∷ xs) zero y = refl
map-insert h (x ∷ xs) (suc i) y = ap (λ z. h x ∷ z) (map-insert h xs i y)

pub wide-put : {A Z : Type 0} (w w' : ℕ) (put : List (ℕ × List A)) (v : Vec (ℕ × Vec A Z) Z) (ws : List (ℕ × Vec A Z)) (i p : ℕ) (row : List A) →
    length ws ≡ v.len → put ≡ insert (map (λ r. (r.0, r.1.items)) (with_items v ws).items) i (p, row) → HaveWidth w (map {B = ℕ × List A} (λ r. (r.0, r.1.items)) ws) →
    p < w → length row ≡ w → w ≡ w' → HaveWidth w' put
wide-put {A} {Z} w w' put v ws i p row n e a l r same =
    let h : ℕ × Vec A Z → ℕ × List A = λ r. (r.0, r.1.items) in
    let whole : (with_items v ws).items ≡ ws = with_items_is v ws n in
    let put_is : put ≡ insert (map h ws) i (p, row) = e ∙ ap (λ z. insert (map h z) i (p, row)) whole in
    subst (λ (x : ℕ). HaveWidth x put) same (subst (HaveWidth w) (sym put_is) (wide-insert w (map h ws) i (p, row) a l r))

pub wide-last : {A X : Type 0} (h : X → ℕ × List A) (w : ℕ) (xs : List X) (x : X) → HaveWidth w (map h (xs ++ x ∷ [])) → HaveWidth w (map h xs) × (length (h x).1 ≡ w)
wide-last h w [] x a = (tt, a.1)
wide-last h w (y ∷ ys) x a = let k : HaveWidth w (map h ys) × (length (h x).1 ≡ w) = wide-last h w ys x a.2 in ((a.0, a.1, k.0), k.1)

pub wide-first : {A X : Type 0} (h : X → ℕ × List A) (w : ℕ) (xs ys : List X) → HaveWidth w (map h (xs ++ ys)) → HaveWidth w (map h xs)
wide-first h w [] ys a = tt
wide-first h w (x ∷ xs) ys a = (a.0, a.1, wide-first h w xs ys a.2)

-- rows of one length, where one more of it may be kept
pub long-kept : {A X : Type 0} (h : X → List A) (w : ℕ) (old new : List X) (x : X) → (new ≡ old) ⊎ (new ≡ old ++ x ∷ []) → HaveLength w (map h old) → length (h x) ≡ w → HaveLength w (map h new)
long-kept h w old new x (inl e) a l = subst (λ (z : List _). HaveLength w (map h z)) (sym e) a
long-kept h w old new x (inr e) a l = subst (λ (z : List _). HaveLength w (map h z)) (sym e) (long-append h w old x a l)

-- an item put behind all
insert-last : {X : Type 0} (xs : List X) (y : X) → insert xs (length xs) y ≡ xs ++ y ∷ []
insert-last [] y = refl
insert-last (x ∷ xs) y = ap (λ z. x ∷ z) (insert-last xs y)

-- one more item was put behind
pub put-next : {X : Type 0} (all new old : List X) (n i : ℕ) (y : X) → new ≡ insert old n y → n ≡ length old → i < length all → y ≡ get_or all i y → old ≡ take i all → new ≡ take (i + 1) all
put-next all new old n i y e l b a t =
    e ∙ ap (λ k. insert old k y) l ∙ insert-last old y ∙ ap (λ z. z ++ y ∷ []) t ∙ sym (take-item all i y b a)
