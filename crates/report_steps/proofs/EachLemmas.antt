-- Steps over the items of a list, and lists whose items at one place are related.
use Rattle.std.proofs.Common.{◌≡◌, inl, inr, sym, ap, ◌∙◌, subst, ℕ, zero, suc, ◌+◌, ◌<◌, ◌≤◌, List, [], ◌∷◌, ◌++◌, length, take, drop, get_or, arith}
use Rattle.std.proofs.Math.Seq.{take-suc, drop-cons}
use Rattle.std.proofs.lemmas.List.{take-append-drop, take_all}
use Rattle.std.specs.Prelude.{All, Contains}
use Rattle.report_steps.specs.declared.refusal.Refusal.{Refusal}
use Rattle.report_steps.specs.IrrepSteps.{IsFirstRefused, IsWideAmong, Each}
use Rattle.report_steps.specs.Steps.{OrWide}

-- ---- related lists

each-push : {A B : Type 0} (R : A → B → Type 0) (xs : List A) (ys : List B) (x : A) (y : B) → Each R xs ys → R x y → Each R (xs ++ x ∷ []) (ys ++ y ∷ [])
each-push R [] [] x y h r = (r, tt)
each-push R [] (b ∷ ys) x y h r = absurd h
each-push R (a ∷ xs) [] x y h r = absurd h
each-push R (a ∷ xs) (b ∷ ys) x y h r = (h.0, each-push R xs ys x y h.1 r)

take-more : {A : Type 0} (xs : List A) (i : ℕ) (x : A) → i < length xs → x ≡ get_or xs i x → take (i + 1) xs ≡ take i xs ++ x ∷ []
take-more xs i x l e = let n : i + 1 ≡ suc i = omega arith in ap (λ k. take k xs) n ∙ take-suc xs i x l ∙ ap (λ y. take i xs ++ y ∷ []) (sym e)

-- one more item of each
pub each-more : {A B : Type 0} (R : A → B → Type 0) (xs : List A) (ys : List B) (i : ℕ) (x : A) (y : B) → i < length xs → x ≡ get_or xs i x → Each R (take i xs) ys → R x y
    → Each R (take (i + 1) xs) (ys ++ y ∷ [])
each-more {A} {B} R xs ys i x y l e h r =
    let P : List A → Type 0 = λ zs. Each R zs (ys ++ y ∷ []) in subst P (sym (take-more xs i x l e)) (each-push R (take i xs) ys x y h r)

-- all items
pub each-whole : {A B : Type 0} (R : A → B → Type 0) (xs : List A) (ys : List B) (i : ℕ) → length xs ≤ i → Each R (take i xs) ys → Each R xs ys
each-whole {A} {B} R xs ys i l h = let P : List A → Type 0 = λ zs. Each R zs ys in subst P (take_all i xs l) h

-- the next items of what is left
pub each-next : {A B : Type 0} (R : A → B → Type 0) (xs : List A) (ys : List B) (i : ℕ) (x : A) (y : B) → i < length xs → x ≡ get_or xs i x → Each R (drop i xs) (y ∷ ys)
    → R x y × Each R (drop (i + 1) xs) ys
each-next {A} {B} R xs ys i x y l e h =
    let n : i + 1 ≡ suc i = omega arith in
    let P : List A → Type 0 = λ zs. Each R zs (y ∷ ys) in
    let w : R (get_or xs i x) y × Each R (drop (suc i) xs) ys = subst P (drop-cons xs i x l) h in
    let Q : A → Type 0 = λ z. R z y in
    let T : ℕ → Type 0 = λ k. Each R (drop k xs) ys in
    (subst Q (sym e) w.0, subst T (sym n) w.1)

-- nothing is left of the second list only where nothing is left of the first
pub each-none : {A B : Type 0} (R : A → B → Type 0) (xs : List A) (i : ℕ) (x : A) → i < length xs → Each R (drop i xs) [] → ⊥
each-none {A} R xs i x l h = let P : List A → Type 0 = λ zs. Each R zs [] in subst P (drop-cons xs i x l) h

-- a relation of another thing that is the same, and another list that is the same
pub each-moved : {A B C : Type 0} (R : C → A → B → Type 0) (c d : C) (xs zs : List A) (ys : List B) → c ≡ d → xs ≡ zs → Each (R c) xs ys → Each (R d) zs ys
each-moved {A} {B} {C} R c d xs zs ys e h k =
    let P : C → Type 0 = λ x. Each (R x) xs ys in
    let Q : List A → Type 0 = λ es. Each (R d) es ys in
    subst Q h (subst P e k)

-- with what holds of each item of the first list
pub each-with : {A B : Type 0} (R T : A → B → Type 0) (P : A → Type 0) (xs : List A) (ys : List B) → ((x : A) (y : B) → P x → R x y → T x y) → All P xs → Each R xs ys → Each T xs ys
each-with R T P [] [] f p h = tt
each-with R T P [] (y ∷ ys) f p h = h
each-with R T P (x ∷ xs) [] f p h = h
each-with R T P (x ∷ xs) (y ∷ ys) f p h = (f x y (p 0 x (omega arith)) h.0, each-with R T P xs ys f (λ k d l. p (suc k) d (omega arith)) h.1)

-- what relations of items say of each item of the first list
pub each-all : {A B : Type 0} (R : A → B → Type 0) (P : A → Type 0) (xs : List A) (ys : List B) → ((x : A) (y : B) → R x y → P x) → Each R xs ys → All P xs
each-all R P [] ys f h k d l = absurd (omega arith)
each-all R P (x ∷ xs) [] f h k d l = absurd h
each-all R P (x ∷ xs) (y ∷ ys) f h zero d l = f x y h.0
each-all R P (x ∷ xs) (y ∷ ys) f h (suc k) d l = each-all R P xs ys f h.1 k d (omega arith)

-- ---- the first item that is refused

module _ {A : Type 0} (passes : A → Type 0) (refuses : A → Refusal → Type 0) where
  pub first-at : (xs : List A) (i : ℕ) (x : A) (r : Refusal) → i < length xs → x ≡ get_or xs i x → All passes (take i xs) → refuses x r → IsFirstRefused passes refuses xs r
  first-at xs i x r l e p h = record {
    front = take i xs;
    item = x;
    back = drop (suc i) xs;
    joined = sym (take-append-drop i xs) ∙ ap (λ ys. take i xs ++ ys) (drop-cons xs i x l ∙ ap (λ y. y ∷ drop (suc i) xs) (sym e));
    before = p;
    refused = h;
  }

  same-first : (one : (x : A) (r s : Refusal) → refuses x r → refuses x s → r ≡ s) (apart : (x : A) (r : Refusal) → passes x → refuses x r → ⊥)
      (front other : List A) (x y : A) (back rest : List A) (r s : Refusal) → front ++ (x ∷ back) ≡ other ++ (y ∷ rest) → All passes front → All passes other → refuses x r → refuses y s → r ≡ s
  same-first one apart [] [] x y back rest r s e p q h k = let d : y ≡ x = cc in one x r s h (subst (λ z. refuses z s) d k)
  same-first one apart [] (z ∷ other) x y back rest r s e p q h k = let d : z ≡ x = cc in absurd (apart x r (subst passes d (q 0 z (omega arith))) h)
  same-first one apart (z ∷ front) [] x y back rest r s e p q h k = let d : z ≡ y = cc in absurd (apart y s (subst passes d (p 0 z (omega arith))) k)
  same-first one apart (z ∷ front) (w ∷ other) x y back rest r s e p q h k =
      let d : front ++ (x ∷ back) ≡ other ++ (y ∷ rest) = cc in
      same-first one apart front other x y back rest r s d (λ i d l. p (suc i) d (omega arith)) (λ i d l. q (suc i) d (omega arith)) h k

  first-passes : (apart : (x : A) (r : Refusal) → passes x → refuses x r → ⊥) (front : List A) (x : A) (back : List A) (r : Refusal) → All passes (front ++ (x ∷ back)) → refuses x r → ⊥
  first-passes apart [] x back r p h = apart x r (p 0 x (omega arith)) h
  first-passes apart (z ∷ front) x back r p h = first-passes apart front x back r (λ i d l. p (suc i) d (omega arith)) h

  -- at most one, and none where each item passes
  pub first-one : ((x : A) (r s : Refusal) → refuses x r → refuses x s → r ≡ s) → ((x : A) (r : Refusal) → passes x → refuses x r → ⊥) → (xs : List A) (r s : Refusal)
      → IsFirstRefused passes refuses xs r → IsFirstRefused passes refuses xs s → r ≡ s
  first-one one apart xs r s a b = same-first one apart a.front b.front a.item b.item a.back b.back r s (sym a.joined ∙ b.joined) a.before b.before a.refused b.refused

  pub first-none : ((x : A) (r : Refusal) → passes x → refuses x r → ⊥) → (xs : List A) (r : Refusal) → All passes xs → IsFirstRefused passes refuses xs r → ⊥
  first-none apart xs r p a = first-passes apart a.front a.item a.back r (subst (All passes) a.joined p) a.refused

pub contains-at : {A : Type 0} (xs : List A) (i : ℕ) (x : A) → i < length xs → x ≡ get_or xs i x → Contains xs x
contains-at xs i x l e = (i, l, sym e)

-- an item that is refused, or where a number is wide, after items that pass
pub or-wide-among : {A : Type 0} (passes : A → Type 0) (refuses : A → Refusal → Type 0) (wide : A → ℕ → Type 0) (xs : List A) (i : ℕ) (x : A) (r : Refusal)
    → i < length xs → x ≡ get_or xs i x → All passes (take i xs) → OrWide refuses wide x r → OrWide (IsFirstRefused passes refuses) (IsWideAmong wide) xs r
or-wide-among passes refuses wide xs i x r l e p (inl h) = inl (first-at passes refuses xs i x r l e p h)
or-wide-among passes refuses wide xs i x r l e p (inr (k, w, h)) = inr (k, (x, contains-at xs i x l e, w), h)
