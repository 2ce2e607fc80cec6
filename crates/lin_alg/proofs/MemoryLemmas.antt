use Rattle.std.proofs.Common.{◌≡◌, ℕ, suc, zero, ◌<◌, ◌+◌, refl, sym, ◌∙◌, ap, List, [], ◌∷◌, ◌++◌, length, map, get_or, take, replicate, ◌-◌, arith}
use Rattle.lin_alg.proofs.PlaceLemmas.{take-item}
use Rattle.cyclo24.specs.ExactField.{ExactField, Value}
use Rattle.lin_alg.specs.Rows.{vector, HaveLength}

pub vector-zeros : {A : Type 0} (f : ExactField) (value : A → Value f) (n : ℕ) (z : A) → value z ≡ f.laws.nought → (j : ℕ) → vector f.laws value (replicate n z) j ≡ f.laws.nought
vector-zeros f value zero z e j = refl
vector-zeros f value (suc n) z e zero = e
vector-zeros f value (suc n) z e (suc j) = vector-zeros f value n z e j

pub long-append : {A X : Type 0} (h : X → List A) (w : ℕ) (xs : List X) (x : X) → HaveLength w (map h xs) → length (h x) ≡ w → HaveLength w (map h (xs ++ x ∷ []))
long-append h w [] x a e = (e, tt)
long-append h w (y ∷ ys) x a e = (a.0, long-append h w ys x a.1 e)

filled : {A : Type 0} (xs row : List A) (n m : ℕ) (z : A) → row ≡ [] → m ≡ 0 → xs ≡ take n row ++ replicate (n - m) z → xs ≡ replicate n z
filled xs row n m z r e h = h ∙ (λ i. take n (r i) ++ replicate (n - e i) z) ∙ none n where
  none : (k : ℕ) → take k [] ++ replicate (n - 0) z ≡ replicate n z
  none zero = let d : n - 0 ≡ n = omega arith in ap (λ k. replicate k z) d
  none (suc k) = let d : n - 0 ≡ n = omega arith in ap (λ k. replicate k z) d

pub vector-filled : {A : Type 0} (f : ExactField) (value : A → Value f) (xs row : List A) (n m : ℕ) (z : A) → row ≡ [] → m ≡ 0 → xs ≡ take n row ++ replicate (n - m) z →
    value z ≡ f.laws.nought → (j : ℕ) → vector f.laws value xs j ≡ f.laws.nought
vector-filled f value xs row n m z r e h v j = ap (λ ys. vector f.laws value ys j) (filled xs row n m z r e h) ∙ vector-zeros f value n z v j

map-last : {X Y : Type 0} (h : X → Y) (xs : List X) (x : X) → map h (xs ++ x ∷ []) ≡ map h xs ++ h x ∷ []
map-last h [] x = refl
map-last h (y ∷ ys) x = ap (λ z. h y ∷ z) (map-last h ys x)

-- one more item was copied
pub copied-next : {X Y : Type 0} (h : X → Y) (all : List Y) (new old : List X) (x : X) (i : ℕ) (y : Y) → new ≡ old ++ x ∷ [] → h x ≡ y → i < length all → y ≡ get_or all i y →
    map h old ≡ take i all → map h new ≡ take (i + 1) all
copied-next h all new old x i y e s l a t =
    ap (map h) e ∙ map-last h old x ∙ (λ j. t j ++ s j ∷ []) ∙ sym (take-item all i y l a)
