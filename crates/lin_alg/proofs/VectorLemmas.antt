use Rattle.std.proofs.Common.{◌≡◌, ℕ, suc, zero, ◌<◌, ◌≤◌, ◌+◌, ◌⊎◌, inl, inr, true, refl, sym, ◌∙◌, ap, List, [], ◌∷◌, length, map, get_or, set, take, arith, length-set, length-take, below_more}
use Rattle.std.proofs.lemmas.List.{get_or-map, get_or-set_same, get_or-set_other, map-set, get_or_past, length-map}
use Rattle.lin_alg.specs.Spans.{less}
use Rattle.lin_alg.specs.Reduced.{scaled}
use Rattle.cyclo24.specs.FieldLaws.{less-at-nought, times-nought}
use Rattle.lin_alg.specs.SpanLaws.{funext}
use Rattle.cyclo24.specs.ExactField.{ExactField, Value}
use Rattle.lin_alg.specs.Rows.{vector}

-- a row that is divided stays 0 where it is 0
pub scaled-behind : (f : ExactField) (p : ℕ) (v : ℕ → Value f) (j : ℕ) → v j ≡ f.laws.nought → scaled f.laws p v j ≡ f.laws.nought
scaled-behind f p v j z = ap (f.laws.times (f.laws.inverse (v p))) z ∙ times-nought f.laws (f.laws.inverse (v p))

dec : (k n : ℕ) → (k < n) ⊎ (n ≤ k)
dec k n = grind arith

module _ {A : Type 0} (f : ExactField) (value : A → Value f) where
  pub vector-at : (xs : List A) (j : ℕ) (x : A) → j < length xs → x ≡ get_or xs j x → vector f.laws value xs j ≡ value x
  vector-at xs j x l e = get_or-map value xs j x f.laws.nought l ∙ ap value (sym e)

  pub vector-set_same : (xs : List A) (j : ℕ) (x : A) → j < length xs → vector f.laws value (set xs j x) j ≡ value x
  vector-set_same xs j x l =
      vector-at (set xs j x) j x (rw length-set l) (sym (get_or-set_same xs j x x l))

  pub vector-set_other : (xs : List A) (j k : ℕ) (x : A) → (k ≡ j → ⊥) → vector f.laws value (set xs j x) k ≡ vector f.laws value xs k
  vector-set_other xs j k x n =
      ap (λ ys. get_or ys k f.laws.nought) (map-set value xs j x) ∙ get_or-set_other (map value xs) j k (value x) f.laws.nought n

  pub vector-past : (xs : List A) (j : ℕ) → length xs ≤ j → vector f.laws value xs j ≡ f.laws.nought
  vector-past xs j l = get_or_past (map value xs) j f.laws.nought (rw length-map l)

  pub vector-take : (n : ℕ) (xs : List A) (j : ℕ) → j < n → vector f.laws value (take n xs) j ≡ vector f.laws value xs j
  vector-take zero xs j l = absurd (omega arith)
  vector-take (suc n) [] j l = refl
  vector-take (suc n) (x ∷ xs) zero l = refl
  vector-take (suc n) (x ∷ xs) (suc j) l = vector-take n xs j (omega arith)

  -- a row that is 0 behind p is its front
  pub vector-front : (p : ℕ) (xs : List A) → ((j : ℕ) → p < j → vector f.laws value xs j ≡ f.laws.nought) → vector f.laws value (take (p + 1) xs) ≡ vector f.laws value xs
  vector-front p xs z =
      funext (λ j. elim (dec j (p + 1)) [
        | inl l ↦ vector-take (p + 1) xs j l
        | inr l ↦
            let past : length (take (p + 1) xs) ≤ j = rw length-take (omega arith) in
            let behind : p < j = omega arith in
            vector-past (take (p + 1) xs) j past ∙ sym (z j behind)
      ])

  -- the columns below j are those of v - c b, and the others those of v
  pub record IsTaken (v : ℕ → Value f) (c : Value f) (b : ℕ → Value f) (row : List A) (j : ℕ) : Type 0 where
    pub done : (k : ℕ) → k < j → vector f.laws value row k ≡ less f.laws v c b k
    pub ahead : (k : ℕ) → j ≤ k → vector f.laws value row k ≡ v k

  pub taken-written : (v : ℕ → Value f) (c : Value f) (b : ℕ → Value f) (row : List A) (j : ℕ) (y : A) → j < length row →
      value y ≡ less f.laws v c b j → IsTaken v c b row j → IsTaken v c b (set row j y) (j + 1)
  taken-written v c b row j y l e t = record {
    done = below_more (λ k. vector f.laws value (set row j y) k ≡ less f.laws v c b k) j
        (λ k h. let n : k ≡ j → ⊥ = omega arith in vector-set_other row j k y n ∙ t.done k h)
        (vector-set_same row j y l ∙ e);
    ahead = λ k h. let n : k ≡ j → ⊥ = omega arith in let h' : j ≤ k = omega arith in vector-set_other row j k y n ∙ t.ahead k h';
  }

  pub taken-kept : (v : ℕ → Value f) (c : Value f) (b : ℕ → Value f) (row : List A) (j : ℕ) →
      f.laws.is_nought (b j) ≡ true → IsTaken v c b row j → IsTaken v c b row (j + 1)
  taken-kept v c b row j z t =
      let here : vector f.laws value row j ≡ less f.laws v c b j =
      t.ahead j (omega arith) ∙ sym (ap (λ x. f.laws.plus (v j) (f.laws.neg (f.laws.times c x))) (f.laws.is_nought-true (b j) z) ∙ less-at-nought f.laws (v j) c)
      in record {
        done = below_more (λ k. vector f.laws value row k ≡ less f.laws v c b k) j t.done here;
        ahead = λ k h. let h' : j ≤ k = omega arith in t.ahead k h';
      }

  -- behind the end of b nothing is taken
  pub taken-all : (v : ℕ → Value f) (c : Value f) (b row : List A) (j : ℕ) → length b ≤ j → IsTaken v c (vector f.laws value b) row j → vector f.laws value row ≡ less f.laws v c (vector f.laws value b)
  taken-all v c b row j l t =
      funext (λ k. elim (dec k j) [
        | inl h ↦ t.done k h
        | inr h ↦
            let past : length b ≤ k = omega arith in
            t.ahead k h ∙ sym (ap (λ x. f.laws.plus (v k) (f.laws.neg (f.laws.times c x))) (vector-past b k past) ∙ less-at-nought f.laws (v k) c)
      ])
