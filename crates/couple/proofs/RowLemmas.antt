-- Rows in two parts.
use Rattle.std.proofs.Common.{◌≡◌, ℕ, suc, zero, ◌+◌, ◌-◌, ◌<◌, ◌≤◌, inl, inr, refl, sym, ◌∙◌, ap, List, [], ◌∷◌, ◌++◌, length, take, drop, arith}
use Rattle.cyclo24.specs.ExactField.{ExactField, Value}
use Rattle.lin_alg.specs.EquationLaws.{dec}
use Rattle.lin_alg.specs.Rows.{vector}

pub length-taken : {A : Type 0} (n : ℕ) (xs : List A) → n ≤ length xs → length (take n xs) ≡ n
length-taken zero xs l = refl
length-taken (suc n) [] l = absurd (omega (arith, l))
length-taken (suc n) (x ∷ xs) l = ap suc (length-taken n xs (omega (arith, l)))

length-dropped : {A : Type 0} (n : ℕ) (xs : List A) → length (drop n xs) ≡ length xs - n
length-dropped zero xs = omega arith
length-dropped (suc n) [] = omega arith
length-dropped (suc n) (x ∷ xs) = let e : suc (length xs) - suc n ≡ length xs - n = omega arith in length-dropped n xs ∙ sym e

pub length-rest : {A : Type 0} (n m : ℕ) (xs : List A) → length xs ≡ n + m → length (take (length xs - n) (drop n xs)) ≡ m
length-rest n m xs e =
    let d : length (drop n xs) ≡ length xs - n = length-dropped n xs in
    let r : length xs - n ≡ m = omega (arith, e) in
    length-taken (length xs - n) (drop n xs) (omega (arith, d)) ∙ r

module _ {A : Type 0} (f : ExactField) (value : A → Value f) where
  pub vector-drop : (n : ℕ) (xs : List A) (j : ℕ) → vector f.laws value (drop n xs) j ≡ vector f.laws value xs (n + j)
  vector-drop zero xs j = let e : 0 + j ≡ j = omega arith in ap (vector f.laws value xs) (sym e)
  vector-drop (suc n) [] j = refl
  vector-drop (suc n) (x ∷ xs) j = let e : suc n + j ≡ suc (n + j) = omega arith in vector-drop n xs j ∙ ap (vector f.laws value (x ∷ xs)) (sym e)

  pub vector-front : (xs ys : List A) (j : ℕ) → j < length xs → vector f.laws value (xs ++ ys) j ≡ vector f.laws value xs j
  vector-front [] ys j l = absurd (omega (arith, l))
  vector-front (x ∷ xs) ys zero l = refl
  vector-front (x ∷ xs) ys (suc j) l = vector-front xs ys j (omega (arith, l))

  pub vector-back : (xs ys : List A) (j : ℕ) → vector f.laws value (xs ++ ys) (length xs + j) ≡ vector f.laws value ys j
  vector-back [] ys j = let e : 0 + j ≡ j = omega arith in ap (vector f.laws value ys) e
  vector-back (x ∷ xs) ys j = let e : suc (length xs) + j ≡ suc (length xs + j) = omega arith in ap (vector f.laws value (x ∷ xs ++ ys)) e ∙ vector-back xs ys j

  pub vector-past-front : (xs ys : List A) (j : ℕ) → length xs ≤ j → vector f.laws value (xs ++ ys) j ≡ vector f.laws value ys (j - length xs)
  vector-past-front xs ys j l =
      let e : j ≡ length xs + (j - length xs) = omega (arith, l) in
      ap (vector f.laws value (xs ++ ys)) e ∙ vector-back xs ys (j - length xs)

  -- a written front, and zeros behind it
  pub front-written : (n : ℕ) (xs zs : List A) (t : ℕ → Value f) → length xs ≡ n → vector f.laws value zs ≡ (λ _. f.laws.nought) →
      ((j : ℕ) → j < n → vector f.laws value xs j ≡ t j) → ((j : ℕ) → n ≤ j → t j ≡ f.laws.nought) → (j : ℕ) → vector f.laws value (xs ++ drop n zs) j ≡ t j
  front-written n xs zs t e z h k j =
      elim (dec j n) [
        | inl l ↦ vector-front xs (drop n zs) j (omega (arith, l, e)) ∙ h j l
        | inr l ↦ vector-past-front xs (drop n zs) j (omega (arith, l, e)) ∙ vector-drop n zs (j - length xs) ∙ ap (λ v. v (n + (j - length xs))) z ∙ sym (k j l)
      ]

  vector-take : (n : ℕ) (xs : List A) (j : ℕ) → j < n → vector f.laws value (take n xs) j ≡ vector f.laws value xs j
  vector-take zero xs j l = absurd (omega (arith, l))
  vector-take (suc n) [] j l = refl
  vector-take (suc n) (x ∷ xs) zero l = refl
  vector-take (suc n) (x ∷ xs) (suc j) l = vector-take n xs j (omega (arith, l))

  -- zeros, and a row written behind them
  pub back-written : (n m : ℕ) (zs ys ps : List A) (t : ℕ → Value f) → length zs ≡ n + m → length ys ≡ m → vector f.laws value zs ≡ (λ _. f.laws.nought) →
      ((j : ℕ) → j < m → vector f.laws value ys j ≡ t (n + j)) → ((j : ℕ) → j < n → t j ≡ f.laws.nought) → (j : ℕ) → j < n + m → vector f.laws value (take n zs ++ (ys ++ ps)) j ≡ t j
  back-written n m zs ys ps t ez ey z h k j lj =
      let e : length (take n zs) ≡ n = length-taken n zs (omega (arith, ez)) in
      elim (dec j n) [
        | inl l ↦ vector-front (take n zs) (ys ++ ps) j (omega (arith, l, e)) ∙ vector-take n zs j l ∙ ap (λ v. v j) z ∙ sym (k j l)
        | inr l ↦
            let b : j - length (take n zs) ≡ j - n = ap (λ x. j - x) e in
            let lm : j - n < m = omega (arith, l, lj) in
            let ly : j - n < length ys = omega (arith, lm, ey) in
            let r : n + (j - n) ≡ j = omega (arith, l) in
            vector-past-front (take n zs) (ys ++ ps) j (omega (arith, l, e)) ∙ ap (vector f.laws value (ys ++ ps)) b
            ∙ vector-front ys ps (j - n) ly ∙ h (j - n) lm ∙ ap t r
      ]
