-- What is read of the front of a part's word is what stands there: the sign, the order, a digit, the axis and the letters.
use Rattle.std.proofs.Common.{◌≡◌, ℕ, zero, suc, ◌+◌, ◌-◌, ◌≤◌, ◌<◌, Bool, true, false, List, [], ◌∷◌, ◌++◌, ◌==◌, ◌&&◌, not, nat_le, Option, Some, None, refl, sym, ap, ◌∙◌, arith, inl, inr, subst}
use Rattle.std.proofs.lemmas.Bool.{cases_Bool, eqb-true}
use Rattle.std.proofs.lemmas.Bool.Decides.{nat_tests}
use Rattle.std.specs.List.{list_all}
use Rattle.hall_symbol.specs.declared.rotation.Axis.{Axis}
use Rattle.hall_symbol.specs.declared.rotation.Axis.TheVariants.{Along, Prime, DoublePrime, Star}
use Rattle.hall_symbol.specs.declared.rotation.CellAxis.TheVariants.{X, Y, Z}
use Rattle.hall_symbol.specs.declared.rotation.Order.{Order}
use Rattle.hall_symbol.specs.Spelling.{sign_text, order_byte, digit_text, axis_byte, axis_text, is_letter, letters_shift}
use Rattle.hall_symbol.specs.PartReading.{sign_at, order_of_byte, order_at, digit_at, axis_of_byte, axis_or, axis_at, letters_of}
use Rattle.hall_symbol.specs.declared.rotation.Order.TheVariants as order
use Rattle.hall_symbol.proofs.Cases.{and-first, bind-some, chosen, or-true, some-value}

-- ---- the sign

pub sign_at-split : (w : List ℕ) → w ≡ sign_text (sign_at w).0 ++ (sign_at w).1
sign_at-split [] = refl
sign_at-split (c ∷ cs) = elim (cases_Bool (c == 45)) [
  | inl minus ↦ rw minus (ap (λ b. b ∷ cs) (eqb-true c 45 minus))
  | inr other ↦ rw other refl
]

-- ---- the order

pub order_of_byte-sound : (c : ℕ) (n : Order) → order_of_byte c ≡ Some n → c ≡ order_byte n
order_of_byte-sound c n h = elim (chosen (c == 49) _ _ _ h) [
  | inl (e, v) ↦ eqb-true c 49 e ∙ ap order_byte (some-value _ _ v)
  | inr (_, h2) ↦ elim (chosen (c == 50) _ _ _ h2) [
    | inl (e, v) ↦ eqb-true c 50 e ∙ ap order_byte (some-value _ _ v)
    | inr (_, h3) ↦ elim (chosen (c == 51) _ _ _ h3) [
      | inl (e, v) ↦ eqb-true c 51 e ∙ ap order_byte (some-value _ _ v)
      | inr (_, h4) ↦ elim (chosen (c == 52) _ _ _ h4) [
        | inl (e, v) ↦ eqb-true c 52 e ∙ ap order_byte (some-value _ _ v)
        | inr (_, h5) ↦ elim (chosen (c == 54) _ _ _ h5) [
          | inl (e, v) ↦ eqb-true c 54 e ∙ ap order_byte (some-value _ _ v)
          | inr (_, v) ↦ cc v
        ]
      ]
    ]
  ]
]

pub order_at-sound : (w : List ℕ) (n : Order) (rest : List ℕ) → order_at w ≡ Some (n, rest) → w ≡ order_byte n ∷ rest
unfolding order_at
order_at-sound [] n rest h = cc h
order_at-sound (c ∷ cs) n rest h =
    let b = bind-some (order_of_byte c) _ (n, rest) h in
    let e : b.0 ≡ n = ap (λ p. p.0) (some-value _ _ b.2) in
    let f : cs ≡ rest = ap (λ p. p.1) (some-value _ _ b.2) in
    ap (λ x. x ∷ cs) (order_of_byte-sound c b.0 b.1 ∙ ap order_byte e) ∙ ap (λ r. order_byte n ∷ r) f

pub order_at-byte : (n : Order) (rest : List ℕ) → order_at (order_byte n ∷ rest) ≡ Some (n, rest)
unfolding order_at
order_at-byte order.One rest = refl
order_at-byte order.Two rest = refl
order_at-byte order.Three rest = refl
order_at-byte order.Four rest = refl
order_at-byte order.Six rest = refl

pub sign_at-text : (b : Bool) (n : Order) (rest : List ℕ) → sign_at (sign_text b ++ (order_byte n ∷ rest)) ≡ (b, order_byte n ∷ rest)
sign_at-text true n rest = refl
sign_at-text false order.One rest = refl
sign_at-text false order.Two rest = refl
sign_at-text false order.Three rest = refl
sign_at-text false order.Four rest = refl
sign_at-text false order.Six rest = refl

-- ---- the digits

pub digit_text-some : (d : ℕ) (c : ℕ) → c ≡ 48 + d → 0 < d → digit_text d ≡ c ∷ []
digit_text-some zero c e some = absurd (omega arith)
digit_text-some (suc d) c e some = let f : 49 + d ≡ c = omega arith in ap (λ x. x ∷ []) f

pub record SplitsDigit (w : List ℕ) (d : ℕ) (rest : List ℕ) : Type 0 where
  pub small : d ≤ 9
  pub split : w ≡ digit_text d ++ rest

pub digit_at-split : (w : List ℕ) → SplitsDigit w (digit_at w).0 (digit_at w).1
unfolding digit_at
digit_at-split [] = record { small = omega arith; split = refl }
digit_at-split (c ∷ cs) = elim (cases_Bool (nat_le 49 c && nat_le c 57)) [
  | inl digit ↦
      let low : 49 ≤ c = grind (arith, nat_tests) in
      let high : c ≤ 57 = grind (arith, nat_tests) in
      let e : digit_text (c - 48) ≡ c ∷ [] = digit_text-some (c - 48) c (omega arith) (omega arith) in
      rw digit (record { small = omega arith; split = ap (λ t. t ++ cs) (sym e) })
  | inr other ↦ rw other (record { small = omega arith; split = refl })
]

-- the first byte is no digit from 1 to 9
abbrev no_digit : List ℕ → Bool
no_digit [] = true
no_digit (c ∷ cs) = not (nat_le 49 c && nat_le c 57)

pub digit_at-none : (w : List ℕ) → no_digit w ≡ true → digit_at w ≡ (0, w)
unfolding digit_at
digit_at-none [] h = refl
digit_at-none (c ∷ cs) h = elim (cases_Bool (nat_le 49 c && nat_le c 57)) [
  | inl digit ↦ cc (rw digit at h)
  | inr other ↦ rw other refl
]

pub digit_at-text : (d : ℕ) (rest : List ℕ) → d ≤ 9 → no_digit rest ≡ true → digit_at (digit_text d ++ rest) ≡ (d, rest)
unfolding digit_at
digit_at-text zero rest small h = digit_at-none rest h
digit_at-text (suc d) rest small h =
    let low : nat_le 49 (49 + d) ≡ true = grind (arith, nat_tests) in
    let high : nat_le (49 + d) 57 ≡ true = grind (arith, nat_tests) in
    let e : (49 + d) - 48 ≡ suc d = omega arith in
    rw (low, high, e) refl

-- ---- the axis

pub axis_of_byte-sound : (c : ℕ) (a : Axis) → axis_of_byte c ≡ Some a → c ≡ axis_byte a
axis_of_byte-sound c a h = elim (chosen (c == 120) _ _ _ h) [
  | inl (e, v) ↦ eqb-true c 120 e ∙ ap axis_byte (some-value _ _ v)
  | inr (_, h2) ↦ elim (chosen (c == 121) _ _ _ h2) [
    | inl (e, v) ↦ eqb-true c 121 e ∙ ap axis_byte (some-value _ _ v)
    | inr (_, h3) ↦ elim (chosen (c == 122) _ _ _ h3) [
      | inl (e, v) ↦ eqb-true c 122 e ∙ ap axis_byte (some-value _ _ v)
      | inr (_, h4) ↦ elim (chosen (c == 39) _ _ _ h4) [
        | inl (e, v) ↦ eqb-true c 39 e ∙ ap axis_byte (some-value _ _ v)
        | inr (_, h5) ↦ elim (chosen (c == 34) _ _ _ h5) [
          | inl (e, v) ↦ eqb-true c 34 e ∙ ap axis_byte (some-value _ _ v)
          | inr (_, h6) ↦ elim (chosen (c == 42) _ _ _ h6) [
            | inl (e, v) ↦ eqb-true c 42 e ∙ ap axis_byte (some-value _ _ v)
            | inr (_, v) ↦ cc v
          ]
        ]
      ]
    ]
  ]
]

pub axis_or-split : (c : ℕ) (cs : List ℕ) (o : Option Axis) → axis_of_byte c ≡ o → c ∷ cs ≡ axis_text (axis_or o cs (c ∷ cs)).0 ++ (axis_or o cs (c ∷ cs)).1
axis_or-split c cs None h = refl
axis_or-split c cs (Some a) h = ap (λ b. b ∷ cs) (axis_of_byte-sound c a h)

pub axis_at-split : (w : List ℕ) → w ≡ axis_text (axis_at w).0 ++ (axis_at w).1
unfolding axis_at
axis_at-split [] = refl
axis_at-split (c ∷ cs) = axis_or-split c cs (axis_of_byte c) refl

pub axis_at-byte : (a : Axis) (rest : List ℕ) → axis_at (axis_byte a ∷ rest) ≡ (Some a, rest)
unfolding axis_at
axis_at-byte (Along X) rest = refl
axis_at-byte (Along Y) rest = refl
axis_at-byte (Along Z) rest = refl
axis_at-byte Prime rest = refl
axis_at-byte DoublePrime rest = refl
axis_at-byte Star rest = refl

pub no_digit-axis : (a : Axis) (rest : List ℕ) → no_digit (axis_byte a ∷ rest) ≡ true
no_digit-axis (Along X) rest = refl
no_digit-axis (Along Y) rest = refl
no_digit-axis (Along Z) rest = refl
no_digit-axis Prime rest = refl
no_digit-axis DoublePrime rest = refl
no_digit-axis Star rest = refl

-- ---- the letters

-- what holds of each letter
pub letter-cases : (P : ℕ → Type 0) (c : ℕ) → is_letter c ≡ true → P 97 → P 98 → P 99 → P 110 → P 117 → P 118 → P 119 → P 100 → P c
letter-cases P c h pa pb pd pn pu pv pw pe = elim (or-true (c == 97) _ h) [
  | inl e ↦ subst P (sym (eqb-true c 97 e)) pa
  | inr h2 ↦ elim (or-true (c == 98) _ h2) [
    | inl e ↦ subst P (sym (eqb-true c 98 e)) pb
    | inr h3 ↦ elim (or-true (c == 99) _ h3) [
      | inl e ↦ subst P (sym (eqb-true c 99 e)) pd
      | inr h4 ↦ elim (or-true (c == 110) _ h4) [
        | inl e ↦ subst P (sym (eqb-true c 110 e)) pn
        | inr h5 ↦ elim (or-true (c == 117) _ h5) [
          | inl e ↦ subst P (sym (eqb-true c 117 e)) pu
          | inr h6 ↦ elim (or-true (c == 118) _ h6) [
            | inl e ↦ subst P (sym (eqb-true c 118 e)) pv
            | inr h7 ↦ elim (or-true (c == 119) _ h7) [
              | inl e ↦ subst P (sym (eqb-true c 119 e)) pw
              | inr e ↦ subst P (sym (eqb-true c 100 e)) pe
            ]
          ]
        ]
      ]
    ]
  ]
]

pub no_digit-letters : (cs : List ℕ) → list_all is_letter cs ≡ true → no_digit cs ≡ true
no_digit-letters [] h = refl
no_digit-letters (c ∷ cs) h =
    letter-cases (λ b. not (nat_le 49 b && nat_le b 57) ≡ true) c (and-first (is_letter c) (list_all is_letter cs) h) refl refl refl refl refl refl refl refl

pub axis_at-letters : (cs : List ℕ) → list_all is_letter cs ≡ true → axis_at cs ≡ (None, cs)
unfolding axis_at
axis_at-letters [] h = refl
axis_at-letters (c ∷ cs) h =
    letter-cases (λ b. axis_or (axis_of_byte b) cs (b ∷ cs) ≡ (None, b ∷ cs)) c (and-first (is_letter c) (list_all is_letter cs) h) refl refl refl refl refl refl refl refl

pub letters_of-sound : (cs : List ℕ) (t : List ℕ) → letters_of cs ≡ Some t → (list_all is_letter cs ≡ true) × (letters_shift cs ≡ t)
unfolding letters_of
letters_of-sound cs t h = elim (chosen (list_all is_letter cs) _ _ _ h) [
  | inl (all, v) ↦ (all, some-value _ _ v)
  | inr (_, v) ↦ cc v
]

pub letters_of-all : (cs : List ℕ) → list_all is_letter cs ≡ true → letters_of cs ≡ Some (letters_shift cs)
unfolding letters_of
letters_of-all cs h = rw h refl
