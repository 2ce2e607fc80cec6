-- The part that is read of a word is the one that it spells.
--
-- part_in-sound: a part that is read of a word is spelled by it
-- part_in-text_of: a part is read of its spelling
use Rattle.std.proofs.Common.{◌≡◌, ℕ, zero, suc, ◌+◌, ◌≤◌, Bool, true, false, List, [], ◌∷◌, ◌++◌, ◌⊎◌, ◌==◌, ◌&&◌, ◌||◌, not, Option, Some, None, refl, sym, ap, ◌∙◌, arith, inl, inr}
use Rattle.std.proofs.lemmas.Bool.{eqb-true}
use Rattle.std.proofs.lemmas.Bool.Decides.{nat_tests}
use Rattle.std.proofs.lemmas.List.Folds.{list_all-append}
use Rattle.std.specs.List.{list_all}
use Rattle.hall_symbol.specs.declared.rotation.Axis.{Axis}
use Rattle.hall_symbol.specs.declared.rotation.Axis.TheVariants.{Along, Prime, DoublePrime, Star}
use Rattle.hall_symbol.specs.declared.rotation.CellAxis.TheVariants.{X, Y, Z}
use Rattle.hall_symbol.specs.declared.rotation.Order.{Order}
use Rattle.hall_symbol.specs.declared.part.Part.{Part}
use Rattle.hall_symbol.specs.Spelling.{Spelling, IsSpelling, text_of, part_of, sign_text, order_byte, digit_text, axis_byte, axis_text, is_letter, letters_shift}
use Rattle.iso_text.specs.Cuts.{is_blank}
use Rattle.hall_symbol.specs.PartReading.{sign_at, order_at, digit_at, axis_at, letters_of, one_digit, part_from, part_in}
use Rattle.hall_symbol.specs.declared.rotation.Order.TheVariants as order
use Rattle.hall_symbol.proofs.Cases.{and-first, and-second, bind-some, chosen, option-cases, some-value}
use Rattle.hall_symbol.proofs.WordsGrammar.{is_plain, is_word}
use Rattle.hall_symbol.proofs.PartFronts.{axis_at-byte, axis_at-letters, axis_at-split, digit_at-none, digit_at-split, digit_at-text, letter-cases, letters_of-all, letters_of-sound, no_digit-axis, no_digit-letters, order_at-byte, order_at-sound, sign_at-split, sign_at-text}

one_digit-sound : (front back d : ℕ) → one_digit front back ≡ Some d → ((front ≡ 0) ⊎ (back ≡ 0)) × (front + back ≡ d)
one_digit-sound front back d h = elim (chosen (front == 0) _ _ _ h) [
  | inl (none, v) ↦ let e = eqb-true front 0 none in let f = some-value _ _ v in (inl e, omega arith)
  | inr (_, h2) ↦ elim (chosen (back == 0) _ _ _ h2) [
    | inl (none, v) ↦ let e = eqb-true back 0 none in let f = some-value _ _ v in (inr e, omega arith)
    | inr (_, v) ↦ cc v
  ]
]

one_digit-sum : (front back : ℕ) → (front ≡ 0) ⊎ (back ≡ 0) → one_digit front back ≡ Some (front + back)
one_digit-sum zero back side = ap Some (omega arith)
one_digit-sum (suc front) zero side =
    let other : (suc front == 0) ≡ false = grind (arith, nat_tests) in
    rw other (ap Some (omega arith))
one_digit-sum (suc front) (suc back) (inl e) = cc e
one_digit-sum (suc front) (suc back) (inr e) = cc e

-- what is read from the axis on
part_from-sound : (negated : Bool) (n : Order) (front : ℕ) (w : List ℕ) (p : Part) → part_from negated n front w ≡ Some p
    → let axis = axis_at w in let back = digit_at axis.1 in
    ((front ≡ 0) ⊎ (back.0 ≡ 0)) × (list_all is_letter back.1 ≡ true)
    × (let q : Part = record { negated = negated; order = n; digit = front + back.0; axis = axis.0; letters = letters_shift back.1 } in q ≡ p)
unfolding part_from
part_from-sound negated n front w p h =
    let axis = axis_at w in
    let back = digit_at axis.1 in
    let digit = bind-some (one_digit front back.0) _ p h in
    let letters = bind-some (letters_of back.1) _ p digit.2 in
    let one = one_digit-sound front back.0 digit.0 digit.1 in
    let all = letters_of-sound back.1 letters.0 letters.1 in
    (one.0, all.0, (λ i. let q : Part = record { negated = negated; order = n; digit = one.1 i; axis = axis.0; letters = all.1 i } in q) ∙ some-value _ _ letters.2)

-- a part that is read of a word is spelled by it
pub part_in-sound : (w : List ℕ) (p : Part) → part_in w ≡ Some p → (s : Spelling) × IsSpelling s × (w ≡ text_of s) × (part_of s ≡ p)
unfolding part_in
part_in-sound w p h =
    let sign = sign_at w in
    let read = bind-some (order_at sign.1) _ p h in
    let n = read.0.0 in
    let front = digit_at read.0.1 in
    let axis = axis_at front.1 in
    let back = digit_at axis.1 in
    let rest = part_from-sound sign.0 n front.0 front.1 p read.2 in
    let front-split = digit_at-split read.0.1 in
    let back-split = digit_at-split axis.1 in
    let s : Spelling = record { negated = sign.0; order = n; front = front.0; axis = axis.0; back = back.0; letters = back.1 } in
    let e-back : front.1 ≡ axis_text axis.0 ++ (digit_text back.0 ++ back.1) = axis_at-split front.1 ∙ ap (λ t. axis_text axis.0 ++ t) back-split.split in
    let e-order : sign.1 ≡ order_byte n ∷ (digit_text front.0 ++ (axis_text axis.0 ++ (digit_text back.0 ++ back.1))) =
    order_at-sound sign.1 n read.0.1 read.1 ∙ ap (λ t. order_byte n ∷ t) (front-split.split ∙ ap (λ t. digit_text front.0 ++ t) e-back) in
    (s, record { front = front-split.small; back = back-split.small; one_digit = rest.0; letters = rest.1 }, sign_at-split w ∙ ap (λ t. sign_text sign.0 ++ t) e-order, rest.2)

-- what is read from the axis on, by what its readers give
part_from-read : (negated : Bool) (n : Order) (front : ℕ) (w : List ℕ) (axis : Option Axis) (v : List ℕ) (back : ℕ) (letters : List ℕ)
    → axis_at w ≡ (axis, v) → digit_at v ≡ (back, letters) → (front ≡ 0) ⊎ (back ≡ 0) → list_all is_letter letters ≡ true
    → part_from negated n front w ≡ Some (record { negated = negated; order = n; digit = front + back; axis = axis; letters = letters_shift letters })
unfolding part_from
part_from-read negated n front w axis v back letters a b one all =
    rw (a, b, one_digit-sum front back one, letters_of-all letters all) refl

-- a part is read of its sign, its order and what is read behind
part_in-read : (s : Spelling) (front : ℕ) (w rest : List ℕ) → digit_at w ≡ (front, rest)
    → part_in (sign_text s.negated ++ (order_byte s.order ∷ w)) ≡ part_from s.negated s.order front rest
unfolding part_in
part_in-read s front w rest e = rw (sign_at-text s.negated s.order w, order_at-byte s.order w, e) refl

-- a part whose axis is written
part_in-axis : (s : Spelling) (a : Axis) → s.axis ≡ Some a → IsSpelling s → part_in (text_of s) ≡ Some (part_of s)
part_in-axis s a e h =
    let behind : List ℕ = digit_text s.back ++ s.letters in
    let first : digit_at (digit_text s.front ++ (axis_byte a ∷ behind)) ≡ (s.front, axis_byte a ∷ behind) = digit_at-text s.front (axis_byte a ∷ behind) h.front (no_digit-axis a behind) in
    let written : text_of s ≡ sign_text s.negated ++ (order_byte s.order ∷ (digit_text s.front ++ (axis_byte a ∷ behind))) =
    ap (λ x. sign_text s.negated ++ (order_byte s.order ∷ (digit_text s.front ++ (axis_text x ++ behind)))) e in
    let read = part_from-read s.negated s.order s.front (axis_byte a ∷ behind) (Some a) behind s.back s.letters (axis_at-byte a behind) (digit_at-text s.back s.letters h.back (no_digit-letters s.letters h.letters)) h.one_digit h.letters in
    ap part_in written ∙ part_in-read s s.front (digit_text s.front ++ (axis_byte a ∷ behind)) (axis_byte a ∷ behind) first ∙ read
    ∙ ap (λ x. let q : Part = record { negated = s.negated; order = s.order; digit = s.front + s.back; axis = x; letters = letters_shift s.letters } in Some q) (sym e)

-- a part without an axis: its one digit may stand in either place
part_in-bare : (s : Spelling) (digits : ℕ) → s.axis ≡ None → digit_text s.front ++ (digit_text s.back ++ s.letters) ≡ digit_text digits ++ s.letters → digits ≡ s.front + s.back → digits ≤ 9
    → IsSpelling s → part_in (text_of s) ≡ Some (part_of s)
part_in-bare s digits e text sum small h =
    let plain = no_digit-letters s.letters h.letters in
    let written : text_of s ≡ sign_text s.negated ++ (order_byte s.order ∷ (digit_text digits ++ s.letters)) =
    ap (λ x. sign_text s.negated ++ (order_byte s.order ∷ (digit_text s.front ++ (axis_text x ++ (digit_text s.back ++ s.letters))))) e
    ∙ ap (λ t. sign_text s.negated ++ (order_byte s.order ∷ t)) text in
    let read = part_from-read s.negated s.order digits s.letters None s.letters 0 s.letters (axis_at-letters s.letters h.letters) (digit_at-none s.letters plain) (inr refl) h.letters in
    let total : digits + 0 ≡ s.front + s.back = omega arith in
    ap part_in written ∙ part_in-read s digits (digit_text digits ++ s.letters) s.letters (digit_at-text digits s.letters small plain) ∙ read
    ∙ ap (λ d. let q : Part = record { negated = s.negated; order = s.order; digit = d; axis = None; letters = letters_shift s.letters } in Some q) total
    ∙ ap (λ x. let q : Part = record { negated = s.negated; order = s.order; digit = s.front + s.back; axis = x; letters = letters_shift s.letters } in Some q) (sym e)

-- a part is read of its spelling
pub part_in-text_of : (s : Spelling) → IsSpelling s → part_in (text_of s) ≡ Some (part_of s)
part_in-text_of s h = elim (option-cases s.axis) [
  | inl bare ↦ elim h.one_digit [
    | inl e ↦ part_in-bare s s.back bare (ap (λ d. digit_text d ++ (digit_text s.back ++ s.letters)) e) (omega arith) h.back h
    | inr e ↦ part_in-bare s s.front bare (ap (λ d. digit_text s.front ++ (digit_text d ++ s.letters)) e) (omega arith) h.front h
  ]
  | inr (a, e) ↦ part_in-axis s a e h
]

-- ---- the word of a part

plain-digit : (d : ℕ) → d ≤ 9 → list_all is_plain (digit_text d) ≡ true
plain-digit zero h = refl
plain-digit (suc d) h = grind (arith, nat_tests)

plain-axis : (a : Option Axis) → list_all is_plain (axis_text a) ≡ true
plain-axis None = refl
plain-axis (Some (Along X)) = refl
plain-axis (Some (Along Y)) = refl
plain-axis (Some (Along Z)) = refl
plain-axis (Some Prime) = refl
plain-axis (Some DoublePrime) = refl
plain-axis (Some Star) = refl

plain-letters : (cs : List ℕ) → list_all is_letter cs ≡ true → list_all is_plain cs ≡ true
plain-letters [] h = refl
plain-letters (c ∷ cs) h =
    let first : is_plain c ≡ true = letter-cases (λ b. is_plain b ≡ true) c (and-first (is_letter c) (list_all is_letter cs) h) refl refl refl refl refl refl refl refl in
    ap (λ t. t && list_all is_plain cs) first ∙ plain-letters cs (and-second (is_letter c) (list_all is_letter cs) h)

pub plain-append : (v w : List ℕ) → list_all is_plain v ≡ true → list_all is_plain w ≡ true → list_all is_plain (v ++ w) ≡ true
plain-append v w e f = list_all-append is_plain v w ∙ ap (λ t. t && list_all is_plain w) e ∙ f

plain-order : (n : Order) → is_plain (order_byte n) ≡ true
plain-order order.One = refl
plain-order order.Two = refl
plain-order order.Three = refl
plain-order order.Four = refl
plain-order order.Six = refl

-- what stands behind the sign and the order
plain-rest : (s : Spelling) → IsSpelling s → list_all is_plain (digit_text s.front ++ (axis_text s.axis ++ (digit_text s.back ++ s.letters))) ≡ true
plain-rest s h =
    plain-append (digit_text s.front) (axis_text s.axis ++ (digit_text s.back ++ s.letters)) (plain-digit s.front h.front)
    (plain-append (axis_text s.axis) (digit_text s.back ++ s.letters) (plain-axis s.axis)
    (plain-append (digit_text s.back) s.letters (plain-digit s.back h.back) (plain-letters s.letters h.letters)))

first-blank : (s t : Bool) → not (s || t) ≡ true → not s ≡ true
first-blank true t h = h
first-blank false t h = refl

pub plain-word : (c : ℕ) (cs : List ℕ) → list_all is_plain (c ∷ cs) ≡ true → is_word (c ∷ cs) ≡ true
plain-word c [] h = first-blank (is_blank c) (c == 40 || c == 41) (and-first (is_plain c) true h)
plain-word c (d ∷ ds) h = h

sign-word : (b : Bool) (n : Order) (rest : List ℕ) → list_all is_plain rest ≡ true → is_word (sign_text b ++ (order_byte n ∷ rest)) ≡ true
sign-word true n rest h = ap (λ t. t && list_all is_plain rest) (plain-order n) ∙ h
sign-word false n rest h = plain-word (order_byte n) rest (ap (λ t. t && list_all is_plain rest) (plain-order n) ∙ h)

-- a part is a word
pub is_word-text_of : (s : Spelling) → IsSpelling s → is_word (text_of s) ≡ true
is_word-text_of s h = sign-word s.negated s.order _ (plain-rest s h)
