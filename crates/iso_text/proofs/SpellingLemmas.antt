-- The grammar of words against the functions that readers compute.
use Rattle.std.proofs.Common.{◌≡◌, ℕ, ◌≤◌, ◌==◌, Bool, true, false, List, [], ◌∷◌, ◌++◌, length, Option, Some, None, refl, sym, ◌∙◌, ap, subst, arith, ◌&&◌, nat_le, if◌then◌else◌, inl, inr}
use Rattle.std.specs.Prelude.{option_and_then, ◌⊎◌}
use Rattle.std.specs.Option.{option_map}
use Rattle.std.specs.List.{list_all}
use Rattle.std.specs.Char.{is_ascii_digit}
use Rattle.std.proofs.lemmas.Bool.Decides.{nat_tests}
use Rattle.iso_text.specs.Cuts.{front, back, is_byte}
use Rattle.iso_text.specs.Digits.{decimal, are_digits, digits_of, whole_of, divisor_of, over_of, ratio_of}
use Rattle.iso_text.specs.Spellings.{SpellsDigits, SpellsWhole, SpellsDivisor, SpellsOver, SpellsRatio}
use Rattle.iso_text.proofs.BodyLemmas.{both, apart}
use Rattle.iso_text.proofs.Steps.{guard, bind}

-- a text that begins with a byte that p picks, or is empty
abbrev pub Stops : (ℕ → Bool) → List ℕ → Type 0
Stops p [] = Unit {0}
Stops p (c ∷ cs) = p c ≡ true

-- a text without such bytes
abbrev pub Free : (ℕ → Bool) → List ℕ → Type 0
Free p [] = Unit {0}
Free p (c ∷ cs) = (p c ≡ false) × Free p cs

pub front-append : (p : ℕ → Bool) (w rest : List ℕ) → Free p w → Stops p rest → (front p (w ++ rest) ≡ w) × (back p (w ++ rest) ≡ rest)
front-append p [] [] free stops = (refl, refl)
front-append p [] (c ∷ cs) free stops = (ap (λ t. if t then [] else c ∷ front p cs) stops, ap (λ t. if t then c ∷ cs else back p cs) stops)
front-append p (c ∷ w) rest free stops =
    let more = front-append p w rest free.1 stops in
    (ap (λ t. if t then [] else c ∷ front p (w ++ rest)) free.0 ∙ ap (λ t. c ∷ t) more.0, ap (λ t. if t then c ∷ (w ++ rest) else back p (w ++ rest)) free.0 ∙ more.1)

front_step : (p : ℕ → Bool) (c : ℕ) (cs : List ℕ) (t : Bool) → p c ≡ t → (front p cs ++ back p cs ≡ cs) → Stops p (back p cs) → ((if t then [] else c ∷ front p cs) ++ (if t then c ∷ cs else back p cs) ≡ c ∷ cs) × Stops p (if t then c ∷ cs else back p cs)
front_step p c cs true is whole stops = (refl, is)
front_step p c cs false is whole stops = (ap (λ t. c ∷ t) whole, stops)

pub front-back : (p : ℕ → Bool) (text : List ℕ) → (front p text ++ back p text ≡ text) × Stops p (back p text)
front-back p [] = (refl, tt)
front-back p (c ∷ cs) = let more = front-back p cs in front_step p c cs (p c) refl more.0 more.1

-- digits are none of the other bytes of a word
pub digits_free : (p : ℕ → Bool) (other : (c : ℕ) → is_ascii_digit c ≡ true → p c ≡ false) (text : List ℕ) → list_all is_ascii_digit text ≡ true → Free p text
digits_free p other [] all = tt
digits_free p other (c ∷ cs) all = let parts = apart (is_ascii_digit c) (list_all is_ascii_digit cs) all in (other c parts.0, digits_free p other cs parts.1)

pub le_true : (a b : ℕ) → nat_le a b ≡ true → a ≤ b
le_true a b e = grind (arith, nat_tests)

pub true_le : (a b : ℕ) → a ≤ b → nat_le a b ≡ true
true_le a b e = grind (arith, nat_tests)

some_is : {X : Type 0} (x y : X) → x ≡ y → Some x ≡ Some y
some_is x y e = ap (λ z. Some z) e

-- digits
pub digits-sound : (most : ℕ) (text : List ℕ) (n : ℕ) → digits_of most text ≡ Some n → SpellsDigits most text n
digits-sound most text n read =
    let test = guard (are_digits most text) (decimal text) n read in
    let parts = apart (nat_le (length text) most) (list_all is_ascii_digit text) test.0 in
    record { few = le_true (length text) most parts.0; digits = parts.1; value = sym test.1 }

pub digits-complete : (most : ℕ) (text : List ℕ) (n : ℕ) → SpellsDigits most text n → digits_of most text ≡ Some n
digits-complete most text n spelled =
    ap (λ t. if t then Some (decimal text) else None) (both (nat_le (length text) most) (list_all is_ascii_digit text) (true_le (length text) most spelled.few) spelled.digits) ∙ some_is (decimal text) n (sym spelled.value)

pub whole-sound : (most : ℕ) (text : List ℕ) (n : ℕ) → whole_of most text ≡ Some n → SpellsWhole most text n
whole-sound most [] n read = absurd cc
whole-sound most (c ∷ cs) n read = record { some = omega arith; spelled = digits-sound most (c ∷ cs) n read }

pub whole-complete : (most : ℕ) (text : List ℕ) (n : ℕ) → SpellsWhole most text n → whole_of most text ≡ Some n
whole-complete most [] n spelled = absurd (omega (arith, spelled.some))
whole-complete most (c ∷ cs) n spelled = digits-complete most (c ∷ cs) n spelled.spelled

pub is_this : (a b : ℕ) → (a == b) ≡ true → a ≡ b
is_this a b e = grind (arith, nat_tests)

-- denominators
pub divisor-complete : (text : List ℕ) (d : ℕ) → SpellsDivisor text d → divisor_of text ≡ Some d
divisor-complete text d (inl w) = ap divisor_of w.0 ∙ some_is 1 d (sym w.1)
divisor-complete text d (inr (inl w)) = ap divisor_of w.0 ∙ some_is 2 d (sym w.1)
divisor-complete text d (inr (inr (inl w))) = ap divisor_of w.0 ∙ some_is 3 d (sym w.1)
divisor-complete text d (inr (inr (inr (inl w)))) = ap divisor_of w.0 ∙ some_is 4 d (sym w.1)
divisor-complete text d (inr (inr (inr (inr (inl w))))) = ap divisor_of w.0 ∙ some_is 6 d (sym w.1)
divisor-complete text d (inr (inr (inr (inr (inr (inl w)))))) = ap divisor_of w.0 ∙ some_is 8 d (sym w.1)
divisor-complete text d (inr (inr (inr (inr (inr (inr (inl w))))))) = ap divisor_of w.0 ∙ some_is 12 d (sym w.1)
divisor-complete text d (inr (inr (inr (inr (inr (inr (inr w))))))) = ap divisor_of w.0 ∙ some_is 24 d (sym w.1)

pub choose : {X : Type 0} (b : Bool) (x y : X) (o : Option X) → (if b then Some x else o) ≡ Some y → ((b ≡ true) × (y ≡ x)) ⊎ ((b ≡ false) × (o ≡ Some y))
choose true x y o e = inl (refl, cc)
choose false x y o e = inr (refl, e)

one_byte : (a n d : ℕ) → (a == n) ≡ true → a ∷ [] ≡ n ∷ []
one_byte a n d e = ap (λ c. c ∷ []) (is_this a n e)

pub none_some : {A : Type 0} {X : Type 0} {y : X} → None ≡ Some y → A
none_some e = absurd (cc)

divisor_of_one : (a d : ℕ) → divisor_of (a ∷ []) ≡ Some d → SpellsDivisor (a ∷ []) d
divisor_of_one a d e = elim (choose (a == 49) 1 d _ e) [
  | inl w ↦ inl (one_byte a 49 d w.0, w.1)
  | inr w ↦ elim (choose (a == 50) 2 d _ w.1) [
    | inl w ↦ inr (inl (one_byte a 50 d w.0, w.1))
    | inr w ↦ elim (choose (a == 51) 3 d _ w.1) [
      | inl w ↦ inr (inr (inl (one_byte a 51 d w.0, w.1)))
      | inr w ↦ elim (choose (a == 52) 4 d _ w.1) [
        | inl w ↦ inr (inr (inr (inl (one_byte a 52 d w.0, w.1))))
        | inr w ↦ elim (choose (a == 54) 6 d _ w.1) [
          | inl w ↦ inr (inr (inr (inr (inl (one_byte a 54 d w.0, w.1)))))
          | inr w ↦ elim (choose (a == 56) 8 d None w.1) [
            | inl w ↦ inr (inr (inr (inr (inr (inl (one_byte a 56 d w.0, w.1))))))
            | inr w ↦ none_some w.1
          ]
        ]
      ]
    ]
  ]
]

two_bytes : (a b m n : ℕ) → (a == m && b == n) ≡ true → a ∷ b ∷ [] ≡ m ∷ n ∷ []
two_bytes a b m n e = let parts = apart (a == m) (b == n) e in ap (λ c. c ∷ b ∷ []) (is_this a m parts.0) ∙ ap (λ c. m ∷ c ∷ []) (is_this b n parts.1)

divisor_of_two : (a b d : ℕ) → divisor_of (a ∷ b ∷ []) ≡ Some d → SpellsDivisor (a ∷ b ∷ []) d
divisor_of_two a b d e = elim (choose (a == 49 && b == 50) 12 d _ e) [
  | inl w ↦ inr (inr (inr (inr (inr (inr (inl (two_bytes a b 49 50 w.0, w.1)))))))
  | inr w ↦ elim (choose (a == 50 && b == 52) 24 d None w.1) [
    | inl w ↦ inr (inr (inr (inr (inr (inr (inr (two_bytes a b 50 52 w.0, w.1)))))))
    | inr w ↦ none_some w.1
  ]
]

pub divisor-sound : (text : List ℕ) (d : ℕ) → divisor_of text ≡ Some d → SpellsDivisor text d
divisor-sound [] d e = none_some e
divisor-sound (a ∷ []) d e = divisor_of_one a d e
divisor-sound (a ∷ b ∷ []) d e = divisor_of_two a b d e
divisor-sound (a ∷ b ∷ c ∷ cs) d e = none_some e

pub over-sound : (text : List ℕ) (d : ℕ) → Stops (is_byte 47) text → over_of text ≡ Some d → SpellsOver text d
over-sound [] d stops e = cc
over-sound (c ∷ cs) d stops e = (is_this c 47 stops, divisor-sound cs d e)

pub over-complete : (text : List ℕ) (d : ℕ) → SpellsOver text d → (over_of text ≡ Some d) × Stops (is_byte 47) text
over-complete [] d e = (some_is 1 d (sym e), tt)
over-complete (c ∷ cs) d e = (divisor-complete cs d e.1, ap (λ x. x == 47) e.0)

digit_no_slash : (c : ℕ) → is_ascii_digit c ≡ true → is_byte 47 c ≡ false
digit_no_slash c digit = grind (arith, nat_tests)

pub map_some : {X Y : Type 0} (f : X → Y) (o : Option X) (y : Y) → option_map f o ≡ Some y → (x : X) × (o ≡ Some x) × (f x ≡ y)
map_some f None y e = none_some e
map_some f (Some x) y e = (x, refl, cc)

-- a ratio
pub ratio-sound : (most : ℕ) (text : List ℕ) (r : ℕ × ℕ) → ratio_of most text ≡ Some r → SpellsRatio most text r.0 r.1
ratio-sound most text r read =
    let one = bind (whole_of most (front (is_byte 47) text)) (λ n. option_map (λ d. (n, d)) (over_of (back (is_byte 47) text))) r read in
    let two = map_some (λ d. (one.0, d)) (over_of (back (is_byte 47) text)) r one.2 in
    let parts = front-back (is_byte 47) text in
    record {
      front = front (is_byte 47) text;
      over = back (is_byte 47) text;
      joined = sym parts.0;
      whole = subst (λ n. SpellsWhole most (front (is_byte 47) text) n) (ap (λ p. p.0) two.2) (whole-sound most (front (is_byte 47) text) one.0 one.1);
      divisor = subst (λ d. SpellsOver (back (is_byte 47) text) d) (ap (λ p. p.1) two.2) (over-sound (back (is_byte 47) text) two.0 parts.1 two.1);
    }

pub ratio-complete : (most : ℕ) (text : List ℕ) (n d : ℕ) → SpellsRatio most text n d → ratio_of most text ≡ Some (n, d)
ratio-complete most text n d spelled =
    let over = over-complete spelled.over d spelled.divisor in
    let parts = front-append (is_byte 47) spelled.front spelled.over (digits_free (is_byte 47) digit_no_slash spelled.front spelled.whole.spelled.digits) over.1 in
    ap (λ t. ratio_of most t) spelled.joined
    ∙ ap (λ w. option_and_then (λ m. option_map (λ e. (m, e)) (over_of (back (is_byte 47) (spelled.front ++ spelled.over)))) (whole_of most w)) parts.0
    ∙ ap (λ rest. option_and_then (λ m. option_map (λ e. (m, e)) (over_of rest)) (whole_of most spelled.front)) parts.1
    ∙ ap (λ o. option_and_then (λ m. option_map (λ e. (m, e)) (over_of spelled.over)) o) (whole-complete most spelled.front n spelled.whole)
    ∙ ap (λ o. option_map (λ e. (n, e)) o) over.0
