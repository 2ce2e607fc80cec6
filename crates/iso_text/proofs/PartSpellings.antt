-- The grammar of a coordinate's terms against their function.
use Rattle.std.proofs.Common.{◌≡◌, ℕ, ℤ, ◌*◌, ◌/◌, ◌%◌, ◌≤◌, ◌==◌, ◌||◌, ◌&&◌, Bool, true, false, List, [], ◌∷◌, ◌++◌, Option, Some, None, refl, sym, ◌∙◌, ap, subst, arith, nat_le, if◌then◌else◌, inl, inr}
use Rattle.std.specs.Prelude.{option_and_then}
use Rattle.std.specs.Char.{is_ascii_digit}
use Rattle.std.proofs.lemmas.Bool.Decides.{nat_tests}
use Rattle.iso_text.specs.Cuts.{is_byte, is_sign}
use Rattle.iso_text.specs.Digits.{ratio_of}
use Rattle.iso_text.specs.Fractions.{signed}
use Rattle.iso_text.specs.Operations.{shift_of, letter_of, axis_of, or_shift, part_of}
use Rattle.iso_text.specs.OperationSpellings.{SpellsFactor, SpellsLetter, SpellsAxis, SpellsPart}
use Rattle.iso_text.specs.declared.operation_words.Part.{Part}
use Rattle.iso_text.specs.declared.operation_words.Part.TheVariants.{X, Y, Z, Shift}
use Rattle.iso_text.proofs.BodyLemmas.{both, apart}
use Rattle.iso_text.proofs.FreeLemmas.{ratio_free}
use Rattle.iso_text.proofs.PlaceSpellings.{Free-append, digit_no_sign}
use Rattle.iso_text.proofs.SpellingLemmas.{Free, ratio-sound, ratio-complete, is_this, none_some, le_true, true_le, choose}
use Rattle.iso_text.proofs.Steps.{guard, bind}
use Rattle.iso_text.proofs.TermSpellings.{split_if}

letter-sound : (a : ℤ) (c : ℕ) (part : Part) → letter_of a c ≡ Some part → SpellsLetter a (c ∷ []) part
letter-sound a c part e = elim (choose (c == 120) (X a) part _ e) [
  | inl w ↦ inl (ap (λ x. x ∷ []) (is_this c 120 w.0), w.1)
  | inr w ↦ elim (choose (c == 121) (Y a) part _ w.1) [
    | inl w ↦ inr (inl (ap (λ x. x ∷ []) (is_this c 121 w.0), w.1))
    | inr w ↦ elim (choose (c == 122) (Z a) part None w.1) [
      | inl w ↦ inr (inr (ap (λ x. x ∷ []) (is_this c 122 w.0), w.1))
      | inr w ↦ none_some w.1
    ]
  ]
]

letter-complete : (a : ℤ) (text : List ℕ) (part : Part) → SpellsLetter a text part → (c : ℕ) × (text ≡ c ∷ []) × (letter_of a c ≡ Some part)
letter-complete a text part (inl w) = (120, w.0, ap (λ x. Some x) (sym w.1))
letter-complete a text part (inr (inl w)) = (121, w.0, ap (λ x. Some x) (sym w.1))
letter-complete a text part (inr (inr w)) = (122, w.0, ap (λ x. Some x) (sym w.1))

axis-sound : (negative : Bool) (text : List ℕ) (part : Part) → axis_of negative text ≡ Some part → SpellsAxis negative text part
axis-sound negative [] part e = none_some e
axis-sound negative (c ∷ []) part e = record { factor = []; letter = c ∷ []; amount = 1; joined = refl; times = inl (refl, refl); spelled = letter-sound (signed negative 1) c part e }
axis-sound negative (c ∷ d ∷ []) part e = elim (split_if (c == 50) (letter_of (signed negative 2) d) _ part e) [
  | inl w ↦ record { factor = c ∷ []; letter = d ∷ []; amount = 2; joined = refl; times = inr (inl (ap (λ x. x ∷ []) (is_this c 50 w.0), refl)); spelled = letter-sound (signed negative 2) d part w.1 }
  | inr w ↦ elim (split_if (c == 51) (letter_of (signed negative 3) d) None part w.1) [
    | inl w ↦ record { factor = c ∷ []; letter = d ∷ []; amount = 3; joined = refl; times = inr (inr (ap (λ x. x ∷ []) (is_this c 51 w.0), refl)); spelled = letter-sound (signed negative 3) d part w.1 }
    | inr w ↦ none_some w.1
  ]
]
axis-sound negative (c ∷ d ∷ f ∷ rest) part e = none_some e

axis-complete_by : (negative : Bool) (factor letter : List ℕ) (n : ℕ) (part : Part) → SpellsFactor factor n → SpellsLetter (signed negative n) letter part → axis_of negative (factor ++ letter) ≡ Some part
axis-complete_by negative factor letter n part (inl w) s =
    let l = letter-complete (signed negative n) letter part s in
    ap (λ x. axis_of negative (x ++ letter)) w.0 ∙ ap (axis_of negative) l.1 ∙ ap (λ m. letter_of (signed negative m) l.0) (sym w.1) ∙ l.2
axis-complete_by negative factor letter n part (inr (inl w)) s =
    let l = letter-complete (signed negative n) letter part s in
    ap (λ x. axis_of negative (x ++ letter)) w.0 ∙ ap (λ x. axis_of negative (50 ∷ x)) l.1 ∙ ap (λ m. letter_of (signed negative m) l.0) (sym w.1) ∙ l.2
axis-complete_by negative factor letter n part (inr (inr w)) s =
    let l = letter-complete (signed negative n) letter part s in
    ap (λ x. axis_of negative (x ++ letter)) w.0 ∙ ap (λ x. axis_of negative (51 ∷ x)) l.1 ∙ ap (λ m. letter_of (signed negative m) l.0) (sym w.1) ∙ l.2

part-sound_by : (negative : Bool) (text : List ℕ) (part : Part) (o : Option Part) → axis_of negative text ≡ o → or_shift negative o text ≡ Some part → SpellsPart negative text part
part-sound_by negative text part (Some found) is e = inl (axis-sound negative text part (is ∙ e))
part-sound_by negative text part None is e =
    let one = bind (ratio_of 3 text) (shift_of negative) part e in
    let r = one.0 in
    let test = guard (nat_le r.0 120 && 12 % r.1 == 0) (Shift (signed negative (r.0 * (12 / r.1)))) part one.2 in
    let parts = apart (nat_le r.0 120) (12 % r.1 == 0) test.0 in
    inr (record { num = r.0; den = r.1; ratio = ratio-sound 3 text r one.1; small = le_true r.0 120 parts.0; divisor = is_this (12 % r.1) 0 parts.1; value = sym test.1 })

pub part-sound : (negative : Bool) (text : List ℕ) (part : Part) → part_of negative text ≡ Some part → SpellsPart negative text part
part-sound negative text part e = part-sound_by negative text part (axis_of negative text) refl e

-- a fraction holds no letter
is_letter : ℕ → Bool
is_letter c = c == 120 || c == 121 || c == 122

no_letter : (c : ℕ) → is_ascii_digit c ≡ true → is_letter c ≡ false
unfolding is_letter
no_letter c digit = grind (arith, nat_tests)

slash_no_letter : is_letter 47 ≡ false
unfolding is_letter
slash_no_letter = refl

others : (c : ℕ) → is_letter c ≡ false → ((c == 120) ≡ false) × ((c == 121) ≡ false) × ((c == 122) ≡ false)
unfolding is_letter
others c other = (grind (arith, nat_tests), grind (arith, nat_tests), grind (arith, nat_tests))

letter_none : (a : ℤ) (c : ℕ) → is_letter c ≡ false → letter_of a c ≡ None
letter_none a c other = let no = others c other in rw (no.0, no.1, no.2) refl

either_none : {X : Type 0} (b : Bool) (o p : Option X) → o ≡ None → p ≡ None → (if b then o else p) ≡ None
either_none true o p x y = x
either_none false o p x y = y

axis_none : (negative : Bool) (text : List ℕ) → Free is_letter text → axis_of negative text ≡ None
axis_none negative [] free = refl
axis_none negative (c ∷ []) free = letter_none (signed negative 1) c free.0
axis_none negative (c ∷ d ∷ []) free =
    either_none (c == 50) (letter_of (signed negative 2) d) (if c == 51 then letter_of (signed negative 3) d else None) (letter_none (signed negative 2) d free.1.0)
    (either_none (c == 51) (letter_of (signed negative 3) d) None (letter_none (signed negative 3) d free.1.0) refl)
axis_none negative (c ∷ d ∷ f ∷ rest) free = refl

is_equal : (a b : ℕ) → a ≡ b → (a == b) ≡ true
is_equal a b e = grind (arith, nat_tests)

shift-complete : (negative : Bool) (n d : ℕ) → n ≤ 120 → 12 % d ≡ 0 → shift_of negative (n, d) ≡ Some (Shift (signed negative (n * (12 / d))))
shift-complete negative n d small divisor =
    ap (λ t. if t then Some (Shift (signed negative (n * (12 / d)))) else None) (both (nat_le n 120) (12 % d == 0) (true_le n 120 small) (is_equal (12 % d) 0 divisor))

pub part-complete : (negative : Bool) (text : List ℕ) (part : Part) → SpellsPart negative text part → part_of negative text ≡ Some part
part-complete negative text part (inl s) =
    ap (λ o. or_shift negative o text) (ap (axis_of negative) s.joined ∙ axis-complete_by negative s.factor s.letter s.amount part s.times s.spelled)
part-complete negative text part (inr s) =
    ap (λ o. or_shift negative o text) (axis_none negative text (ratio_free is_letter no_letter 3 text s.num s.den slash_no_letter s.ratio))
    ∙ ap (λ o. option_and_then (shift_of negative) o) (ratio-complete 3 text s.num s.den s.ratio)
    ∙ shift-complete negative s.num s.den s.small s.divisor ∙ ap (λ x. Some x) (sym s.value)

-- bytes that a term doesn't hold
module _ (p : ℕ → Bool) (other : (c : ℕ) → is_ascii_digit c ≡ true → p c ≡ false) (x : p 120 ≡ false) (y : p 121 ≡ false) (z : p 122 ≡ false) (slash : p 47 ≡ false) where
  factor_free : (text : List ℕ) (n : ℕ) → SpellsFactor text n → Free p text
  factor_free text n (inl w) = subst (λ t. Free p t) (sym w.0) tt
  factor_free text n (inr (inl w)) = subst (λ t. Free p t) (sym w.0) (other 50 refl, tt)
  factor_free text n (inr (inr w)) = subst (λ t. Free p t) (sym w.0) (other 51 refl, tt)

  letter_free : (a : ℤ) (text : List ℕ) (part : Part) → SpellsLetter a text part → Free p text
  letter_free a text part (inl w) = subst (λ t. Free p t) (sym w.0) (x, tt)
  letter_free a text part (inr (inl w)) = subst (λ t. Free p t) (sym w.0) (y, tt)
  letter_free a text part (inr (inr w)) = subst (λ t. Free p t) (sym w.0) (z, tt)

  part_free : (negative : Bool) (text : List ℕ) (part : Part) → SpellsPart negative text part → Free p text
  part_free negative text part (inl s) =
      subst (λ t. Free p t) (sym s.joined) (Free-append p s.factor s.letter (factor_free s.factor s.amount s.times) (letter_free (signed negative s.amount) s.letter part s.spelled))
  part_free negative text part (inr s) = ratio_free p other 3 text s.num s.den slash s.ratio

no_comma : (c : ℕ) → is_ascii_digit c ≡ true → is_byte 44 c ≡ false
no_comma c digit = grind (arith, nat_tests)

pub part_unsigned : (negative : Bool) (text : List ℕ) (part : Part) → SpellsPart negative text part → Free is_sign text
part_unsigned negative text part s = part_free is_sign digit_no_sign refl refl refl refl negative text part s

pub part_uncut : (negative : Bool) (text : List ℕ) (part : Part) → SpellsPart negative text part → Free (is_byte 44) text
part_uncut negative text part s = part_free (is_byte 44) no_comma refl refl refl refl negative text part s
