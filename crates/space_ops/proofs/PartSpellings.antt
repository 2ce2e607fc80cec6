-- The terms of a coordinate as they are printed, one behind the other, are a sum of a file's words.
use Rattle.std.proofs.Common.{◌≡◌, ◌∙◌, refl, sym, ap, subst, ℕ, zero, suc, ◌/◌, ◌<◌, ◌≤◌, ℤ, pos, negsuc, Bool, true, false, ◌&&◌, List, [], ◌∷◌, ◌++◌, append_assoc, append-nil, unsigned_abs, if◌then◌else◌, inl, inr, arith}
use Rattle.std.proofs.lemmas.Bool.Decides.{Decides-int_eq}
use Rattle.std.proofs.lemmas.Fmt.{decimal_digit}
use Rattle.iso_text.specs.Fractions.{signed}
use Rattle.iso_text.specs.Spellings.{IsSignOf}
use Rattle.iso_text.specs.SumSpellings.{sign, SpellsMore, SpellsSum}
use Rattle.iso_text.specs.OperationSpellings.{SpellsFactor, SpellsLetter, SpellsAxis, SpellsShift, SpellsPart}
use Rattle.iso_text.specs.declared.operation_words.Part.{Part}
use Rattle.iso_text.specs.declared.operation_words.Part.TheVariants.{Shift}
use Rattle.space_ops.specs.Op.{IsWithin}
use Rattle.space_ops.specs.OpText.{is_zero, sign_text, coefficient_text, term_text, common_with_twelve, fraction_text, translation_text}
use Rattle.space_ops.specs.WithinLaws.{abs_of_within}
use Rattle.space_ops.proofs.ShiftSpellings.{shift-spelled}

-- numbers that are zero, and that are not
pub zero_is : (c : ℤ) → is_zero c ≡ true → c ≡ pos 0
zero_is c e = (Decides-int_eq c (pos 0)).0 e

some_size : (c : ℤ) → is_zero c ≡ false → 0 < unsigned_abs c
some_size (pos zero) e = absurd (cc)
some_size (pos (suc n)) e = omega arith
some_size (negsuc n) e = omega arith

-- the sign of a number, and its text in front and behind other terms
is_negative : ℤ → Bool
is_negative (pos n) = false
is_negative (negsuc n) = true

signed-back : (c : ℤ) → signed (is_negative c) (unsigned_abs c) ≡ c
unfolding is_negative
signed-back (pos n) = refl
signed-back (negsuc n) = refl

abbrev SignsTerm : Bool → Bool → List ℕ → Type 0
SignsTerm true negative front = IsSignOf negative front
SignsTerm false negative front = front ≡ sign negative

sign-signs : (first : Bool) (c : ℤ) → SignsTerm first (is_negative c) (sign_text first c)
unfolding is_negative
sign-signs true (pos n) = inr (inr (refl, refl))
sign-signs true (negsuc n) = inl (refl, refl)
sign-signs false (pos n) = refl
sign-signs false (negsuc n) = refl

written_sign-signs : (first : Bool) (c : ℤ) → SignsTerm first (is_negative c) (sign_text false c)
unfolding is_negative
written_sign-signs true (pos n) = inr (inl (refl, refl))
written_sign-signs true (negsuc n) = inl (refl, refl)
written_sign-signs false (pos n) = refl
written_sign-signs false (negsuc n) = refl

-- terms that begin a coordinate, or that stand behind others
abbrev pub SpellsParts : Bool → List ℕ → List Part → Type 0
SpellsParts true text [] = text ≡ []
SpellsParts true text (part ∷ parts) = SpellsSum SpellsPart text (part ∷ parts)
SpellsParts false text parts = SpellsMore SpellsPart text parts

-- a term with its sign, and others behind it
signed-spelled : (first negative : Bool) (front item others : List ℕ) (part : Part) (parts : List Part) → SignsTerm first negative front
    → SpellsPart negative item part → SpellsMore SpellsPart others parts → SpellsParts first (front ++ (item ++ others)) (part ∷ parts)
signed-spelled true negative front item others part parts signs spelled more = record {
  negative = negative;
  front = front;
  item = item;
  others = others;
  first = part;
  rest = parts;
  joined = refl;
  signed_by = signs;
  spelled = spelled;
  more = more;
  values = refl;
}
signed-spelled false negative front item others part parts signs spelled more = (negative, item, others, ap (λ f. f ++ (item ++ others)) signs, spelled, more)

-- the part, where its number is not zero
abbrev pub unless_zero : Bool → Part → List Part
unless_zero true part = []
unless_zero false part = part ∷ []

-- a letter with its coefficient
factor-spelled : (n : ℕ) → 0 < n → n ≤ 3 → SpellsFactor (coefficient_text n) n
factor-spelled zero some few = absurd (omega arith)
factor-spelled (suc zero) some few = inl (refl, refl)
factor-spelled (suc (suc zero)) some few = inr (inl (decimal_digit 2 (omega arith), refl))
factor-spelled (suc (suc (suc zero))) some few = inr (inr (decimal_digit 3 (omega arith), refl))
factor-spelled (suc (suc (suc (suc n)))) some few = absurd (omega arith)

axis-spelled : (c : ℤ) (letter : List ℕ) (part : Part) → is_zero c ≡ false → IsWithin 3 c → SpellsLetter c letter part → SpellsAxis (is_negative c) (coefficient_text (unsigned_abs c) ++ letter) part
axis-spelled c letter part e near spelled = record {
  factor = coefficient_text (unsigned_abs c);
  letter = letter;
  amount = unsigned_abs c;
  joined = refl;
  times = factor-spelled (unsigned_abs c) (some_size c e) (abs_of_within 3 c near);
  spelled = subst (λ z. SpellsLetter z letter part) (sym (signed-back c)) spelled;
}

no_term : (first : Bool) (c : ℤ) (letter : List ℕ) → is_zero c ≡ true → term_text first c letter ≡ []
unfolding term_text
no_term first c letter e = ap (λ b. if b then [] else sign_text first c ++ coefficient_text (unsigned_abs c) ++ letter) e

some_term : (first : Bool) (c : ℤ) (letter others : List ℕ) → is_zero c ≡ false → term_text first c letter ++ others ≡ sign_text first c ++ ((coefficient_text (unsigned_abs c) ++ letter) ++ others)
unfolding term_text
some_term first c letter others e =
    let s = sign_text first c in
    let f = coefficient_text (unsigned_abs c) in
    ap (λ b. (if b then [] else s ++ f ++ letter) ++ others) e ∙ ap (λ t. t ++ others) (append_assoc s f letter) ∙ append_assoc s (f ++ letter) others

nothing-spelled : (first : Bool) (c : ℤ) (letter others : List ℕ) (parts : List Part) → is_zero c ≡ true → SpellsParts first others parts → SpellsParts first (term_text first c letter ++ others) parts
nothing-spelled first c letter others parts e more = subst (λ t. SpellsParts first (t ++ others) parts) (sym (no_term first c letter e)) more

letter-spelled : (first : Bool) (c : ℤ) (letter others : List ℕ) (part : Part) (parts : List Part) → is_zero c ≡ false → IsWithin 3 c → SpellsLetter c letter part
    → SpellsMore SpellsPart others parts → SpellsParts first (term_text first c letter ++ others) (part ∷ parts)
letter-spelled first c letter others part parts e near spelled more =
    subst (λ t. SpellsParts first t (part ∷ parts)) (sym (some_term first c letter others e))
    (signed-spelled first (is_negative c) (sign_text first c) (coefficient_text (unsigned_abs c) ++ letter) others part parts (sign-signs first c) (inl (axis-spelled c letter part e near spelled)) more)

-- a term before others, of which the first begins the coordinate where this one is nothing
pub term-spelled : (first zeroes : Bool) (c : ℤ) (letter others : List ℕ) (part : Part) (parts : List Part) → is_zero c ≡ zeroes → IsWithin 3 c → SpellsLetter c letter part
    → SpellsParts (first && zeroes) others parts → SpellsParts first (term_text first c letter ++ others) (unless_zero zeroes part ++ parts)
term-spelled true true c letter others part parts e near spelled more = nothing-spelled true c letter others parts e more
term-spelled false true c letter others part parts e near spelled more = nothing-spelled false c letter others parts e more
term-spelled true false c letter others part parts e near spelled more = letter-spelled true c letter others part parts e near spelled more
term-spelled false false c letter others part parts e near spelled more = letter-spelled false c letter others part parts e near spelled more

-- the translation, the last of the terms
no_translation : (t : ℤ) → is_zero t ≡ true → translation_text t ≡ []
unfolding translation_text
no_translation t e =
    let g = common_with_twelve (unsigned_abs t) in
    ap (λ b. if b then [] else sign_text false t ++ fraction_text (unsigned_abs t / g) (12 / g)) e

some_translation : (t : ℤ) → is_zero t ≡ false
    → translation_text t ≡ sign_text false t ++ (fraction_text (unsigned_abs t / common_with_twelve (unsigned_abs t)) (12 / common_with_twelve (unsigned_abs t)) ++ [])
unfolding translation_text
some_translation t e =
    let g = common_with_twelve (unsigned_abs t) in
    let f = fraction_text (unsigned_abs t / g) (12 / g) in
    ap (λ b. if b then [] else sign_text false t ++ f) e ∙ ap (λ x. sign_text false t ++ x) (sym (append-nil f))

empty-spelled : (first : Bool) (text : List ℕ) → text ≡ [] → SpellsParts first text []
empty-spelled true text e = e
empty-spelled false text e = e

pub translation-spelled : (first zeroes : Bool) (t : ℤ) → is_zero t ≡ zeroes → IsWithin 120 t → SpellsParts first (translation_text t) (unless_zero zeroes (Shift t))
translation-spelled first true t e near = empty-spelled first (translation_text t) (no_translation t e)
translation-spelled first false t e near =
    let g = common_with_twelve (unsigned_abs t) in
    let f = fraction_text (unsigned_abs t / g) (12 / g) in
    let shift : SpellsShift (is_negative t) f (Shift t) =
    subst (λ z. SpellsShift (is_negative t) f (Shift z)) (signed-back t) (shift-spelled (is_negative t) (unsigned_abs t) (abs_of_within 120 t near)) in
    subst (λ x. SpellsParts first x (Shift t ∷ [])) (sym (some_translation t e))
    (signed-spelled first (is_negative t) (sign_text false t) f [] (Shift t) [] (written_sign-signs first t) (inr shift) refl)
