-- The grammar of k fractions against their function.
use Rattle.std.proofs.Common.{◌≡◌, ℕ, ◌<◌, ◌≤◌, ◌==◌, Bool, true, false, List, [], ◌∷◌, ◌++◌, length, Option, Some, None, refl, sym, ◌∙◌, ap, subst, inl, inr, arith, ◌&&◌, nat_le, if◌then◌else◌, MatchOption}
use Rattle.std.specs.Prelude.{option_and_then}
use Rattle.std.specs.List.{list_all}
use Rattle.std.specs.Char.{is_ascii_digit}
use Rattle.std.proofs.lemmas.Bool.Decides.{nat_tests}
use Rattle.iso_text.specs.Digits.{ratio_of}
use Rattle.iso_text.specs.Fractions.{signed, lowest, IsLowest, k_ratio_of, k_fraction_of}
use Rattle.iso_text.specs.FractionLaws.{lowest-terms}
use Rattle.iso_text.specs.LowestLaws.{lowest-unique}
use Rattle.iso_text.specs.Spellings.{SpellsDivisor, SpellsOver, SpellsRatio, minus, SpellsKFraction}
use Rattle.iso_text.specs.declared.numbers.Frac.{Frac}
use Rattle.iso_text.proofs.BodyLemmas.{both, apart}
use Rattle.iso_text.proofs.Steps.{guard, bind}
use Rattle.iso_text.proofs.SpellingLemmas.{ratio-sound, ratio-complete}

le_true : (a b : ℕ) → nat_le a b ≡ true → a ≤ b
le_true a b e = grind (arith, nat_tests)

true_le : (a b : ℕ) → a ≤ b → nat_le a b ≡ true
true_le a b e = grind (arith, nat_tests)

is_this : (a b : ℕ) → (a == b) ≡ true → a ≡ b
is_this a b e = grind (arith, nat_tests)

none_some : {A : Type 0} {X : Type 0} {y : X} → None ≡ Some y → A
none_some e = absurd (cc)

divisor_positive : (text : List ℕ) (d : ℕ) → SpellsDivisor text d → 0 < d
divisor_positive text d (inl w) = omega (arith, w.1)
divisor_positive text d (inr (inl w)) = omega (arith, w.1)
divisor_positive text d (inr (inr (inl w))) = omega (arith, w.1)
divisor_positive text d (inr (inr (inr (inl w)))) = omega (arith, w.1)
divisor_positive text d (inr (inr (inr (inr (inl w))))) = omega (arith, w.1)
divisor_positive text d (inr (inr (inr (inr (inr (inl w)))))) = omega (arith, w.1)
divisor_positive text d (inr (inr (inr (inr (inr (inr (inl w))))))) = omega (arith, w.1)
divisor_positive text d (inr (inr (inr (inr (inr (inr (inr w))))))) = omega (arith, w.1)

over_positive : (text : List ℕ) (d : ℕ) → SpellsOver text d → 0 < d
over_positive [] d over = omega (arith, over)
over_positive (c ∷ cs) d over = divisor_positive cs d over.1

is_lowest : (negative : Bool) (n d : ℕ) (v : Frac) → 0 < d → d ≤ 6 → IsLowest (signed negative n) d v → v ≡ lowest negative n d
is_lowest negative n d v some few value = lowest-unique (signed negative n) d v (lowest negative n d) some value (lowest-terms negative n d some few)

-- from a sign and the rest
k-sound_by : (text body : List ℕ) (negative : Bool) (v : Frac) → text ≡ minus negative ++ body → option_and_then (k_ratio_of negative) (ratio_of 2 body) ≡ Some v → SpellsKFraction text v
k-sound_by text body negative v joined read =
    let one = bind (ratio_of 2 body) (k_ratio_of negative) v read in
    let r = one.0 in
    let test = guard (nat_le r.0 24 && nat_le r.1 6) (lowest negative r.0 r.1) v one.2 in
    let parts = apart (nat_le r.0 24) (nat_le r.1 6) test.0 in
    let ratio = ratio-sound 2 body r one.1 in
    let divisor = le_true r.1 6 parts.1 in
    record {
      negative = negative;
      body = body;
      num = r.0;
      den = r.1;
      joined = joined;
      ratio = ratio;
      small = le_true r.0 24 parts.0;
      divisor = divisor;
      value = subst (λ f. IsLowest (signed negative r.0) r.1 f) test.1 (lowest-terms negative r.0 r.1 (over_positive ratio.over r.1 ratio.divisor) divisor);
    }

k-sound_cons : (c : ℕ) (cs : List ℕ) (v : Frac) (t : Bool) → (c == 45) ≡ t → (if t then option_and_then (k_ratio_of true) (ratio_of 2 cs) else option_and_then (k_ratio_of false) (ratio_of 2 (c ∷ cs))) ≡ Some v → SpellsKFraction (c ∷ cs) v
k-sound_cons c cs v true is read = k-sound_by (c ∷ cs) cs true v (ap (λ x. x ∷ cs) (is_this c 45 is)) read
k-sound_cons c cs v false is read = k-sound_by (c ∷ cs) (c ∷ cs) false v refl read

pub k_fraction-sound : (text : List ℕ) (v : Frac) → k_fraction_of text ≡ Some v → SpellsKFraction text v
k_fraction-sound [] v read = none_some read
k_fraction-sound (c ∷ cs) v read = k-sound_cons c cs v (c == 45) refl read

k_ratio-complete : (negative : Bool) (n d : ℕ) (v : Frac) → n ≤ 24 → d ≤ 6 → v ≡ lowest negative n d → k_ratio_of negative (n, d) ≡ Some v
k_ratio-complete negative n d v small divisor value =
    ap (λ t. if t then Some (lowest negative n d) else None) (both (nat_le n 24) (nat_le d 6) (true_le n 24 small) (true_le d 6 divisor)) ∙ ap (λ x. Some x) (sym value)

-- the first byte of a ratio is a digit
digit_first : (front over : List ℕ) (c : ℕ) (cs : List ℕ) → c ∷ cs ≡ front ++ over → 0 < length front → list_all is_ascii_digit front ≡ true → is_ascii_digit c ≡ true
digit_first [] over c cs joined some digits = absurd (omega arith)
digit_first (d ∷ front) over c cs joined some digits =
    let heads : c ≡ d = cc in
    ap is_ascii_digit heads ∙ (apart (is_ascii_digit d) (list_all is_ascii_digit front) digits).0

no_minus : (c : ℕ) → is_ascii_digit c ≡ true → (c == 45) ≡ false
no_minus c digit = grind (arith, nat_tests)

empty_front : (front over : List ℕ) → [] ≡ front ++ over → 0 < length front → ⊥
empty_front [] over joined some = omega arith
empty_front (d ∷ front) over joined some = cc

k-complete_by : (negative : Bool) (body : List ℕ) (n d : ℕ) (v : Frac) → SpellsRatio 2 body n d → n ≤ 24 → d ≤ 6 → v ≡ lowest negative n d → option_and_then (k_ratio_of negative) (ratio_of 2 body) ≡ Some v
k-complete_by negative body n d v ratio small divisor value =
    ap (λ o. option_and_then (k_ratio_of negative) o) (ratio-complete 2 body n d ratio) ∙ k_ratio-complete negative n d v small divisor value

k-complete_plain : (body : List ℕ) (n d : ℕ) (v : Frac) → SpellsRatio 2 body n d → n ≤ 24 → d ≤ 6 → v ≡ lowest false n d → k_fraction_of body ≡ Some v
k-complete_plain [] n d v ratio small divisor value = absurd (empty_front ratio.front ratio.over ratio.joined ratio.whole.some)
k-complete_plain (c ∷ cs) n d v ratio small divisor value =
    ap (λ t. if t then option_and_then (k_ratio_of true) (ratio_of 2 cs) else option_and_then (k_ratio_of false) (ratio_of 2 (c ∷ cs))) (no_minus c (digit_first ratio.front ratio.over c cs ratio.joined ratio.whole.some ratio.whole.spelled.digits))
    ∙ k-complete_by false (c ∷ cs) n d v ratio small divisor value

k-complete_cases : (negative : Bool) (body : List ℕ) (n d : ℕ) (v : Frac) → SpellsRatio 2 body n d → n ≤ 24 → d ≤ 6 → v ≡ lowest negative n d → k_fraction_of (minus negative ++ body) ≡ Some v
k-complete_cases true body n d v ratio small divisor value = k-complete_by true body n d v ratio small divisor value
k-complete_cases false body n d v ratio small divisor value = k-complete_plain body n d v ratio small divisor value

pub k_fraction-complete : (text : List ℕ) (v : Frac) → SpellsKFraction text v → k_fraction_of text ≡ Some v
k_fraction-complete text v s = ap k_fraction_of s.joined ∙ k-complete_cases s.negative s.body s.num s.den v s.ratio s.small s.divisor (is_lowest s.negative s.num s.den v (over_positive s.ratio.over s.den s.ratio.divisor) s.divisor s.value)

-- a reader's answer against a grammar that its function is sound and complete for
pub two_way : {V : Type 0} (o p : Option V) (P : V → Type 0) → o ≡ p → ((v : V) → p ≡ Some v → P v) → ((v : V) → P v → p ≡ Some v) → MatchOption o ((v : V) → P v → ⊥) P
two_way None p P is sound complete = λ v spelled. none_some (is ∙ complete v spelled)
two_way (Some v) p P is sound complete = sound v (sym is)
