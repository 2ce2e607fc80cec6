-- The grammar of numbers against their function.
use Rattle.std.proofs.Common.{◌≡◌, ℕ, ◌<◌, ◌≤◌, Bool, true, false, List, [], ◌∷◌, length, Option, Some, None, Result, Ok, Err, IfOk, MatchOption, refl, sym, ◌∙◌, ap, arith, nat_lt, nat_le, if◌then◌else◌}
use Rattle.std.specs.Prelude.{option_and_then}
use Rattle.std.specs.Option.{option_map}
use Rattle.std.proofs.lemmas.Bool.Decides.{nat_tests}
use Rattle.iso_text.specs.Cuts.{cut_at, is_sign}
use Rattle.iso_text.specs.Numbers.{term_of, signed_term_of, terms_of, number_of, is_count}
use Rattle.iso_text.specs.SumSpellings.{SpellsTerm, SpellsNumber}
use Rattle.iso_text.specs.declared.numbers.Term.{Term}
use Rattle.iso_text.proofs.BodyLemmas.{apart}
use Rattle.iso_text.proofs.FractionSpellings.{two_way}
use Rattle.iso_text.proofs.SpellingLemmas.{le_true, none_some}
use Rattle.iso_text.proofs.SumLemmas.{read_signed, read_all, all_length, sum-sound, sum-complete}
use Rattle.iso_text.proofs.TermSpellings.{term-sound, term-complete, term_unsigned}

signed_terms : (part : List ℕ) → signed_term_of part ≡ read_signed term_of part
signed_terms [] = refl
signed_terms (c ∷ cs) = refl

all_terms : (parts : List (List ℕ)) → terms_of parts ≡ read_all term_of parts
all_terms [] = refl
all_terms (part ∷ parts) =
    ap (λ o. option_and_then (λ t. option_map (λ ts. t ∷ ts) (terms_of parts)) o) (signed_terms part)
    ∙ ap (λ o. option_and_then (λ t. option_map (λ ts. t ∷ ts) o) (read_signed term_of part)) (all_terms parts)

pub if_true : {X : Type 0} (b : Bool) (o : Option X) (x : X) → (if b then o else None) ≡ Some x → (b ≡ true) × (o ≡ Some x)
if_true true o x e = (refl, e)
if_true false o x e = none_some e

counted : (n : ℕ) → 0 < n → n ≤ 16 → is_count n ≡ true
counted n some few = grind (arith, nat_tests)

pub number-sound : (text : List ℕ) (ts : List Term) → number_of text ≡ Some ts → SpellsNumber text ts
number-sound [] ts e = none_some e
number-sound (c ∷ cs) ts e =
    let parts = cut_at is_sign (c ∷ cs) in
    let test = if_true (is_count (length parts)) (terms_of parts) ts e in
    let read : read_all term_of parts ≡ Some ts = sym (all_terms parts) ∙ test.1 in
    let small = apart (nat_lt 0 (length parts)) (nat_le (length parts) 16) test.0 in
    let few : length ts ≤ 16 = omega (arith, all_length term_of parts ts read, le_true (length parts) 16 small.1) in
    record { sum = sum-sound term_of (λ n t v. SpellsTerm n t v) (λ n t v read. term-sound n t v read) c cs ts read; few = few }

pub number-complete : (text : List ℕ) (ts : List Term) → SpellsNumber text ts → number_of text ≡ Some ts
number-complete text ts s =
    let parts = cut_at is_sign text in
    let read : read_all term_of parts ≡ Some ts = sum-complete term_of (λ n t v. SpellsTerm n t v) (λ n t v spelled. term-complete n t v spelled) (λ n t v spelled. term_unsigned n t v spelled) text ts refl s.sum in
    let count : is_count (length parts) ≡ true = counted (length parts) (omega (arith, all_length term_of parts ts read, ap (λ x. length x) s.sum.values)) (omega (arith, all_length term_of parts ts read, s.few)) in
    ap (λ b. if b then terms_of parts else None) count ∙ all_terms parts ∙ read

-- a reader's answer
pub number_by : {E : Type 0} (r : Result (Option (List Term)) E) (text : List ℕ) → IfOk r (λ o. o ≡ number_of text) → IfOk r (λ o. MatchOption o ((ts : List Term) → SpellsNumber text ts → ⊥) (λ ts. SpellsNumber text ts))
number_by (Ok o) text is = two_way o (number_of text) (λ ts. SpellsNumber text ts) is (λ ts read. number-sound text ts read) (λ ts spelled. number-complete text ts spelled)
number_by (Err e) text is = tt
