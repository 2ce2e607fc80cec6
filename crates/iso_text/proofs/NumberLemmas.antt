-- A number that is read part by part.
use Rattle.std.proofs.Common.{◌≡◌, ℕ, ◌+◌, ◌<◌, ◌≤◌, Bool, true, false, List, [], ◌∷◌, ◌++◌, length, Option, Some, None, refl, sym, ◌∙◌, ap, arith, append_assoc, length-append, append-nil, if◌then◌else◌}
use Rattle.std.specs.Prelude.{option_and_then}
use Rattle.std.specs.Option.{option_map}
use Rattle.std.proofs.lemmas.Bool.Decides.{nat_tests}
use Rattle.iso_text.specs.Cuts.{cut_at, is_sign}
use Rattle.iso_text.specs.Numbers.{signed_term_of, terms_of, number_of, is_count}
use Rattle.iso_text.specs.declared.numbers.Term.{Term}
use Rattle.iso_text.proofs.CutLemmas.{cut_at-cons}

joined : (items : List Term) (t : Term) (o : Option (List Term)) → option_map (λ ts. items ++ ts) (option_map (λ ts. t ∷ ts) o) ≡ option_map (λ ts. (items ++ t ∷ []) ++ ts) o
joined items t None = refl
joined items t (Some ts) = ap (λ x. Some x) (sym (append_assoc items (t ∷ []) ts))

-- what is read of a number before a rest
pub record IsRead (text : List ℕ) (items : List Term) (rest : List ℕ) : Type 0 where
  pub count : length (cut_at is_sign text) ≡ length items + length (cut_at is_sign rest)
  pub terms : terms_of (cut_at is_sign text) ≡ option_map (λ ts. items ++ ts) (terms_of (cut_at is_sign rest))
  pub few : length items ≤ 16

same : (o : Option (List Term)) → o ≡ option_map (λ ts. [] ++ ts) o
same None = refl
same (Some ts) = refl

pub read_none : (text : List ℕ) → IsRead text [] text
read_none text = record { count = omega arith; terms = same _; few = omega arith }

pub read_more : (text : List ℕ) (items : List Term) (rest part behind : List ℕ) (t : Term) → IsRead text items rest → cut_at is_sign rest ≡ part ∷ cut_at is_sign behind → signed_term_of part ≡ Some t → length items < 16
    → IsRead text (items ++ t ∷ []) behind
read_more text items rest part behind t so_far cut read room = record {
  count = so_far.count ∙ ap (λ x. length items + length x) cut ∙ omega (arith, length-append items (t ∷ []));
  terms = so_far.terms ∙ ap (λ x. option_map (λ ts. items ++ ts) (terms_of x)) cut ∙ ap (λ x. option_map (λ ts. items ++ ts) (option_and_then (λ y. option_map (λ ts. y ∷ ts) (terms_of (cut_at is_sign behind))) x)) read ∙ joined items t (terms_of (cut_at is_sign behind));
  few = omega (arith, length-append items (t ∷ []));
}

either : (b : Bool) (o : Option (List Term)) → o ≡ None → (if b then o else None) ≡ None
either true o none = none
either false o none = refl

pub read_bad : (text : List ℕ) (items : List Term) (rest part behind : List ℕ) → IsRead text items rest → cut_at is_sign rest ≡ part ∷ cut_at is_sign behind → signed_term_of part ≡ None → number_of text ≡ None
read_bad text items rest part behind so_far cut bad =
    either (is_count (length (cut_at is_sign text))) (terms_of (cut_at is_sign text)) (so_far.terms ∙ ap (λ x. option_map (λ ts. items ++ ts) (terms_of x)) cut ∙ ap (λ x. option_map (λ ts. items ++ ts) (option_and_then (λ y. option_map (λ ts. y ∷ ts) (terms_of (cut_at is_sign behind))) x)) bad)

not_counted : (n : ℕ) (o : Option (List Term)) → 16 < n → (if is_count n then o else None) ≡ None
not_counted n o many = grind (arith, nat_tests)

counted : (n : ℕ) (o : Option (List Term)) → 0 < n → n ≤ 16 → (if is_count n then o else None) ≡ o
counted n o some few = grind (arith, nat_tests)

cut_some : (rest : List ℕ) → 0 < length rest → 0 < length (cut_at is_sign rest)
cut_some [] some = absurd (omega arith)
cut_some (c ∷ cs) some = omega (arith, ap (λ x. length x) (cut_at-cons is_sign c cs))

pub read_many : (text : List ℕ) (items : List Term) (rest : List ℕ) → IsRead text items rest → length items ≡ 16 → 0 < length rest → number_of text ≡ None
read_many text items rest so_far full some =
    not_counted (length (cut_at is_sign text)) (terms_of (cut_at is_sign text)) (omega (arith, so_far.count, cut_some rest some))

pub read_all : (text : List ℕ) (items : List Term) → IsRead text items [] → 0 < length items → number_of text ≡ Some items
read_all text items so_far some =
    counted (length (cut_at is_sign text)) (terms_of (cut_at is_sign text)) (omega (arith, so_far.count)) (omega (arith, so_far.count, so_far.few)) ∙ so_far.terms ∙ ap (λ x. Some x) (append-nil items)

no_count : (n : ℕ) (o : Option (List Term)) → n ≡ 0 → (if is_count n then o else None) ≡ None
no_count n o none = rw none refl

pub read_empty : (text : List ℕ) → IsRead text [] [] → number_of text ≡ None
read_empty text so_far = no_count (length (cut_at is_sign text)) (terms_of (cut_at is_sign text)) so_far.count
