-- Lists of numbers that are read word by word.
use Rattle.std.proofs.Common.{◌≡◌, ℕ, ◌+◌, ◌<◌, ◌≤◌, List, [], ◌∷◌, ◌++◌, length, Option, Some, None, refl, sym, ◌∙◌, ap, arith, append_assoc, append-nil, length-append, nat_le, if◌then◌else◌}
use Rattle.std.specs.Prelude.{option_and_then}
use Rattle.std.specs.Option.{option_map}
use Rattle.std.proofs.lemmas.Bool.Decides.{nat_tests}
use Rattle.iso_text.specs.Cuts.{words_of}
use Rattle.iso_text.specs.Numbers.{number_of}
use Rattle.iso_text.specs.LineWords.{numbers_of, few_numbers_of}
use Rattle.iso_text.specs.declared.numbers.Term.{Term}

joined : (items : List (List Term)) (n : List Term) (o : Option (List (List Term))) → option_map (λ ns. items ++ ns) (option_map (λ ns. n ∷ ns) o) ≡ option_map (λ ns. (items ++ n ∷ []) ++ ns) o
joined items n None = refl
joined items n (Some ns) = ap (λ x. Some x) (sym (append_assoc items (n ∷ []) ns))

-- what is read of the words before a rest, at most so many
pub record AreRead (most : ℕ) (text : List ℕ) (items : List (List Term)) (rest : List ℕ) : Type 0 where
  pub count : length (words_of text) ≡ length items + length (words_of rest)
  pub numbers : numbers_of (words_of text) ≡ option_map (λ ns. items ++ ns) (numbers_of (words_of rest))
  pub few : length items ≤ most

same : (o : Option (List (List Term))) → o ≡ option_map (λ ns. [] ++ ns) o
same None = refl
same (Some ns) = refl

pub words_none : (most : ℕ) (text : List ℕ) → AreRead most text [] text
words_none most text = record { count = omega arith; numbers = same _; few = omega arith }

pub words_more : (most : ℕ) (text : List ℕ) (items : List (List Term)) (rest word behind : List ℕ) (n : List Term) → AreRead most text items rest → words_of rest ≡ word ∷ words_of behind → number_of word ≡ Some n → length items < most
    → AreRead most text (items ++ n ∷ []) behind
words_more most text items rest word behind n so_far first read room = record {
  count = so_far.count ∙ ap (λ x. length items + length x) first ∙ omega (arith, length-append items (n ∷ []));
  numbers = so_far.numbers ∙ ap (λ x. option_map (λ ns. items ++ ns) (numbers_of x)) first ∙ ap (λ x. option_map (λ ns. items ++ ns) (option_and_then (λ y. option_map (λ ns. y ∷ ns) (numbers_of (words_of behind))) x)) read ∙ joined items n (numbers_of (words_of behind));
  few = omega (arith, length-append items (n ∷ []));
}

either : (n most : ℕ) (o : Option (List (List Term))) → o ≡ None → (if nat_le n most then o else None) ≡ None
either n most o none = ap (λ x. if nat_le n most then x else None) none ∙ grind arith

many : (n most : ℕ) (o : Option (List (List Term))) → most < n → (if nat_le n most then o else None) ≡ None
many n most o less = grind (arith, nat_tests)

counted : (n most : ℕ) (o : Option (List (List Term))) → n ≤ most → (if nat_le n most then o else None) ≡ o
counted n most o few = grind (arith, nat_tests)

pub words_bad : (most : ℕ) (text : List ℕ) (items : List (List Term)) (rest word behind : List ℕ) → AreRead most text items rest → words_of rest ≡ word ∷ words_of behind → number_of word ≡ None → few_numbers_of most (words_of text) ≡ None
words_bad most text items rest word behind so_far first bad =
    either (length (words_of text)) most (numbers_of (words_of text)) (so_far.numbers ∙ ap (λ x. option_map (λ ns. items ++ ns) (numbers_of x)) first ∙ ap (λ x. option_map (λ ns. items ++ ns) (option_and_then (λ y. option_map (λ ns. y ∷ ns) (numbers_of (words_of behind))) x)) bad)

pub words_many : (most : ℕ) (text : List ℕ) (items : List (List Term)) (rest word behind : List ℕ) → AreRead most text items rest → words_of rest ≡ word ∷ words_of behind → length items ≡ most → few_numbers_of most (words_of text) ≡ None
words_many most text items rest word behind so_far first full =
    many (length (words_of text)) most (numbers_of (words_of text)) (omega (arith, so_far.count, ap (λ x. length x) first))

pub words_all : (most : ℕ) (text : List ℕ) (items : List (List Term)) (rest : List ℕ) → AreRead most text items rest → words_of rest ≡ [] → few_numbers_of most (words_of text) ≡ Some items
words_all most text items rest so_far none =
    counted (length (words_of text)) most (numbers_of (words_of text)) (omega (arith, so_far.count, so_far.few, ap (λ x. length x) none))
    ∙ so_far.numbers ∙ ap (λ x. option_map (λ ns. items ++ ns) (numbers_of x)) none ∙ ap (λ x. Some x) (append-nil items)
