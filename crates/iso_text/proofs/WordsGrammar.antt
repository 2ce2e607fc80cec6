-- The words of a line, by how they are put together, against the reader's words.
use Rattle.std.proofs.Common.{◌≡◌, ℕ, Bool, true, false, not, List, [], ◌∷◌, ◌++◌, refl, sym, ◌∙◌, ap, subst, arith, if◌then◌else◌}
use Rattle.std.specs.List.{list_all}
use Rattle.iso_text.specs.Cuts.{front, back, words_of, is_blank}
use Rattle.iso_text.specs.Lines.{unindented}
use Rattle.iso_text.specs.WordSpellings.{AreBlanks, IsWord, EndsWord, AreWords}
use Rattle.iso_text.proofs.BodyLemmas.{both, apart}
use Rattle.iso_text.proofs.CutLemmas.{words_of-cons}
use Rattle.iso_text.proofs.SpellingLemmas.{Stops, Free, front-append, front-back}

-- no blank in a text
not_false : (b : Bool) → not b ≡ true → b ≡ false
not_false true e = absurd (cc)
not_false false e = refl

false_not : (b : Bool) → b ≡ false → not b ≡ true
false_not b e = ap not e

pub word_free : (text : List ℕ) → list_all (λ c. not (is_blank c)) text ≡ true → Free is_blank text
word_free [] all = tt
word_free (c ∷ cs) all = let parts = apart (not (is_blank c)) (list_all (λ d. not (is_blank d)) cs) all in (not_false (is_blank c) parts.0, word_free cs parts.1)

-- what stands behind a word
pub ends_stops : (rest : List ℕ) → EndsWord rest → Stops is_blank rest
ends_stops [] ends = tt
ends_stops (c ∷ cs) ends = ends

pub stops_ends : (rest : List ℕ) → Stops is_blank rest → EndsWord rest
stops_ends [] stops = tt
stops_ends (c ∷ cs) stops = stops

front_whole_step : (c : ℕ) (cs : List ℕ) (t : Bool) → is_blank c ≡ t → list_all (λ d. not (is_blank d)) (front is_blank cs) ≡ true → list_all (λ d. not (is_blank d)) (if t then [] else c ∷ front is_blank cs) ≡ true
front_whole_step c cs true is more = refl
front_whole_step c cs false is more = both (not (is_blank c)) (list_all (λ d. not (is_blank d)) (front is_blank cs)) (false_not (is_blank c) is) more

-- the front of a text has no blank
pub front_whole : (text : List ℕ) → list_all (λ c. not (is_blank c)) (front is_blank text) ≡ true
front_whole [] = refl
front_whole (c ∷ cs) = front_whole_step c cs (is_blank c) refl (front_whole cs)

-- blanks in front
pub blank_first : (c : ℕ) (cs : List ℕ) → is_blank c ≡ true → words_of (c ∷ cs) ≡ words_of cs
blank_first c cs first = rw first refl

pub blank_unindented : (c : ℕ) (cs : List ℕ) → is_blank c ≡ true → unindented (c ∷ cs) ≡ unindented cs
blank_unindented c cs first = ap (λ t. if t then unindented cs else c ∷ cs) first

pub other_unindented : (c : ℕ) (cs : List ℕ) → is_blank c ≡ false → unindented (c ∷ cs) ≡ c ∷ cs
other_unindented c cs first = ap (λ t. if t then unindented cs else c ∷ cs) first

pub words_behind : (blanks text : List ℕ) → AreBlanks blanks → words_of (blanks ++ text) ≡ words_of text
words_behind [] text all = refl
words_behind (c ∷ cs) text all =
    let parts = apart (is_blank c) (list_all is_blank cs) all in blank_first c (cs ++ text) parts.0 ∙ words_behind cs text parts.1

pub unindented_behind : (blanks text : List ℕ) → AreBlanks blanks → unindented (blanks ++ text) ≡ unindented text
unindented_behind [] text all = refl
unindented_behind (c ∷ cs) text all =
    let parts = apart (is_blank c) (list_all is_blank cs) all in blank_unindented c (cs ++ text) parts.0 ∙ unindented_behind cs text parts.1

no_words : (text : List ℕ) → AreBlanks text → words_of text ≡ []
no_words [] all = refl
no_words (c ∷ cs) all = let parts = apart (is_blank c) (list_all is_blank cs) all in blank_first c cs parts.0 ∙ no_words cs parts.1

-- a word and what stands behind it
pub word_first : (word rest : List ℕ) → IsWord word → EndsWord rest → words_of (word ++ rest) ≡ word ∷ words_of rest
word_first [] rest is ends = absurd (omega (arith, is.some))
word_first (c ∷ cs) rest is ends =
    let free = word_free (c ∷ cs) is.whole in
    let parts = front-append is_blank cs rest free.1 (ends_stops rest ends) in
    words_of-cons c (cs ++ rest) free.0 ∙ ap (λ w. (c ∷ w) ∷ words_of (back is_blank (cs ++ rest))) parts.0 ∙ ap (λ r. (c ∷ cs) ∷ words_of r) parts.1

pub words-complete : (words : List (List ℕ)) (text : List ℕ) → AreWords words text → words_of text ≡ words
words-complete [] text are = no_words text are
words-complete (word ∷ words) text are =
    ap words_of are.3 ∙ words_behind are.0 (word ++ are.1) are.2 ∙ word_first word are.1 are.4 are.5 ∙ ap (λ ws. word ∷ ws) (words-complete words are.1 are.6)

-- one more blank in front
pub blank_more : (c : ℕ) (text : List ℕ) (words : List (List ℕ)) → is_blank c ≡ true → AreWords words text → AreWords words (c ∷ text)
blank_more c text [] blank are = both (is_blank c) (list_all is_blank text) blank are
blank_more c text (word ∷ words) blank are =
    (c ∷ are.0, are.1, both (is_blank c) (list_all is_blank are.0) blank are.2, ap (λ t. c ∷ t) are.3, are.4, are.5, are.6)

-- a text, and the text behind its first word
record HasWords (text : List ℕ) : Type 0 where
  whole : AreWords (words_of text) text
  behind : AreWords (words_of (back is_blank text)) (back is_blank text)

has_words_step : (c : ℕ) (cs : List ℕ) (t : Bool) → is_blank c ≡ t → HasWords cs → HasWords (c ∷ cs)
has_words_step c cs true is has =
    let whole : AreWords (words_of (c ∷ cs)) (c ∷ cs) = subst (λ ws. AreWords ws (c ∷ cs)) (sym (blank_first c cs is)) (blank_more c cs (words_of cs) is has.whole) in
    record { whole = whole; behind = subst (λ r. AreWords (words_of r) r) (sym (ap (λ t. if t then c ∷ cs else back is_blank cs) is)) whole }
has_words_step c cs false is has =
    let parts = front-back is_blank cs in
    let word : IsWord (c ∷ front is_blank cs) = record { some = omega arith; whole = both (not (is_blank c)) (list_all (λ d. not (is_blank d)) (front is_blank cs)) (false_not (is_blank c) is) (front_whole cs) } in
    let all : AreWords ((c ∷ front is_blank cs) ∷ words_of (back is_blank cs)) (c ∷ cs) = ([], back is_blank cs, refl, sym (ap (λ t. c ∷ t) parts.0), word, stops_ends (back is_blank cs) parts.1, has.behind) in
    record {
      whole = subst (λ ws. AreWords ws (c ∷ cs)) (sym (words_of-cons c cs is)) all;
      behind = subst (λ r. AreWords (words_of r) r) (sym (ap (λ t. if t then c ∷ cs else back is_blank cs) is)) has.behind;
    }

has_words : (text : List ℕ) → HasWords text
has_words [] = record { whole = refl; behind = refl }
has_words (c ∷ cs) = has_words_step c cs (is_blank c) refl (has_words cs)

pub words-sound : (text : List ℕ) → AreWords (words_of text) text
words-sound text = (has_words text).whole

-- a text is blanks, and what stands behind them
indent_step : (c : ℕ) (cs : List ℕ) (t : Bool) → is_blank c ≡ t → ((blanks : List ℕ) × AreBlanks blanks × (cs ≡ blanks ++ unindented cs)) → (blanks : List ℕ) × AreBlanks blanks × (c ∷ cs ≡ blanks ++ unindented (c ∷ cs))
indent_step c cs true is more = (c ∷ more.0, both (is_blank c) (list_all is_blank more.0) is more.1, ap (λ t. c ∷ t) more.2 ∙ ap (λ t. c ∷ (more.0 ++ t)) (sym (blank_unindented c cs is)))
indent_step c cs false is more = ([], refl, sym (other_unindented c cs is))

pub indented : (text : List ℕ) → (blanks : List ℕ) × AreBlanks blanks × (text ≡ blanks ++ unindented text)
indented [] = ([], refl, refl)
indented (c ∷ cs) = indent_step c cs (is_blank c) refl (indented cs)

-- a line that begins with this word
pub keyed-sound : (text key : List ℕ) → IsWord key → front is_blank (unindented text) ≡ key → AreWords (key ∷ words_of (back is_blank (unindented text))) text
keyed-sound text key word is =
    let parts = front-back is_blank (unindented text) in
    let from = indented text in
    let rest = back is_blank (unindented text) in
    (from.0, rest, from.1, from.2 ∙ ap (λ t. from.0 ++ t) (sym parts.0 ∙ ap (λ t. t ++ rest) is), word, stops_ends rest parts.1, words-sound rest)

-- the same with a text behind the word
pub record IsKeyed (text key rest : List ℕ) : Type 0 where
  pub front : front is_blank (unindented text) ≡ key
  pub back : back is_blank (unindented text) ≡ rest

word_unindented : (word rest : List ℕ) → IsWord word → unindented (word ++ rest) ≡ word ++ rest
word_unindented [] rest is = absurd (omega (arith, is.some))
word_unindented (c ∷ cs) rest is = other_unindented c (cs ++ rest) ((word_free (c ∷ cs) is.whole).0)

pub is_keyed : (text blanks key rest : List ℕ) → text ≡ blanks ++ (key ++ rest) → AreBlanks blanks → IsWord key → EndsWord rest → IsKeyed text key rest
is_keyed text blanks key rest joined all word ends =
    let bare : unindented text ≡ key ++ rest = ap unindented joined ∙ unindented_behind blanks (key ++ rest) all ∙ word_unindented key rest word in
    let parts = front-append is_blank key rest (word_free key word.whole) (ends_stops rest ends) in
    record { front = ap (λ t. front is_blank t) bare ∙ parts.0; back = ap (λ t. back is_blank t) bare ∙ parts.1 }

pub keyed-complete : (text key : List ℕ) (words : List (List ℕ)) (are : AreWords (key ∷ words) text) → IsKeyed text key are.1
keyed-complete text key words are = is_keyed text are.0 key are.1 are.3 are.2 are.4 are.5
