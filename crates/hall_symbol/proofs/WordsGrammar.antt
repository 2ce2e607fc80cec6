-- The words that are read of a text are those that the grammar finds in it.
--
-- AreWords-words: words of the grammar that are read of a text are its words
-- words-AreWords: the words of a text are read of it
use Rattle.std.proofs.Common.{◌≡◌, ℕ, Bool, true, false, List, [], ◌∷◌, ◌++◌, ◌⊎◌, ◌==◌, ◌||◌, not, refl, sym, ap, ◌∙◌, inl, inr, subst, append-nil, cond}
use Rattle.std.proofs.lemmas.Bool.{cases_Bool, eqb-true}
use Rattle.std.specs.List.{list_all}
use Rattle.iso_text.specs.Cuts.{is_blank}
use Rattle.iso_text.specs.Lines.{unindented, without_trail, trimmed}
use Rattle.hall_symbol.specs.Words.{can_follow, AreWords, opening}
use Rattle.hall_symbol.specs.WordReading.{words, ends_word, begins_word, with_front}
use Rattle.hall_symbol.proofs.WordsLemmas.{words-unindented, words-stop, words-go, goes_on}
use Rattle.hall_symbol.proofs.Cases.{and-first, and-second, not_or, not_true, or-false, or-true, or_false, or_true, true-false}

-- ---- the words of a trimmed text

words-blank : (c : ℕ) (cs : List ℕ) → is_blank c ≡ true → words (c ∷ cs) ≡ words cs
unfolding words
words-blank c cs blank = rw blank refl

pub words-blanks : (blanks text : List ℕ) → list_all is_blank blanks ≡ true → words (blanks ++ text) ≡ words text
words-blanks [] text h = refl
words-blanks (c ∷ cs) text h =
    words-blank c (cs ++ text) (and-first (is_blank c) (list_all is_blank cs) h) ∙ words-blanks cs text (and-second (is_blank c) (list_all is_blank cs) h)

can_follow-without_trail : (text : List ℕ) → can_follow (without_trail text) ≡ can_follow text
can_follow-without_trail [] = refl
can_follow-without_trail (c ∷ cs) = elim (cases_Bool (list_all is_blank (c ∷ cs))) [
  | inl blanks ↦
      let first : is_blank c ≡ true = and-first (is_blank c) (list_all is_blank cs) blanks in
      ap (λ t. can_follow (cond t [] (c ∷ without_trail cs))) blanks ∙ sym (ap (λ t. t || c == 41) first)
  | inr others ↦ ap (λ t. can_follow (cond t [] (c ∷ without_trail cs))) others
]

words-same : (c : ℕ) (cs ds : List ℕ) → can_follow ds ≡ can_follow cs → words ds ≡ words cs → words (c ∷ ds) ≡ words (c ∷ cs)
unfolding words
words-same c cs ds e f =
    ap (λ v. cond (is_blank c) v (cond (ends_word (c ∷ ds)) ((c ∷ []) ∷ v) (with_front (c ∷ []) v))) f
    ∙ ap (λ t. cond (is_blank c) (words cs) (cond (c == 40 || t) ((c ∷ []) ∷ words cs) (with_front (c ∷ []) (words cs)))) e

words-without_trail : (text : List ℕ) → words (without_trail text) ≡ words text
words-without_trail [] = refl
words-without_trail (c ∷ cs) = elim (cases_Bool (list_all is_blank (c ∷ cs))) [
  | inl blanks ↦
      ap (λ t. words (cond t [] (c ∷ without_trail cs))) blanks ∙ sym (words-blanks (c ∷ cs) [] blanks) ∙ ap words (append-nil (c ∷ cs))
  | inr others ↦
      ap (λ t. words (cond t [] (c ∷ without_trail cs))) others ∙ words-same c cs (without_trail cs) (can_follow-without_trail cs) (words-without_trail cs)
]

pub words-trimmed : (text : List ℕ) → words (trimmed text) ≡ words text
words-trimmed text = words-without_trail (unindented text) ∙ words-unindented text

-- ---- the words of the grammar

-- no blank and no bracket
abbrev pub is_plain : ℕ → Bool
is_plain c = not (is_blank c || (c == 40 || c == 41))

-- a bracket, or bytes that are neither blanks nor brackets
abbrev pub is_word : List ℕ → Bool
is_word [] = false
is_word (c ∷ []) = not (is_blank c)
is_word (c ∷ d ∷ ds) = list_all is_plain (c ∷ d ∷ ds)

words-plain : (c : ℕ) (w rest : List ℕ) → list_all is_plain (c ∷ w) ≡ true → can_follow rest ≡ true → words (c ∷ (w ++ rest)) ≡ (c ∷ w) ∷ words rest
words-plain c [] rest plain follow =
    let first = not_or (is_blank c) (c == 40 || c == 41) (and-first (is_plain c) true plain) in
    words-stop c rest first.0 (ap (λ t. c == 40 || t) follow ∙ or_true (c == 40))
words-plain c (d ∷ ds) rest plain follow =
    let first = not_or (is_blank c) (c == 40 || c == 41) (and-first (is_plain c) (list_all is_plain (d ∷ ds)) plain) in
    let others : list_all is_plain (d ∷ ds) ≡ true = and-second (is_plain c) (list_all is_plain (d ∷ ds)) plain in
    let second = not_or (is_blank d) (d == 40 || d == 41) (and-first (is_plain d) (list_all is_plain ds) others) in
    let c-open : (c == 40) ≡ false = (or-false (c == 40) (c == 41) first.1).0 in
    let d-close : (d == 41) ≡ false = (or-false (d == 40) (d == 41) second.1).1 in
    words-go c (d ∷ (ds ++ rest)) first.0 (or_false (c == 40) (is_blank d || d == 41) c-open (or_false (is_blank d) (d == 41) second.0 d-close))
    ∙ ap (with_front (c ∷ [])) (words-plain d ds rest others follow)

-- a word at the front of a text
pub words-append : (w rest : List ℕ) → is_word w ≡ true → (w ≡ opening) ⊎ (can_follow rest ≡ true) → words (w ++ rest) ≡ w ∷ words rest
words-append [] rest h side = cc h
words-append (c ∷ []) rest h (inl bracket) = words-stop c rest (not_true (is_blank c) h) (let e : c ≡ 40 = cc bracket in ap (λ b. b == 40 || can_follow rest) e)
words-append (c ∷ []) rest h (inr follow) = words-stop c rest (not_true (is_blank c) h) (ap (λ t. c == 40 || t) follow ∙ or_true (c == 40))
words-append (c ∷ d ∷ ds) rest h (inl bracket) = cc bracket
words-append (c ∷ d ∷ ds) rest h (inr follow) = words-plain c (d ∷ ds) rest h follow

-- words of the grammar are read
pub words-AreWords : (ws : List (List ℕ)) (text : List ℕ) → list_all is_word ws ≡ true → AreWords ws text → words text ≡ ws
unfolding words
words-AreWords [] text h blanks = ap words (sym (append-nil text)) ∙ words-blanks text [] blanks
words-AreWords (w ∷ ws) text h (blanks, rest, blank, split, side, more) =
    ap words split ∙ words-blanks blanks (w ++ rest) blank ∙ words-append w rest (and-first (is_word w) (list_all is_word ws) h) side
    ∙ ap (λ vs. w ∷ vs) (words-AreWords ws rest (and-second (is_word w) (list_all is_word ws) h) more)

-- ---- what is read of a text

-- the last byte is `(`
abbrev pub ends_open : List ℕ → Bool
ends_open [] = false
ends_open (c ∷ []) = c == 40
ends_open (c ∷ d ∷ ds) = ends_open (d ∷ ds)

-- the text is these words, each cut behind a `(`
abbrev AreTokens : List (List ℕ) → List ℕ → Type 0
AreTokens [] text = list_all is_blank text ≡ true
AreTokens (w ∷ ws) text = (blanks rest : List ℕ) × (list_all is_blank blanks ≡ true) × (text ≡ blanks ++ (w ++ rest)) × ((ends_open w ≡ true) ⊎ (can_follow rest ≡ true)) × AreTokens ws rest

ends_open-more : (c : ℕ) (w : List ℕ) → ends_open w ≡ true → ends_open (c ∷ w) ≡ true
ends_open-more c [] h = cc h
ends_open-more c (d ∷ ds) h = h

AreTokens-blank : (c : ℕ) (ws : List (List ℕ)) (cs : List ℕ) → is_blank c ≡ true → AreTokens ws cs → AreTokens ws (c ∷ cs)
AreTokens-blank c [] cs blank h = rw blank h
AreTokens-blank c (w ∷ ws) cs blank (blanks, rest, all, split, side, more) = (c ∷ blanks, rest, rw blank all, ap (λ t. c ∷ t) split, side, more)

blanks-follow : (cs : List ℕ) → list_all is_blank cs ≡ true → can_follow cs ≡ true
blanks-follow [] h = refl
blanks-follow (c ∷ cs) h = ap (λ t. t || c == 41) (and-first (is_blank c) (list_all is_blank cs) h)

no_blanks : (cs blanks more : List ℕ) → begins_word cs ≡ true → list_all is_blank blanks ≡ true → cs ≡ blanks ++ more → cs ≡ more
no_blanks cs [] more begins h e = e
no_blanks cs (b ∷ bs) more begins h e =
    let blank : is_blank b ≡ true = and-first (is_blank b) (list_all is_blank bs) h in
    let other : not (is_blank b) ≡ true = sym (ap begins_word e) ∙ begins in
    absurd (true-false (sym (ap not blank) ∙ other))

AreTokens-front : (c : ℕ) (ws : List (List ℕ)) (cs : List ℕ) → begins_word cs ≡ true → AreTokens ws cs → AreTokens (with_front (c ∷ []) ws) (c ∷ cs)
AreTokens-front c [] cs begins h = ([], cs, refl, refl, inr (blanks-follow cs h), h)
AreTokens-front c (w ∷ ws) cs begins (blanks, rest, all, split, side, more) =
    let e : cs ≡ w ++ rest = no_blanks cs blanks (w ++ rest) begins all split in
    ([], rest, refl, ap (λ t. c ∷ t) e, elim side [ inl bracket ↦ inl (ends_open-more c w bracket) | inr follow ↦ inr follow ], more)

AreTokens-words : (text : List ℕ) → AreTokens (words text) text
unfolding words
AreTokens-words [] = refl
AreTokens-words (c ∷ cs) = elim (cases_Bool (is_blank c)) [
  | inl blank ↦ subst (λ ws. AreTokens ws (c ∷ cs)) (sym (words-blank c cs blank)) (AreTokens-blank c (words cs) cs blank (AreTokens-words cs))
  | inr other ↦ elim (cases_Bool (ends_word (c ∷ cs))) [
    | inl stops ↦ subst (λ ws. AreTokens ws (c ∷ cs)) (sym (words-stop c cs other stops)) ([], cs, refl, refl, or-true (c == 40) (can_follow cs) stops, AreTokens-words cs)
    | inr goes ↦ subst (λ ws. AreTokens ws (c ∷ cs)) (sym (words-go c cs other goes)) (AreTokens-front c (words cs) cs (goes_on c cs goes) (AreTokens-words cs))
  ]
]

plain-open : (w : List ℕ) → list_all is_plain w ≡ true → ends_open w ≡ true → ⊥
plain-open [] h bracket = cc bracket
plain-open (c ∷ []) h bracket =
    let first = not_or (is_blank c) (c == 40 || c == 41) (and-first (is_plain c) true h) in
    true-false (sym (or-false (c == 40) (c == 41) first.1).0 ∙ bracket)
plain-open (c ∷ d ∷ ds) h bracket = plain-open (d ∷ ds) (and-second (is_plain c) (list_all is_plain (d ∷ ds)) h) bracket

open-side : (w : List ℕ) → is_word w ≡ true → ends_open w ≡ true → w ≡ opening
open-side [] h bracket = cc bracket
open-side (c ∷ []) h bracket = ap (λ b. b ∷ []) (eqb-true c 40 bracket)
open-side (c ∷ d ∷ ds) h bracket = absurd (plain-open (c ∷ d ∷ ds) h bracket)

AreWords-AreTokens : (ws : List (List ℕ)) (text : List ℕ) → list_all is_word ws ≡ true → AreTokens ws text → AreWords ws text
AreWords-AreTokens [] text h tokens = tokens
AreWords-AreTokens (w ∷ ws) text h (blanks, rest, all, split, side, more) = (
  blanks,
  rest,
  all,
  split,
  elim side [ inl bracket ↦ inl (open-side w (and-first (is_word w) (list_all is_word ws) h) bracket) | inr follow ↦ inr follow ],
  AreWords-AreTokens ws rest (and-second (is_word w) (list_all is_word ws) h) more,
)

-- words of the grammar that are read of a text are words of it
pub AreWords-words : (ws : List (List ℕ)) (text : List ℕ) → list_all is_word ws ≡ true → words text ≡ ws → AreWords ws text
AreWords-words ws text h e = AreWords-AreTokens ws text h (subst (λ vs. AreTokens vs text) e (AreTokens-words text))
