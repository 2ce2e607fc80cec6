-- Trimming and the words of a text.
use Rattle.std.proofs.Common.{◌≡◌, ◌<◌, ◌+◌, ◌-◌, ℕ, Bool, true, false, cond, List, [], ◌∷◌, ◌++◌, length, take, drop, get_or, refl, sym, ap, ◌∙◌, arith, inl, inr, append_assoc, ◌&&◌}
use Rattle.std.proofs.lemmas.Bool.{cases_Bool}
use Rattle.std.proofs.lemmas.List.{drop_more, take_more, take_all, length-drop}
use Rattle.std.specs.List.{list_all}
use Rattle.iso_text.specs.Cuts.{is_blank}
use Rattle.iso_text.specs.Lines.{unindented, without_trail}
use Rattle.hall_symbol.specs.WordReading.{words, ends_word, begins_word, with_front}

-- ---- blanks at the ends

unindented-other : (c : ℕ) (cs : List ℕ) → is_blank c ≡ false → unindented (c ∷ cs) ≡ c ∷ cs
unindented-other c cs other = rw other refl

pub words-unindented : (text : List ℕ) → words (unindented text) ≡ words text
unfolding words
words-unindented [] = refl
words-unindented (c ∷ cs) = elim (cases_Bool (is_blank c)) [
  | inl blank ↦ rw blank (words-unindented cs)
  | inr other ↦ ap words (unindented-other c cs other)
]

pub begins_word-unindented : (text : List ℕ) → 0 < length (unindented text) → begins_word (unindented text) ≡ true
begins_word-unindented [] some = absurd (omega arith)
begins_word-unindented (c ∷ cs) some = elim (cases_Bool (is_blank c)) [
  | inl blank ↦ rw blank (begins_word-unindented cs (rw blank at some))
  | inr other ↦ rw (other, other) refl
]

-- ---- blanks at the end

all-push : (xs : List ℕ) (b : ℕ) → list_all is_blank (xs ++ b ∷ []) ≡ (list_all is_blank xs && is_blank b)
all-push [] b = elim (is_blank b) as (λ t. (t && true) ≡ t) [ true ↦ refl | false ↦ refl ]
all-push (x ∷ xs) b = elim (is_blank x) as (λ t. (t && list_all is_blank (xs ++ b ∷ [])) ≡ ((t && list_all is_blank xs) && is_blank b)) [ true ↦ all-push xs b | false ↦ refl ]

and_true : (t : Bool) → (t && true) ≡ t
and_true true = refl
and_true false = refl

and_false : (t : Bool) → (t && false) ≡ false
and_false true = refl
and_false false = refl

pub without_trail-blank : (xs : List ℕ) (b : ℕ) → is_blank b ≡ true → without_trail (xs ++ b ∷ []) ≡ without_trail xs
without_trail-blank [] b blank = rw blank refl
without_trail-blank (x ∷ xs) b blank =
    let e : list_all is_blank (x ∷ (xs ++ b ∷ [])) ≡ list_all is_blank (x ∷ xs) = all-push (x ∷ xs) b ∙ ap (λ t. list_all is_blank (x ∷ xs) && t) blank ∙ and_true (list_all is_blank (x ∷ xs)) in
    ap (λ t. cond t [] (x ∷ without_trail (xs ++ b ∷ []))) e ∙ ap (λ u. cond (list_all is_blank (x ∷ xs)) [] (x ∷ u)) (without_trail-blank xs b blank)

pub without_trail-other : (xs : List ℕ) (b : ℕ) → is_blank b ≡ false → without_trail (xs ++ b ∷ []) ≡ xs ++ b ∷ []
without_trail-other [] b other = rw other refl
without_trail-other (x ∷ xs) b other =
    let e : list_all is_blank (x ∷ (xs ++ b ∷ [])) ≡ false = all-push (x ∷ xs) b ∙ ap (λ t. list_all is_blank (x ∷ xs) && t) other ∙ and_false (list_all is_blank (x ∷ xs)) in
    ap (λ t. cond t [] (x ∷ without_trail (xs ++ b ∷ []))) e ∙ ap (λ u. x ∷ u) (without_trail-other xs b other)

-- one byte less, where it is a blank
pub without_trail-take : (text : List ℕ) (n : ℕ) → n < length text → is_blank (get_or text n 0) ≡ true → without_trail (take (n + 1) text) ≡ without_trail (take n text)
without_trail-take text n short blank = ap without_trail (take_more text n 0 short) ∙ without_trail-blank (take n text) (get_or text n 0) blank

-- the end, at a byte that is no blank
pub without_trail-kept : (text : List ℕ) (n : ℕ) → n < length text → is_blank (get_or text n 0) ≡ false → without_trail (take (n + 1) text) ≡ take (n + 1) text
without_trail-kept text n short other = ap without_trail (take_more text n 0 short) ∙ without_trail-other (take n text) (get_or text n 0) other ∙ sym (take_more text n 0 short)

-- ---- the length of a word

pub with_front-append : (front more : List ℕ) (ws : List (List ℕ)) → with_front (front ++ more) ws ≡ with_front front (with_front more ws)
with_front-append front more [] = refl
with_front-append front more (w ∷ ws) = ap (λ v. v ∷ ws) (append_assoc front more w)

pub words-stop : (c : ℕ) (cs : List ℕ) → is_blank c ≡ false → ends_word (c ∷ cs) ≡ true → words (c ∷ cs) ≡ (c ∷ []) ∷ words cs
unfolding words
words-stop c cs other ends = rw (other, ends) refl

pub words-go : (c : ℕ) (cs : List ℕ) → is_blank c ≡ false → ends_word (c ∷ cs) ≡ false → words (c ∷ cs) ≡ with_front (c ∷ []) (words cs)
unfolding words
words-go c cs other ends = rw (other, ends) refl

-- what stands behind a byte that doesn't end a word begins with no blank
pub goes_on : (c : ℕ) (cs : List ℕ) → ends_word (c ∷ cs) ≡ false → begins_word cs ≡ true
goes_on c [] h = grind arith
goes_on c (d ∷ ds) h = grind arith

pub begins-some : (text : List ℕ) → begins_word text ≡ true → 0 < length text
begins-some [] h = cc
begins-some (c ∷ cs) h = omega arith

begins-other : (c : ℕ) (cs : List ℕ) → begins_word (c ∷ cs) ≡ true → is_blank c ≡ false
begins-other c cs h = grind arith

-- nothing in front of a word
pub with_front-none : (text : List ℕ) → begins_word text ≡ true → words text ≡ with_front [] (words text)
unfolding words
with_front-none [] h = cc
with_front-none (c ∷ cs) h = elim (cases_Bool (ends_word (c ∷ cs))) [
  | inl stops ↦ rw (begins-other c cs h, stops) refl
  | inr goes ↦ rw (begins-other c cs h, goes) (with_front-append [] (c ∷ []) (words cs))
]

-- one byte more of a word that doesn't end with it
pub record GoesOn (text : List ℕ) (n : ℕ) : Type 0 where
  pub begins : begins_word (drop n text) ≡ true
  pub within : n < length text
  pub split : words text ≡ with_front (take n text) (words (drop n text))

pub GoesOn-more : (text : List ℕ) (n : ℕ) → GoesOn text n → ends_word (drop n text) ≡ false → GoesOn text (n + 1)
GoesOn-more text n h go =
    let at : drop n text ≡ get_or text n 0 ∷ drop (n + 1) text = drop_more text n 0 h.within in
    let begins : begins_word (drop (n + 1) text) ≡ true = goes_on (get_or text n 0) (drop (n + 1) text) (sym (ap ends_word at) ∙ go) in
    let other : is_blank (get_or text n 0) ≡ false = begins-other (get_or text n 0) (drop (n + 1) text) (sym (ap begins_word at) ∙ h.begins) in
    let more : words (drop n text) ≡ with_front (get_or text n 0 ∷ []) (words (drop (n + 1) text)) = ap words at ∙ words-go (get_or text n 0) (drop (n + 1) text) other (sym (ap ends_word at) ∙ go) in
    let size : 0 < length (drop (n + 1) text) = begins-some (drop (n + 1) text) begins in
    record {
      begins = begins;
      within = omega (arith, length-drop (n + 1) text);
      split = h.split ∙ ap (with_front (take n text)) more ∙ sym (with_front-append (take n text) (get_or text n 0 ∷ []) (words (drop (n + 1) text))) ∙ ap (λ f. with_front f (words (drop (n + 1) text))) (sym (take_more text n 0 h.within));
    }

-- the word, where it ends
pub GoesOn-ends : (text : List ℕ) (n : ℕ) → GoesOn text n → ends_word (drop n text) ≡ true → words text ≡ take (n + 1) text ∷ words (drop (n + 1) text)
GoesOn-ends text n h stop =
    let at : drop n text ≡ get_or text n 0 ∷ drop (n + 1) text = drop_more text n 0 h.within in
    let other : is_blank (get_or text n 0) ≡ false = begins-other (get_or text n 0) (drop (n + 1) text) (sym (ap begins_word at) ∙ h.begins) in
    let more : words (drop n text) ≡ (get_or text n 0 ∷ []) ∷ words (drop (n + 1) text) = ap words at ∙ words-stop (get_or text n 0) (drop (n + 1) text) other (sym (ap ends_word at) ∙ stop) in
    h.split ∙ ap (with_front (take n text)) more ∙ ap (λ f. f ∷ words (drop (n + 1) text)) (sym (take_more text n 0 h.within))

-- the end of a text from a place on
pub whole_end : (text : List ℕ) (n : ℕ) → take (length text - n) (drop n text) ≡ drop n text
whole_end text n = take_all (length text - n) (drop n text) (omega (arith, length-drop n text))

pub words-none : (text : List ℕ) → length text ≡ 0 → words text ≡ []
unfolding words
words-none [] none = refl
words-none (c ∷ cs) none = absurd (omega arith)
