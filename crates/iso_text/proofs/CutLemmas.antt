-- Fronts and backs of a text, and its cuts.
use Rattle.std.proofs.Common.{◌≡◌, ℕ, ◌+◌, ◌<◌, Bool, true, false, List, [], ◌∷◌, ◌++◌, length, take, drop, get_or, refl, sym, ◌∙◌, ap, arith, append_assoc, if◌then◌else◌, add-one}
use Rattle.std.proofs.lemmas.List.{take_more, drop_more, at_drop_more}
use Rattle.iso_text.specs.Cuts.{front, back, begins, onto_first, cut_at, words_of, is_blank}

-- a byte that isn't picked
pub front_more : (p : ℕ → Bool) (text : List ℕ) (i d : ℕ) → i < length text → p (get_or text i d) ≡ false → front p (drop i text) ≡ get_or text i d ∷ front p (drop (i + 1) text)
front_more p text i d within other = at_drop_more (front p) text i d within ∙ rw other refl

pub back_more : (p : ℕ → Bool) (text : List ℕ) (i d : ℕ) → i < length text → p (get_or text i d) ≡ false → back p (drop i text) ≡ back p (drop (i + 1) text)
back_more p text i d within other = at_drop_more (back p) text i d within ∙ rw other refl

-- the front so far grows by it
pub front_grows : (p : ℕ → Bool) (text : List ℕ) (i d : ℕ) → i < length text → p (get_or text i d) ≡ false → front p text ≡ take i text ++ front p (drop i text) → front p text ≡ take (i + 1) text ++ front p (drop (i + 1) text)
front_grows p text i d within other before =
    before ∙ ap (λ t. take i text ++ t) (front_more p text i d within other) ∙ sym (append_assoc (take i text) (get_or text i d ∷ []) (front p (drop (i + 1) text))) ∙ ap (λ t. t ++ front p (drop (i + 1) text)) (sym (take_more text i d within))

-- a byte that is picked
pub front_stops : (p : ℕ → Bool) (text : List ℕ) (i d : ℕ) → i < length text → p (get_or text i d) ≡ true → front p (drop i text) ≡ []
front_stops p text i d within picked = at_drop_more (front p) text i d within ∙ rw picked refl

pub back_stops : (p : ℕ → Bool) (text : List ℕ) (i d : ℕ) → i < length text → p (get_or text i d) ≡ true → back p (drop i text) ≡ drop i text
back_stops p text i d within picked = at_drop_more (back p) text i d within ∙ rw picked refl ∙ sym (drop_more text i d within)

cut_before : (p : ℕ → Bool) (c b : ℕ) (bs : List ℕ) (t : Bool) → p b ≡ t → cut_at p (b ∷ bs) ≡ (b ∷ front p bs) ∷ cut_at p (back p bs) → cut_at p (c ∷ (b ∷ bs)) ≡ (c ∷ front p (b ∷ bs)) ∷ cut_at p (back p (b ∷ bs))
cut_before p c b bs true is rest = rw is refl
cut_before p c b bs false is rest = rw is (ap (onto_first c) rest)

-- the first part of a text that is cut before each byte that is picked
pub cut_at-cons : (p : ℕ → Bool) (c : ℕ) (cs : List ℕ) → cut_at p (c ∷ cs) ≡ (c ∷ front p cs) ∷ cut_at p (back p cs)
cut_at-cons p c [] = refl
cut_at-cons p c (b ∷ bs) = cut_before p c b bs (p b) refl (cut_at-cons p b bs)

front_other : (p : ℕ → Bool) (b : ℕ) (bs : List ℕ) → p b ≡ false → front p (b ∷ bs) ≡ b ∷ front p bs
front_other p b bs other = rw other refl

back_other : (p : ℕ → Bool) (b : ℕ) (bs : List ℕ) → p b ≡ false → back p (b ∷ bs) ≡ back p bs
back_other p b bs other = rw other refl

-- a word's first byte, and the rest of it
word_step : (c : ℕ) (cs : List ℕ) → is_blank c ≡ false → words_of (c ∷ cs) ≡ (if begins is_blank cs then (c ∷ []) ∷ words_of cs else onto_first c (words_of cs))
word_step c cs first = ap (λ t. if t then words_of cs else (if begins is_blank cs then (c ∷ []) ∷ words_of cs else onto_first c (words_of cs))) first

word_before : (c b : ℕ) (bs : List ℕ) (t : Bool) → is_blank c ≡ false → is_blank b ≡ t → (is_blank b ≡ false → words_of (b ∷ bs) ≡ (b ∷ front is_blank bs) ∷ words_of (back is_blank bs)) → words_of (c ∷ (b ∷ bs)) ≡ (c ∷ front is_blank (b ∷ bs)) ∷ words_of (back is_blank (b ∷ bs))
word_before c b bs true first is rest =
    word_step c (b ∷ bs) first ∙ ap (λ t. if t then (c ∷ []) ∷ words_of (b ∷ bs) else onto_first c (words_of (b ∷ bs))) is
    ∙ sym (ap (λ t. (c ∷ (if t then [] else b ∷ front is_blank bs)) ∷ words_of (if t then b ∷ bs else back is_blank bs)) is)
word_before c b bs false first is rest =
    word_step c (b ∷ bs) first ∙ ap (λ t. if t then (c ∷ []) ∷ words_of (b ∷ bs) else onto_first c (words_of (b ∷ bs))) is ∙ ap (onto_first c) (rest is)
    ∙ sym (ap (λ t. (c ∷ (if t then [] else b ∷ front is_blank bs)) ∷ words_of (if t then b ∷ bs else back is_blank bs)) is)

-- the first word of a text that doesn't begin with a blank
pub words_of-cons : (c : ℕ) (cs : List ℕ) → is_blank c ≡ false → words_of (c ∷ cs) ≡ (c ∷ front is_blank cs) ∷ words_of (back is_blank cs)
words_of-cons c [] first = rw first refl
words_of-cons c (b ∷ bs) first = word_before c b bs (is_blank b) first refl (λ other. words_of-cons b bs other)

pub words_of-first : (text : List ℕ) → 0 < length text → is_blank (get_or text 0 0) ≡ false → words_of text ≡ front is_blank text ∷ words_of (back is_blank text)
words_of-first [] some first = absurd (omega arith)
words_of-first (c ∷ cs) some first =
    words_of-cons c cs first ∙ sym (ap (λ t. (if t then [] else c ∷ front is_blank cs) ∷ words_of (if t then c ∷ cs else back is_blank cs)) first)

pub cut_at-first : (p : ℕ → Bool) (text : List ℕ) (at : ℕ) → 0 < length text → take at (drop 1 text) ≡ front p (drop 1 text) → drop at (drop 1 text) ≡ back p (drop 1 text) → cut_at p text ≡ take (at + 1) text ∷ cut_at p (drop (at + 1) text)
cut_at-first p [] at some fronts backs = absurd (omega arith)
cut_at-first p (c ∷ cs) at some fronts backs =
    cut_at-cons p c cs ∙ ap (λ t. (c ∷ t) ∷ cut_at p (back p cs)) (sym fronts) ∙ ap (λ t. (c ∷ take at cs) ∷ cut_at p t) (sym backs) ∙ sym (rw add-one refl)

-- and it isn't empty
pub front_some : (text : List ℕ) → 0 < length text → is_blank (get_or text 0 0) ≡ false → 0 < length (front is_blank text)
front_some [] some first = absurd (omega arith)
front_some (c ∷ cs) some first = omega (arith, ap (λ t. length (if t then [] else c ∷ front is_blank cs)) first)
