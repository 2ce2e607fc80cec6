-- How a text is cut into parts.
--
-- front p text, back p text: the bytes before the first one that p picks, and the rest from there on
-- behind p text: what follows that byte
-- words_of text: the words, which spaces and tabs separate
-- cut_at p text: the text cut before each byte that p picks, but the first byte
use Rattle.std.specs.Prelude.{ℕ, Bool, false, List, [], ◌∷◌, ◌==◌, ◌||◌, drop, if◌then◌else◌}

-- a space or a tab
abbrev pub is_blank : ℕ → Bool
is_blank c = c == 32 || c == 9

-- `+` or `-`
abbrev pub is_sign : ℕ → Bool
is_sign c = c == 43 || c == 45

-- this very byte
abbrev pub is_byte : ℕ → ℕ → Bool
is_byte b c = c == b

-- the bytes before the first one that p picks
abbrev pub front : (ℕ → Bool) → List ℕ → List ℕ
front p [] = []
front p (c ∷ cs) = if p c then [] else c ∷ front p cs

-- the first byte that p picks, and all after it
abbrev pub back : (ℕ → Bool) → List ℕ → List ℕ
back p [] = []
back p (c ∷ cs) = if p c then c ∷ cs else back p cs

-- what follows the first byte that p picks
abbrev pub behind : (ℕ → Bool) → List ℕ → List ℕ
behind p text = drop 1 (back p text)

-- whether the text begins with a byte that p picks
abbrev pub begins : (ℕ → Bool) → List ℕ → Bool
begins p [] = false
begins p (c ∷ cs) = p c

-- the byte joins the first part
abbrev pub onto_first : ℕ → List (List ℕ) → List (List ℕ)
onto_first c [] = (c ∷ []) ∷ []
onto_first c (part ∷ parts) = (c ∷ part) ∷ parts

-- the text cut before each byte that p picks, but the first byte
abbrev pub cut_at : (ℕ → Bool) → List ℕ → List (List ℕ)
cut_at p [] = []
cut_at p (c ∷ cs) = if begins p cs then (c ∷ []) ∷ cut_at p cs else onto_first c (cut_at p cs)

-- the longest parts without a blank
abbrev pub words_of : List ℕ → List (List ℕ)
words_of [] = []
words_of (c ∷ cs) = if is_blank c then words_of cs else (if begins is_blank cs then (c ∷ []) ∷ words_of cs else onto_first c (words_of cs))
