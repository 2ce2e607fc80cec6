-- What the reader of words computes.
--
-- words text: the words of a text, each cut behind a `(`
use Rattle.std.specs.Prelude.{ℕ, Bool, true, false, ◌==◌, ◌||◌, not, if◌then◌else◌, List, [], ◌∷◌, ◌++◌}
use Rattle.iso_text.specs.Cuts.{is_blank}
use Rattle.hall_symbol.specs.Words.{can_follow}

-- a word ends with this byte
abbrev pub ends_word : List ℕ → Bool
ends_word [] = true
ends_word (c ∷ cs) = c == 40 || can_follow cs

-- the first byte is no blank
abbrev pub begins_word : List ℕ → Bool
begins_word [] = false
begins_word (c ∷ cs) = not (is_blank c)

-- the bytes joined to the first of the words
abbrev pub with_front : List ℕ → List (List ℕ) → List (List ℕ)
with_front front [] = front ∷ []
with_front front (w ∷ ws) = (front ++ w) ∷ ws

-- the words of a text
unfoldable pub words : List ℕ → List (List ℕ)
words [] = []
words (c ∷ cs) = if is_blank c then words cs else (if ends_word (c ∷ cs) then (c ∷ []) ∷ words cs else with_front (c ∷ []) (words cs))
