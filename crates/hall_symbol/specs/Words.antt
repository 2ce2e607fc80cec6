-- The words of a text.
--
-- AreWords ws text: the text is these words in order, parted by blanks
use Rattle.std.specs.Prelude.{◌≡◌, ℕ, Bool, true, ◌==◌, ◌||◌, List, [], ◌∷◌, ◌++◌, ◌⊎◌}
use Rattle.std.specs.List.{list_all}
use Rattle.iso_text.specs.Cuts.{is_blank}

-- the words that enclose an origin shift
abbrev pub opening : List ℕ
opening = 40 ∷ []

abbrev pub closing : List ℕ
closing = 41 ∷ []

-- the end of a text, a blank or `)`: what may stand behind a word
abbrev pub can_follow : List ℕ → Bool
can_follow [] = true
can_follow (c ∷ cs) = is_blank c || c == 41

-- The text is these words in order. Blanks may stand before and after each of them. Between two words
-- at least one has to stand, but for the place behind `(` and that before `)`.
abbrev pub AreWords : List (List ℕ) → List ℕ → Type 0
AreWords [] text = list_all is_blank text ≡ true
AreWords (w ∷ ws) text = (blanks rest : List ℕ) × (list_all is_blank blanks ≡ true) × (text ≡ blanks ++ (w ++ rest)) × ((w ≡ opening) ⊎ (can_follow rest ≡ true)) × AreWords ws rest
