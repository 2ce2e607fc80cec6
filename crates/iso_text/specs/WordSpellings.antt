-- The words of a line, by how they are put together.
--
-- AreBlanks text: spaces and tabs, none or more
-- AreWords words text: the text is these words in order, blanks between them and maybe at its ends
-- Each P words vs: each word spells by P the value at its place
-- Three P words vs: three words and three values
-- SpellsName text name, SpellsSite words label place: a name; a label and three coordinates
use Rattle.std.specs.Prelude.{◌≡◌, ℕ, ℤ, true, not, List, [], ◌∷◌, ◌++◌, ◌<◌, length}
use Rattle.std.specs.List.{list_all}
use Rattle.iso_text.specs.Cuts.{is_blank}
use Rattle.iso_text.specs.Name.{is_name}
use Rattle.iso_text.specs.Spellings.{SpellsPlace}

-- spaces and tabs, none or more
abbrev pub AreBlanks : List ℕ → Type 0
AreBlanks text = list_all is_blank text ≡ true

-- one byte or more, none of them a blank
pub record IsWord (text : List ℕ) : Type 0 where
  pub some : 0 < length text
  pub whole : list_all (λ c. not (is_blank c)) text ≡ true

-- nothing, or a blank first: what may stand behind a word
abbrev pub EndsWord : List ℕ → Type 0
EndsWord [] = Unit {0}
EndsWord (c ∷ cs) = is_blank c ≡ true

-- the text is these words in order, blanks between them and maybe at its ends
abbrev pub AreWords : List (List ℕ) → List ℕ → Type 0
AreWords [] text = AreBlanks text
AreWords (word ∷ words) text = (blanks : List ℕ) × (rest : List ℕ) × AreBlanks blanks × (text ≡ blanks ++ (word ++ rest)) × IsWord word × EndsWord rest × AreWords words rest

-- each word spells the value at its place
abbrev pub Each : {V : Type 0} → (List ℕ → V → Type 0) → List (List ℕ) → List V → Type 0
Each P [] [] = Unit {0}
Each P [] (v ∷ vs) = ⊥
Each P (word ∷ words) [] = ⊥
Each P (word ∷ words) (v ∷ vs) = P word v × Each P words vs

-- three words and three values
pub record Three {V : Type 0} (P : List ℕ → V → Type 0) (words : List (List ℕ)) (vs : List V) : Type 0 where
  pub count : length words ≡ 3
  pub each : Each P words vs

-- a label and three coordinates
pub record SpellsSite (words : List (List ℕ)) (label : List ℕ) (place : List ℤ) : Type 0 where
  pub coordinates : List (List ℕ)
  pub joined : words ≡ label ∷ coordinates
  pub name : is_name label ≡ true
  pub places : Three SpellsPlace coordinates place
