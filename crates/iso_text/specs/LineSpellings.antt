-- What a line of a file says, by how it is put together.
--
-- keyword line: the word that a line of this kind begins with
-- Says n words line: what the words behind that one say on line n
-- SaysLine n text line: line n says this; it isn't skipped
-- SayLines n lines said: these lines, numbered from n on, say this in order; those that are skipped say nothing
use Rattle.std.specs.Prelude.{◌≡◌, ◌⊎◌, ℕ, ◌+◌, ◌≤◌, true, false, List, [], ◌∷◌, length, codes}
use Rattle.iso_text.specs.Lines.{is_skipped, is_text}
use Rattle.iso_text.specs.OperationSpellings.{SpellsOperation}
use Rattle.iso_text.specs.SectionSpellings.{SpellsFormat, SpellsHall, SpellsLetter, SpellsIrrep, SpellsMat, SpellsCell, SpellsValue, SpellsAxial}
use Rattle.iso_text.specs.Spellings.{SpellsKFraction, SpellsTolerance}
use Rattle.iso_text.specs.SumSpellings.{SpellsNumber}
use Rattle.iso_text.specs.WordSpellings.{AreWords, Each, Three, SpellsSite}
use Rattle.iso_text.specs.declared.line_kinds.Line.{Line}
use Rattle.iso_text.specs.declared.line_kinds.Line.TheVariants.{Skip, Bad, Head, Hall, Lattice, Op, Irrep, K, Mat, RealVector, Atom, Tolerance, Cell, Listed, Value, Axial, End}

-- the word that a line of this kind begins with
abbrev pub keyword : Line → List ℕ
keyword Skip = []
keyword Bad = []
keyword (Head format) = codes "isodist"
keyword (Hall n symbol) = codes "hall"
keyword (Lattice n letter) = codes "lattice"
keyword (Op o) = codes "op"
keyword (Irrep i) = codes "irrep"
keyword (K k) = codes "k"
keyword (Mat m) = codes "mat"
keyword (RealVector v) = codes "realvector"
keyword (Atom a) = codes "atom"
keyword (Tolerance t) = codes "tolerance"
keyword (Cell c) = codes "cell"
keyword (Listed a) = codes "listed"
keyword (Value v) = codes "value"
keyword (Axial v) = codes "axial"
keyword End = codes "end"

-- what the words behind the first one say on line n
abbrev pub Says : ℕ → List (List ℕ) → Line → Type 0
Says n words (Head format) = SpellsFormat words format
Says n words (Lattice line letter) = (line ≡ n) × SpellsLetter words letter
Says n words (Op o) = (o.line ≡ n) × (word : List ℕ) × (words ≡ word ∷ []) × SpellsOperation word o.op
Says n words (Irrep i) = (i.line ≡ n) × SpellsIrrep words i
Says n words (K k) = Three SpellsKFraction words k
Says n words (Mat m) = (m.line ≡ n) × SpellsMat words m
Says n words (RealVector v) = (v.line ≡ n) × (1 ≤ length words) × (length words ≤ 24) × Each SpellsNumber words v.numbers
Says n words (Atom a) = (a.line ≡ n) × SpellsSite words a.label a.place
Says n words (Tolerance t) = (word : List ℕ) × (words ≡ word ∷ []) × SpellsTolerance word t
Says n words (Cell c) = (c.line ≡ n) × SpellsCell words c
Says n words (Listed a) = (a.line ≡ n) × SpellsSite words a.label a.place
Says n words (Value v) = (v.line ≡ n) × SpellsValue words v
Says n words (Axial v) = (v.line ≡ n) × SpellsAxial words v
Says n words End = words ≡ []
Says n words (Hall line symbol) = ⊥
Says n words Skip = ⊥
Says n words Bad = ⊥

-- a keyword and the words behind it; the text of a Hall symbol is the rest of its line
abbrev pub SpellsLine : ℕ → List ℕ → Line → Type 0
SpellsLine n text (Hall line symbol) = (line ≡ n) × SpellsHall text symbol
SpellsLine n text line = (words : List (List ℕ)) × AreWords (keyword line ∷ words) text × Says n words line

-- line n says this; it isn't skipped
pub record SaysLine (n : ℕ) (text : List ℕ) (line : Line) : Type 0 where
  pub kept : is_skipped text ≡ false
  pub ascii : is_text text ≡ true
  pub spelled : SpellsLine n text line

-- these lines, numbered from n on, say this in order; those that are skipped say nothing
abbrev pub SayLines : ℕ → List (List ℕ) → List Line → Type 0
SayLines n [] said = said ≡ []
SayLines n (text ∷ lines) said =
    ((is_skipped text ≡ true) × SayLines (n + 1) lines said)
    ⊎ ((line : Line) × (more : List Line) × (said ≡ line ∷ more) × SaysLine n text line × SayLines (n + 1) lines more)
