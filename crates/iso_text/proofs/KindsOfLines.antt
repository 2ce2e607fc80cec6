-- What a reader of lines answers for many lines, against what the lines say.
use Rattle.std.proofs.Common.{◌≡◌, ℕ, ◌+◌, Bool, true, false, List, [], ◌∷◌, Option, Some, None, refl, sym, ◌∙◌, ap, subst, ◌&&◌, if◌then◌else◌, inl, inr}
use Rattle.std.specs.Prelude.{filter, ◌⊎◌}
use Rattle.std.specs.List.{list_all}
use Rattle.iso_text.specs.Lines.{is_skipped, is_text, unindented}
use Rattle.iso_text.specs.LineKinds.{or_bad, said_by, kind_of}
use Rattle.iso_text.specs.LineSpellings.{SpellsLine, SaysLine, SayLines}
use Rattle.iso_text.specs.declared.line_kinds.Line.{Line}
use Rattle.iso_text.specs.declared.line_kinds.Line.TheVariants.{Skip, Bad, Head, Hall, Lattice, Op, Irrep, K, Mat, RealVector, Atom, Tolerance, Cell, Listed, Value, Axial, End}
use Rattle.iso_text.proofs.BodyLemmas.{both, apart}
use Rattle.iso_text.proofs.LinesGrammar.{said-sound, said-complete}

-- what each line says, numbered from n on
abbrev pub kinds : ℕ → List (List ℕ) → List Line
kinds n [] = []
kinds n (line ∷ lines) = kind_of n line ∷ kinds (n + 1) lines

abbrev pub is_kept : Line → Bool
is_kept Skip = false
is_kept _ = true

abbrev pub is_good : Line → Bool
is_good Bad = false
is_good _ = true

-- what is found in a line that isn't skipped
found : (o : Option Line) (line : Line) → or_bad o ≡ line → is_good line ≡ true → o ≡ Some line
found None line is good = absurd (let bad : false ≡ true = ap is_good is ∙ good in cc)
found (Some x) line is good = ap (λ y. Some y) is

not_bad : {A : Type 0} (line : Line) → Bad ≡ line → is_good line ≡ true → A
not_bad line is good = absurd (let bad : false ≡ true = ap is_good is ∙ good in cc)

-- a line that isn't bad is skipped, or says what is found in it
kind_by : (n : ℕ) (text : List ℕ) (line : Line) (skipped ascii : Bool) → is_skipped text ≡ skipped → is_text text ≡ ascii → (if skipped then Skip else (if ascii then or_bad (said_by n (unindented text)) else Bad)) ≡ line → is_good line ≡ true
    → ((is_skipped text ≡ true) × (Skip ≡ line)) ⊎ SaysLine n text line
kind_by n text line true ascii kept is_ascii is good = inl (kept, is)
kind_by n text line false true kept is_ascii is good = inr (record { kept = kept; ascii = is_ascii; spelled = said-sound n text line (found (said_by n (unindented text)) line is good) })
kind_by n text line false false kept is_ascii is good = not_bad line is good

pub kind-cases : (n : ℕ) (text : List ℕ) (line : Line) → kind_of n text ≡ line → is_good line ≡ true → ((is_skipped text ≡ true) × (Skip ≡ line)) ⊎ SaysLine n text line
kind-cases n text line is good = kind_by n text line (is_skipped text) (is_text text) refl refl is good

not_kept : {A : Type 0} (line : Line) → Skip ≡ line → is_kept line ≡ true → A
not_kept line is kept = absurd (let bad : false ≡ true = ap is_kept is ∙ kept in cc)

-- what the reader keeps of a line is what it says
pub kind-sound : (n : ℕ) (text : List ℕ) (line : Line) → kind_of n text ≡ line → is_kept line ≡ true → is_good line ≡ true → SaysLine n text line
kind-sound n text line is kept good = elim (kind-cases n text line is good) [
  | inl w ↦ not_kept line w.1 kept
  | inr s ↦ s
]

kept_good : (n : ℕ) (text : List ℕ) (line : Line) → SpellsLine n text line → (is_kept line ≡ true) × (is_good line ≡ true)
kept_good n text Skip s = absurd s.2
kept_good n text Bad s = absurd s.2
kept_good n text (Head format) s = (refl, refl)
kept_good n text (Hall line symbol) s = (refl, refl)
kept_good n text (Lattice line letter) s = (refl, refl)
kept_good n text (Op o) s = (refl, refl)
kept_good n text (Irrep i) s = (refl, refl)
kept_good n text (K k) s = (refl, refl)
kept_good n text (Mat m) s = (refl, refl)
kept_good n text (RealVector v) s = (refl, refl)
kept_good n text (Atom a) s = (refl, refl)
kept_good n text (Tolerance t) s = (refl, refl)
kept_good n text (Cell c) s = (refl, refl)
kept_good n text (Listed a) s = (refl, refl)
kept_good n text (Value v) s = (refl, refl)
kept_good n text (Axial v) s = (refl, refl)
kept_good n text End s = (refl, refl)

-- what a line says is what the reader keeps of it
pub kind-complete : (n : ℕ) (text : List ℕ) (line : Line) → SaysLine n text line → (kind_of n text ≡ line) × (is_kept line ≡ true) × (is_good line ≡ true)
kind-complete n text line s =
    let answer = λ (b : Bool). if b then or_bad (said_by n (unindented text)) else Bad in
    let is : kind_of n text ≡ line = ap (λ b. if b then Skip else answer (is_text text)) s.kept ∙ ap answer s.ascii ∙ ap or_bad (said-complete n text line s.spelled) in
    let parts = kept_good n text line s.spelled in
    (is, parts.0, parts.1)

skipped_kind : (n : ℕ) (text : List ℕ) → is_skipped text ≡ true → kind_of n text ≡ Skip
skipped_kind n text skipped = ap (λ b. if b then Skip else (if is_text text then or_bad (said_by n (unindented text)) else Bad)) skipped

-- the first of many lines
kept_first : (line : Line) (lines : List Line) → is_kept line ≡ true → filter is_kept (line ∷ lines) ≡ line ∷ filter is_kept lines
kept_first line lines kept = ap (λ b. if b then line ∷ filter is_kept lines else filter is_kept lines) kept

say_one : (n : ℕ) (text : List ℕ) (lines : List (List ℕ)) (line : Line) (said : List Line) → kind_of n text ≡ line → SayLines (n + 1) lines (filter is_kept said) → ((is_skipped text ≡ true) × (Skip ≡ line)) ⊎ SaysLine n text line → SayLines n (text ∷ lines) (filter is_kept (line ∷ said))
say_one n text lines line said is more (inl w) = subst (λ x. SayLines n (text ∷ lines) (filter is_kept (x ∷ said))) w.1 (inl (w.0, more))
say_one n text lines line said is more (inr s) =
    inr (line, filter is_kept said, kept_first line said (kind-complete n text line s).1, s, more)

-- lines of which none is bad say what the reader keeps of them
pub say-sound : (n : ℕ) (lines : List (List ℕ)) → list_all is_good (kinds n lines) ≡ true → SayLines n lines (filter is_kept (kinds n lines))
say-sound n [] good = refl
say-sound n (text ∷ lines) good =
    let parts = apart (is_good (kind_of n text)) (list_all is_good (kinds (n + 1) lines)) good in
    say_one n text lines (kind_of n text) (kinds (n + 1) lines) refl (say-sound (n + 1) lines parts.1) (kind-cases n text (kind_of n text) refl parts.0)

-- the first line is this, and the others are good and say the rest
read_one : (n : ℕ) (text : List ℕ) (lines : List (List ℕ)) (line : Line) (said : List Line) → kind_of n text ≡ line → is_good line ≡ true → filter is_kept (line ∷ kinds (n + 1) lines) ≡ said → list_all is_good (kinds (n + 1) lines) ≡ true
    → (list_all is_good (kinds n (text ∷ lines)) ≡ true) × (filter is_kept (kinds n (text ∷ lines)) ≡ said)
read_one n text lines line said is good kept more =
    (ap (λ x. is_good x && list_all is_good (kinds (n + 1) lines)) is ∙ both (is_good line) (list_all is_good (kinds (n + 1) lines)) good more, ap (λ x. filter is_kept (x ∷ kinds (n + 1) lines)) is ∙ kept)

-- what lines say is what the reader keeps of them, and none is bad
pub say-complete : (n : ℕ) (lines : List (List ℕ)) (said : List Line) → SayLines n lines said → (list_all is_good (kinds n lines) ≡ true) × (filter is_kept (kinds n lines) ≡ said)
say-complete n [] said says = (refl, sym says)
say-complete n (text ∷ lines) said (inl w) =
    let more = say-complete (n + 1) lines said w.1 in
    read_one n text lines Skip said (skipped_kind n text w.0) refl more.1 more.0
say-complete n (text ∷ lines) said (inr s) =
    let more = say-complete (n + 1) lines s.1 s.4 in
    let kind = kind-complete n text s.0 s.3 in
    read_one n text lines s.0 said kind.0 kind.2 (kept_first s.0 (kinds (n + 1) lines) kind.1 ∙ ap (λ x. s.0 ∷ x) more.1 ∙ sym s.2) more.0
