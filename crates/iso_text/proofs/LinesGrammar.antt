-- What a reader finds in a line that isn't skipped is what the line says.
use Rattle.std.proofs.Common.{◌≡◌, ℕ, Bool, true, false, List, ◌∷◌, codes, Option, Some, None, refl, sym, ◌∙◌, ap, subst, arith, if◌then◌else◌}
use Rattle.std.specs.Prelude.{option_and_then}
use Rattle.std.specs.Option.{option_map}
use Rattle.std.specs.Str.{bytes_eq}
use Rattle.iso_text.specs.Cuts.{front, back, words_of, is_blank}
use Rattle.iso_text.specs.LineKinds.{head_of, lattice_of, op_of, irrep_of, k_of, mat_of, vector_of, atom_of, tolerance_line_of, cell_of, value_of, axial_of, end_of, by_keyword, said_by}
use Rattle.iso_text.specs.LineWords.{keyword_of}
use Rattle.iso_text.specs.LineSpellings.{keyword, Says, SpellsLine}
use Rattle.iso_text.specs.Lines.{unindented}
use Rattle.iso_text.specs.WordSpellings.{IsWord, AreWords}
use Rattle.iso_text.specs.declared.line_kinds.Keyword.{Keyword}
use Rattle.iso_text.specs.declared.line_kinds.Keyword.TheVariants as word
use Rattle.iso_text.specs.declared.line_kinds.Line.{Line}
use Rattle.iso_text.specs.declared.line_kinds.Line.TheVariants.{Skip, Bad, Head, Hall, Lattice, Op, Irrep, K, Mat, RealVector, Atom, Tolerance, Cell, Listed, Value, Axial, End}
use Rattle.iso_text.proofs.HallGrammar.{hall-sound, hall-complete}
use Rattle.iso_text.proofs.ListsGrammar.{same_text}
use Rattle.iso_text.proofs.SectionsComplete.{head-complete, lattice-complete, op-complete, irrep-complete, k-complete, mat-complete, vector-complete, atom_line-complete, listed-complete, tolerance_line-complete, cell-complete, value-complete, axial-complete, end-complete}
use Rattle.iso_text.proofs.SectionsGrammar.{IsSaid, head-sound, lattice-sound, op-sound, irrep-sound, k-sound, mat-sound, vector-sound, atom_line-sound, listed-sound, tolerance_line-sound, cell-sound, value-sound, axial-sound, end-sound}
use Rattle.iso_text.proofs.SpellingLemmas.{none_some}
use Rattle.iso_text.proofs.Steps.{bind}
use Rattle.iso_text.proofs.WordsGrammar.{words-complete, keyed-sound, keyed-complete}

-- the text of each keyword
abbrev key_of : Keyword → List ℕ
key_of word.Isodist = codes "isodist"
key_of word.Hall = codes "hall"
key_of word.Lattice = codes "lattice"
key_of word.Op = codes "op"
key_of word.Irrep = codes "irrep"
key_of word.K = codes "k"
key_of word.Mat = codes "mat"
key_of word.RealVector = codes "realvector"
key_of word.Atom = codes "atom"
key_of word.Tolerance = codes "tolerance"
key_of word.Cell = codes "cell"
key_of word.Listed = codes "listed"
key_of word.Value = codes "value"
key_of word.Axial = codes "axial"
key_of word.End = codes "end"

key_word : (kw : Keyword) → IsWord (key_of kw)
key_word word.Isodist = record { some = omega arith; whole = refl }
key_word word.Hall = record { some = omega arith; whole = refl }
key_word word.Lattice = record { some = omega arith; whole = refl }
key_word word.Op = record { some = omega arith; whole = refl }
key_word word.Irrep = record { some = omega arith; whole = refl }
key_word word.K = record { some = omega arith; whole = refl }
key_word word.Mat = record { some = omega arith; whole = refl }
key_word word.RealVector = record { some = omega arith; whole = refl }
key_word word.Atom = record { some = omega arith; whole = refl }
key_word word.Tolerance = record { some = omega arith; whole = refl }
key_word word.Cell = record { some = omega arith; whole = refl }
key_word word.Listed = record { some = omega arith; whole = refl }
key_word word.Value = record { some = omega arith; whole = refl }
key_word word.Axial = record { some = omega arith; whole = refl }
key_word word.End = record { some = omega arith; whole = refl }

key_known : (kw : Keyword) → keyword_of (key_of kw) ≡ Some kw
key_known word.Isodist = refl
key_known word.Hall = refl
key_known word.Lattice = refl
key_known word.Op = refl
key_known word.Irrep = refl
key_known word.K = refl
key_known word.Mat = refl
key_known word.RealVector = refl
key_known word.Atom = refl
key_known word.Tolerance = refl
key_known word.Cell = refl
key_known word.Listed = refl
key_known word.Value = refl
key_known word.Axial = refl
key_known word.End = refl

next_by : (w : List ℕ) (k kw : Keyword) (o : Option Keyword) → (o ≡ Some kw → w ≡ key_of kw) → (b : Bool) → bytes_eq w (key_of k) ≡ b → (if b then Some k else o) ≡ Some kw → w ≡ key_of kw
next_by w k kw o more true test e = let same : k ≡ kw = cc in same_text w (key_of k) test ∙ ap key_of same
next_by w k kw o more false test e = more e

-- this keyword, or one of those behind it
next_key : (w : List ℕ) (k kw : Keyword) (o : Option Keyword) → (o ≡ Some kw → w ≡ key_of kw) → (if bytes_eq w (key_of k) then Some k else o) ≡ Some kw → w ≡ key_of kw
next_key w k kw o more e = next_by w k kw o more (bytes_eq w (key_of k)) refl e

keyword-sound : (w : List ℕ) (kw : Keyword) → keyword_of w ≡ Some kw → w ≡ key_of kw
keyword-sound w kw =
    let none = λ (e : None ≡ Some kw). none_some {A = w ≡ key_of kw} e in
    next_key w word.Mat kw _ (next_key w word.Listed kw _ (next_key w word.Value kw _ (next_key w word.Axial kw _ (next_key w word.Atom kw _ (next_key w word.K kw _ (next_key w word.Irrep kw _ (next_key w word.Op kw _ (next_key w word.RealVector kw _ (next_key w word.Isodist kw _ (next_key w word.Hall kw _ (next_key w word.Lattice kw _ (next_key w word.Tolerance kw _ (next_key w word.Cell kw _ (next_key w word.End kw _ none))))))))))))))

-- a line is its keyword and the words behind it
spells : (n : ℕ) (text : List ℕ) (line : Line) (words : List (List ℕ)) → AreWords (keyword line ∷ words) text → Says n words line → SpellsLine n text line
spells n text Skip words are says = absurd says
spells n text Bad words are says = absurd says
spells n text (Head format) words are says = (words, are, says)
spells n text (Hall line symbol) words are says = absurd says
spells n text (Lattice line letter) words are says = (words, are, says)
spells n text (Op o) words are says = (words, are, says)
spells n text (Irrep i) words are says = (words, are, says)
spells n text (K k) words are says = (words, are, says)
spells n text (Mat m) words are says = (words, are, says)
spells n text (RealVector v) words are says = (words, are, says)
spells n text (Atom a) words are says = (words, are, says)
spells n text (Tolerance t) words are says = (words, are, says)
spells n text (Cell c) words are says = (words, are, says)
spells n text (Listed a) words are says = (words, are, says)
spells n text (Value v) words are says = (words, are, says)
spells n text (Axial v) words are says = (words, are, says)
spells n text End words are says = (words, are, says)

-- the words behind the first one of a line
abbrev words_behind : List ℕ → List (List ℕ)
words_behind text = words_of (back is_blank (unindented text))

keyed : (n : ℕ) (text : List ℕ) (line : Line) (kw : Keyword) → front is_blank (unindented text) ≡ key_of kw → IsSaid n (words_behind text) (key_of kw) line → SpellsLine n text line
keyed n text line kw is said =
    spells n text line (words_behind text) (subst (λ k. AreWords (k ∷ words_behind text) text) (sym said.first) (keyed-sound text (key_of kw) (key_word kw) is)) said.says

by-sound : (kw : Keyword) (n : ℕ) (text : List ℕ) (line : Line) → front is_blank (unindented text) ≡ key_of kw → by_keyword n (back is_blank (unindented text)) kw ≡ Some line → SpellsLine n text line
by-sound word.Isodist n text line is e = keyed n text line word.Isodist is (head-sound n (words_behind text) line e)
by-sound word.Hall n text line is e =
    let hall = hall-sound n text line is e in subst (λ x. SpellsLine n text x) hall.is (refl, hall.spelled)
by-sound word.Lattice n text line is e = keyed n text line word.Lattice is (lattice-sound n (words_behind text) line e)
by-sound word.Op n text line is e = keyed n text line word.Op is (op-sound n (words_behind text) line e)
by-sound word.Irrep n text line is e = keyed n text line word.Irrep is (irrep-sound n (words_behind text) line e)
by-sound word.K n text line is e = keyed n text line word.K is (k-sound n (words_behind text) line e)
by-sound word.Mat n text line is e = keyed n text line word.Mat is (mat-sound n (words_behind text) line e)
by-sound word.RealVector n text line is e = keyed n text line word.RealVector is (vector-sound n (words_behind text) line e)
by-sound word.Atom n text line is e = keyed n text line word.Atom is (atom_line-sound n (words_behind text) line e)
by-sound word.Tolerance n text line is e = keyed n text line word.Tolerance is (tolerance_line-sound n (words_behind text) line e)
by-sound word.Cell n text line is e = keyed n text line word.Cell is (cell-sound n (words_behind text) line e)
by-sound word.Listed n text line is e = keyed n text line word.Listed is (listed-sound n (words_behind text) line e)
by-sound word.Value n text line is e = keyed n text line word.Value is (value-sound n (words_behind text) line e)
by-sound word.Axial n text line is e = keyed n text line word.Axial is (axial-sound n (words_behind text) line e)
by-sound word.End n text line is e = keyed n text line word.End is (end-sound n (words_behind text) line e)

pub said-sound : (n : ℕ) (text : List ℕ) (line : Line) → said_by n (unindented text) ≡ Some line → SpellsLine n text line
said-sound n text line e =
    let kw = bind (keyword_of (front is_blank (unindented text))) (by_keyword n (back is_blank (unindented text))) line e in
    by-sound kw.0 n text line (keyword-sound (front is_blank (unindented text)) kw.0 kw.1) kw.2

by_front : (n : ℕ) (text : List ℕ) (kw : Keyword) → front is_blank (unindented text) ≡ key_of kw → said_by n (unindented text) ≡ by_keyword n (back is_blank (unindented text)) kw
by_front n text kw is =
    ap (λ w. option_and_then (by_keyword n (back is_blank (unindented text))) (keyword_of w)) is
    ∙ ap (λ o. option_and_then (by_keyword n (back is_blank (unindented text))) o) (key_known kw)

by_words : (n : ℕ) (text : List ℕ) (line : Line) (kw : Keyword) (words : List (List ℕ)) → AreWords (key_of kw ∷ words) text → ((rest : List ℕ) → words_of rest ≡ words → by_keyword n rest kw ≡ Some line) → said_by n (unindented text) ≡ Some line
by_words n text line kw words are read =
    let at = keyed-complete text (key_of kw) words are in
    by_front n text kw at.front ∙ ap (λ r. by_keyword n r kw) at.back ∙ read are.1 (words-complete words are.1 are.6)

pub said-complete : (n : ℕ) (text : List ℕ) (line : Line) → SpellsLine n text line → said_by n (unindented text) ≡ Some line
said-complete n text Skip s = absurd s.2
said-complete n text Bad s = absurd s.2
said-complete n text (Head format) s = by_words n text (Head format) word.Isodist s.0 s.1 (λ rest is. ap head_of is ∙ head-complete n s.0 format s.2)
said-complete n text (Hall line symbol) s =
    let hall = hall-complete n text symbol s.1 in by_front n text word.Hall hall.front ∙ hall.read ∙ ap (λ m. Some (Hall m symbol)) (sym s.0)
said-complete n text (Lattice line letter) s = by_words n text (Lattice line letter) word.Lattice s.0 s.1 (λ rest is. ap (lattice_of n) is ∙ lattice-complete n s.0 line letter s.2)
said-complete n text (Op o) s = by_words n text (Op o) word.Op s.0 s.1 (λ rest is. ap (op_of n) is ∙ op-complete n s.0 o s.2)
said-complete n text (Irrep i) s = by_words n text (Irrep i) word.Irrep s.0 s.1 (λ rest is. ap (irrep_of n) is ∙ irrep-complete n s.0 i s.2)
said-complete n text (K k) s = by_words n text (K k) word.K s.0 s.1 (λ rest is. ap k_of is ∙ k-complete n s.0 k s.2)
said-complete n text (Mat m) s = by_words n text (Mat m) word.Mat s.0 s.1 (λ rest is. ap (mat_of n) is ∙ mat-complete n s.0 m s.2)
said-complete n text (RealVector v) s = by_words n text (RealVector v) word.RealVector s.0 s.1 (λ rest is. ap (vector_of n) is ∙ vector-complete n s.0 v s.2)
said-complete n text (Atom a) s = by_words n text (Atom a) word.Atom s.0 s.1 (λ rest is. ap (λ w. option_map (λ b. Atom b) (atom_of n w)) is ∙ atom_line-complete n s.0 a s.2)
said-complete n text (Tolerance t) s = by_words n text (Tolerance t) word.Tolerance s.0 s.1 (λ rest is. ap tolerance_line_of is ∙ tolerance_line-complete n s.0 t s.2)
said-complete n text (Cell c) s = by_words n text (Cell c) word.Cell s.0 s.1 (λ rest is. ap (cell_of n) is ∙ cell-complete n s.0 c s.2)
said-complete n text (Listed a) s = by_words n text (Listed a) word.Listed s.0 s.1 (λ rest is. ap (λ w. option_map (λ b. Listed b) (atom_of n w)) is ∙ listed-complete n s.0 a s.2)
said-complete n text (Value v) s = by_words n text (Value v) word.Value s.0 s.1 (λ rest is. ap (value_of n) is ∙ value-complete n s.0 v s.2)
said-complete n text (Axial v) s = by_words n text (Axial v) word.Axial s.0 s.1 (λ rest is. ap (axial_of n) is ∙ axial-complete n s.0 v s.2)
said-complete n text End s = by_words n text End word.End s.0 s.1 (λ rest is. ap end_of is ∙ end-complete n s.0 s.2)
