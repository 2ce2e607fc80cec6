-- What a reader of lines answers. The definition of a file doesn't speak of it: it speaks of `SaysLine`.
--
-- kind_of n line: what line n says: a kind with its values, Skip, or Bad where it is none
use Rattle.std.specs.Prelude.{ℕ, ◌-◌, List, [], ◌∷◌, if◌then◌else◌, Option, Some, None, option_and_then, codes}
use Rattle.std.specs.Option.{option_map}
use Rattle.std.specs.Str.{bytes_eq}
use Rattle.iso_text.specs.Cuts.{front, back, words_of, is_blank}
use Rattle.iso_text.specs.Lines.{is_skipped, is_text, unindented, trimmed}
use Rattle.iso_text.specs.Fractions.{k_fraction_of, place_of, tolerance_of}
use Rattle.iso_text.specs.Operations.{operation_of}
use Rattle.iso_text.specs.declared.sections.AtomText.{AtomText}
use Rattle.iso_text.specs.declared.line_kinds.Line.{Line}
use Rattle.iso_text.specs.declared.line_kinds.Line.TheVariants.{Skip, Bad, Head, Hall, Lattice, Op, Irrep, K, Mat, RealVector, Atom, Tolerance, Cell, Listed, Value, Axial, End}
use Rattle.iso_text.specs.declared.line_kinds.Keyword.{Keyword}
use Rattle.iso_text.specs.declared.line_kinds.Keyword.TheVariants as word
use Rattle.iso_text.specs.LineWords.{keyword_of, is_none_left, one, two, three_of, site_of, letter_of, name_of, size_of, few_numbers_of}

-- the format's number
abbrev pub head_of : List (List ℕ) → Option Line
head_of words = option_and_then (λ w. if bytes_eq w (codes "1") then Some (Head 1) else (if bytes_eq w (codes "2") then Some (Head 2) else None)) (one words)

-- the text of a Hall symbol, which isn't empty
abbrev pub hall_of : ℕ → List ℕ → Option Line
hall_of n [] = None
hall_of n (c ∷ cs) = Some (Hall n (c ∷ cs))

abbrev pub lattice_of : ℕ → List (List ℕ) → Option Line
lattice_of n words = option_map (λ c. Lattice n c) (option_and_then letter_of (one words))

abbrev pub op_of : ℕ → List (List ℕ) → Option Line
op_of n words = option_map (λ op. Op (record { line = n; op = op })) (option_and_then operation_of (one words))

abbrev pub irrep_of : ℕ → List (List ℕ) → Option Line
irrep_of n words = option_and_then (λ w. option_and_then (λ name. option_map (λ size. Irrep (record { line = n; name = name; size = size })) (size_of w.1)) (name_of w.0)) (two words)

abbrev pub k_of : List (List ℕ) → Option Line
k_of words = option_and_then (λ r. if is_none_left r.1 then Some (K r.0) else None) (three_of k_fraction_of words)

-- an operation, and numbers
abbrev pub mat_of : ℕ → List (List ℕ) → Option Line
mat_of n [] = None
mat_of n (w ∷ ws) = option_and_then (λ op. option_map (λ ns. Mat (record { line = n; op = op; entries = ns })) (few_numbers_of 36 ws)) (operation_of w)

-- one number at least
abbrev pub vector_of : ℕ → List (List ℕ) → Option Line
vector_of n [] = None
vector_of n (w ∷ ws) = option_map (λ ns. RealVector (record { line = n; numbers = ns })) (few_numbers_of 24 (w ∷ ws))

-- a label, and three coordinates
abbrev pub atom_of : ℕ → List (List ℕ) → Option AtomText
atom_of n words = option_and_then (λ s. option_and_then (λ label. let a : AtomText = record { line = n; label = label; place = s.1 } in if is_none_left s.2 then Some a else None) (name_of s.0)) (site_of words)

abbrev pub tolerance_line_of : List (List ℕ) → Option Line
tolerance_line_of words = option_map (λ t. Tolerance t) (option_and_then tolerance_of (one words))

-- three rows of fractions, and an origin
abbrev pub cell_of : ℕ → List (List ℕ) → Option Line
cell_of n words =
    option_and_then (λ a. option_and_then (λ b. option_and_then (λ c. option_and_then (λ o.
    if is_none_left o.1 then Some (Cell (record { line = n; rows = a.0 ∷ b.0 ∷ c.0 ∷ []; origin = o.0 })) else None)
    (three_of place_of c.1)) (three_of k_fraction_of b.1)) (three_of k_fraction_of a.1)) (three_of k_fraction_of words)

-- a label, three coordinates, and an amount
abbrev pub value_of : ℕ → List (List ℕ) → Option Line
value_of n words = option_and_then (λ s. option_and_then (λ label. option_map (λ v. Value (record { line = n; label = label; place = s.1; value = v })) (option_and_then place_of (one s.2))) (name_of s.0)) (site_of words)

-- a label, three coordinates, and three components
abbrev pub axial_of : ℕ → List (List ℕ) → Option Line
axial_of n words =
    option_and_then (λ s. option_and_then (λ label. option_and_then (λ v. if is_none_left v.1 then Some (Axial (record { line = n; label = label; place = s.1; value = v.0 })) else None)
    (three_of place_of s.2)) (name_of s.0)) (site_of words)

abbrev pub end_of : List (List ℕ) → Option Line
end_of words = if is_none_left words then Some End else None

-- a line by its first word, and the text behind that word
abbrev pub by_keyword : ℕ → List ℕ → Keyword → Option Line
by_keyword n rest word.Isodist = head_of (words_of rest)
by_keyword n rest word.Hall = hall_of n (trimmed rest)
by_keyword n rest word.Lattice = lattice_of n (words_of rest)
by_keyword n rest word.Op = op_of n (words_of rest)
by_keyword n rest word.Irrep = irrep_of n (words_of rest)
by_keyword n rest word.K = k_of (words_of rest)
by_keyword n rest word.Mat = mat_of n (words_of rest)
by_keyword n rest word.RealVector = vector_of n (words_of rest)
by_keyword n rest word.Atom = option_map (λ a. Atom a) (atom_of n (words_of rest))
by_keyword n rest word.Tolerance = tolerance_line_of (words_of rest)
by_keyword n rest word.Cell = cell_of n (words_of rest)
by_keyword n rest word.Listed = option_map (λ a. Listed a) (atom_of n (words_of rest))
by_keyword n rest word.Value = value_of n (words_of rest)
by_keyword n rest word.Axial = axial_of n (words_of rest)
by_keyword n rest word.End = end_of (words_of rest)

abbrev pub or_bad : Option Line → Line
or_bad (Some line) = line
or_bad None = Bad

-- a line that begins with no blank
abbrev pub said_by : ℕ → List ℕ → Option Line
said_by n text = option_and_then (by_keyword n (back is_blank text)) (keyword_of (front is_blank text))

-- what line n says
abbrev pub kind_of : ℕ → List ℕ → Line
kind_of n line = if is_skipped line then Skip else (if is_text line then or_bad (said_by n (unindented line)) else Bad)
