-- The words of a line, and what they stand for.
--
-- keyword_of text: the first word of a line
-- one, two, three_of, site_of: so many words, and those behind them
-- name_of, letter_of, size_of, numbers_of: what words say
use Rattle.std.specs.Prelude.{ℕ, ℤ, ◌-◌, Bool, true, false, List, [], ◌∷◌, length, nat_le, ◌&&◌, if◌then◌else◌, Option, Some, None, option_and_then, codes}
use Rattle.std.specs.Option.{option_map}
use Rattle.std.specs.Str.{bytes_eq}
use Rattle.iso_text.specs.Name.{is_name}
use Rattle.iso_text.specs.Fractions.{place_of}
use Rattle.iso_text.specs.Numbers.{number_of}
use Rattle.iso_text.specs.SectionSpellings.{is_letter}
use Rattle.iso_text.specs.declared.numbers.Term.{Term}
use Rattle.iso_text.specs.declared.line_kinds.Line.TheVariants.{Hall, Lattice, Op, Irrep, K, Mat, RealVector, Atom, Tolerance, Cell, Listed, Value, Axial, End}
use Rattle.iso_text.specs.declared.line_kinds.Keyword.{Keyword}
use Rattle.iso_text.specs.declared.line_kinds.Keyword.TheVariants as word

-- the first word of a line
abbrev pub keyword_of : List ℕ → Option Keyword
keyword_of text =
    if bytes_eq text (codes "mat") then Some word.Mat else (
    if bytes_eq text (codes "listed") then Some word.Listed else (
    if bytes_eq text (codes "value") then Some word.Value else (
    if bytes_eq text (codes "axial") then Some word.Axial else (
    if bytes_eq text (codes "atom") then Some word.Atom else (
    if bytes_eq text (codes "k") then Some word.K else (
    if bytes_eq text (codes "irrep") then Some word.Irrep else (
    if bytes_eq text (codes "op") then Some word.Op else (
    if bytes_eq text (codes "realvector") then Some word.RealVector else (
    if bytes_eq text (codes "isodist") then Some word.Isodist else (
    if bytes_eq text (codes "hall") then Some word.Hall else (
    if bytes_eq text (codes "lattice") then Some word.Lattice else (
    if bytes_eq text (codes "tolerance") then Some word.Tolerance else (
    if bytes_eq text (codes "cell") then Some word.Cell else (
    if bytes_eq text (codes "end") then Some word.End else None))))))))))))))

abbrev pub is_none_left : List (List ℕ) → Bool
is_none_left [] = true
is_none_left (w ∷ words) = false

-- exactly one or two words
abbrev pub one : List (List ℕ) → Option (List ℕ)
one (a ∷ []) = Some a
one _ = None

abbrev pub two : List (List ℕ) → Option (List ℕ × List ℕ)
two [] = None
two (a ∷ words) = option_map (λ b. (a, b)) (one words)

-- the values of three words, and the words behind them
abbrev pub three_of : {V : Type 0} → (List ℕ → Option V) → List (List ℕ) → Option (List V × List (List ℕ))
three_of f (a ∷ b ∷ c ∷ words) = option_and_then (λ x. option_and_then (λ y. option_map (λ z. (x ∷ y ∷ z ∷ [], words)) (f c)) (f b)) (f a)
three_of f _ = None

-- a word, three coordinates, and the words behind them
abbrev pub site_of : List (List ℕ) → Option (List ℕ × List ℤ × List (List ℕ))
site_of [] = None
site_of (label ∷ words) = option_map (λ r. (label, r.0, r.1)) (three_of place_of words)

-- the letter of a lattice
abbrev pub letter_of : List ℕ → Option ℕ
letter_of (c ∷ []) = if is_letter c then Some c else None
letter_of _ = None

abbrev pub name_of : List ℕ → Option (List ℕ)
name_of text = if is_name text then Some text else None

-- one digit from 1 to 6
abbrev pub size_of : List ℕ → Option ℕ
size_of (c ∷ []) = if nat_le 49 c && nat_le c 54 then Some (c - 48) else None
size_of _ = None

-- each word is a number
abbrev pub numbers_of : List (List ℕ) → Option (List (List Term))
numbers_of [] = Some []
numbers_of (w ∷ ws) = option_and_then (λ n. option_map (λ ns. n ∷ ns) (numbers_of ws)) (number_of w)

-- at most so many words, each a number
abbrev pub few_numbers_of : ℕ → List (List ℕ) → Option (List (List Term))
few_numbers_of most words = if nat_le (length words) most then numbers_of words else None
