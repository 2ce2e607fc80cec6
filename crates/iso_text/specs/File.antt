-- Which lists of lines are a file, what the file says, and which line is the first that can't go on
-- as one.
--
-- IsSound f: the format, the counts and the names that a file has
-- IsFile lines f, IsStart lines: the lines are the file f; can go on as a file
-- HasCause lines e: the number in BadText is that of the first line that can't go on as a file
use Rattle.std.specs.Prelude.{◌≡◌, ◌⊎◌, ℕ, ◌+◌, ◌*◌, ◌==◌, ◌&&◌, nat_le, List, [], ◌∷◌, ◌++◌, length, take, Bool, true, not, Option, Some, None, is_none}
use Rattle.std.specs.List.{list_all}
use Rattle.std.specs.Str.{bytes_eq}
use Rattle.iso_text.specs.FileLines.{Section, sections, file_lines}
use Rattle.iso_text.specs.FileValue.{File}
use Rattle.iso_text.specs.LineSpellings.{SayLines}
use Rattle.iso_text.specs.declared.read_error.ReadError.{ReadError}
use Rattle.iso_text.specs.declared.read_error.ReadError.TheVariants.{BadText, NoMemory}
use Rattle.iso_text.specs.declared.line_kinds.Line.{Line}
use Rattle.iso_text.specs.declared.sections.IrrepText.{IrrepText}
use Rattle.iso_text.specs.declared.sections.MatText.{MatText}
use Rattle.iso_text.specs.declared.sections.OpsText.{OpsText}

-- no line of format 2 alone
abbrev pub is_first_format : File → Bool
is_first_format f = is_none f.generators && list_all (λ i. is_none i.vector) f.irreps && is_none f.cell && length f.values == 0 && length f.axials == 0

-- a Hall symbol, or 1 to 5 operations and no symbol
abbrev pub is_parent : List ℕ → Option OpsText → Bool
is_parent hall None = true
is_parent hall (Some g) = length hall == 0 && nat_le 1 (length g.ops) && nat_le (length g.ops) 5

abbrev pub is_few : Section → Bool
is_few s = nat_le (length s.items) s.most

-- a square matrix of that size
abbrev pub has_entries : ℕ → MatText → Bool
has_entries size m = length m.entries == size * size

-- 1 to 96 `mat` lines, each with as many numbers as its matrix has entries
abbrev pub is_block : IrrepText → Bool
is_block i = nat_le 1 (length i.mats) && nat_le (length i.mats) 96 && list_all (has_entries i.size) i.mats

-- no irrep has that name
abbrev pub is_new : List ℕ → List IrrepText → Bool
is_new name irreps = list_all (λ i. not (bytes_eq i.name name)) irreps

-- each name differs from those before it
abbrev pub have_new_names : List IrrepText → List IrrepText → Bool
have_new_names before [] = true
have_new_names before (i ∷ irreps) = is_new i.name before && have_new_names (before ++ i ∷ []) irreps

-- the format, counts and names that a file has; a cell and listed atoms ask for a tolerance
pub record IsSound (f : File) : Type 0 where
  pub format : ((f.format ≡ 1) × (is_first_format f ≡ true)) ⊎ (f.format ≡ 2)
  pub parent : is_parent f.hall f.generators ≡ true
  pub few : list_all is_few (sections f) ≡ true
  pub blocks : list_all is_block f.irreps ≡ true
  pub names : have_new_names [] f.irreps ≡ true
  pub matched : f.tolerance ≡ None → (f.cell ≡ None) × (f.listed ≡ [])

-- the lines are the file f
pub record IsFile (lines : List (List ℕ)) (f : File) : Type 0 where
  pub said : SayLines 1 lines (file_lines f)
  pub sound : IsSound f

-- what these lines say can go on as a file
pub record IsStart (lines : List (List ℕ)) : Type 0 where
  pub said : List Line
  pub says : SayLines 1 lines said
  pub more : List Line
  pub file : File
  pub whole : said ++ more ≡ file_lines file
  pub sound : IsSound file

-- The first n lines are a start, and either the first n + 1 are not, or there are n lines and they aren't a file.
abbrev pub IsBadAfter : ℕ → List (List ℕ) → Type 0
IsBadAfter n lines = IsStart (take n lines)
    × ((IsStart (take (n + 1) lines) → ⊥) ⊎ ((length lines ≡ n) × ((f : File) → IsFile lines f → ⊥)))

abbrev pub HasCause : List (List ℕ) → ReadError → Type 0
HasCause lines (BadText number) = (n : ℕ) × (number ≡ n + 1) × IsBadAfter n lines
HasCause lines NoMemory = Unit {0}
