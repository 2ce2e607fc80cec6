-- What the definition of a file settles, for any lines.
--
-- FilesAreUnique: lines are at most one file
-- CausesAreUnique: lines have at most one cause of bad text
-- FilesHaveNoCause: lines with a cause of bad text are no file
use Rattle.std.specs.Prelude.{◌≡◌, ℕ, List}
use Rattle.iso_text.specs.File.{IsFile, HasCause}
use Rattle.iso_text.specs.FileValue.{File}
use Rattle.iso_text.specs.declared.read_error.ReadError.TheVariants.{BadText}

abbrev pub FilesAreUnique : Type 0
FilesAreUnique = (lines : List (List ℕ)) (f g : File) → IsFile lines f → IsFile lines g → f ≡ g

abbrev pub CausesAreUnique : Type 0
CausesAreUnique = (lines : List (List ℕ)) (a b : ℕ) → HasCause lines (BadText a) → HasCause lines (BadText b) → a ≡ b

abbrev pub FilesHaveNoCause : Type 0
FilesHaveNoCause = (lines : List (List ℕ)) (f : File) (a : ℕ) → IsFile lines f → HasCause lines (BadText a) → ⊥
