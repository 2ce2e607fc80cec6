-- The lines of a file's bytes.
--
-- lines_of bytes: the lines, each without its line feed and without one carriage return before it
-- is_skipped line: a comment, or nothing but blanks
-- is_text line: no byte but the printable ones of ASCII and the tab
-- unindented text, trimmed text: without the blanks in front, or at both ends
-- line text rest: a line of a report with its line feed, and what follows it
use Rattle.std.specs.Prelude.{ℕ, Bool, List, [], ◌∷◌, ◌++◌, map, nat_le, ◌==◌, ◌&&◌, ◌||◌, if◌then◌else◌}
use Rattle.std.specs.List.{list_all}
use Rattle.iso_text.specs.Cuts.{onto_first, is_blank, begins, is_byte}

-- the bytes between line feeds; bytes behind the last one are a line
abbrev pub raw_lines : List ℕ → List (List ℕ)
raw_lines [] = []
raw_lines (c ∷ cs) = if c == 10 then [] ∷ raw_lines cs else onto_first c (raw_lines cs)

-- without a carriage return at the end, where one stands there; 13 is the carriage return
abbrev pub without_return : List ℕ → List ℕ
without_return [] = []
without_return (c ∷ []) = if c == 13 then [] else c ∷ []
without_return (c ∷ d ∷ cs) = c ∷ without_return (d ∷ cs)

abbrev pub lines_of : List ℕ → List (List ℕ)
lines_of bytes = map without_return (raw_lines bytes)

-- nothing but blanks, or a comment: its first byte is `#`
abbrev pub is_skipped : List ℕ → Bool
is_skipped line = begins (is_byte 35) line || list_all is_blank line

-- from the space to `~`, or a tab
abbrev pub is_text_byte : ℕ → Bool
is_text_byte c = nat_le 32 c && nat_le c 126 || c == 9

abbrev pub is_text : List ℕ → Bool
is_text line = list_all is_text_byte line

-- without the blanks in front
abbrev pub unindented : List ℕ → List ℕ
unindented [] = []
unindented (c ∷ cs) = if is_blank c then unindented cs else c ∷ cs

-- without the blanks at the end
abbrev pub without_trail : List ℕ → List ℕ
without_trail [] = []
without_trail (c ∷ cs) = if list_all is_blank (c ∷ cs) then [] else c ∷ without_trail cs

abbrev pub trimmed : List ℕ → List ℕ
trimmed text = without_trail (unindented text)

-- a line of a report with its line feed, and what follows it
abbrev pub line : List ℕ → List ℕ → List ℕ
line text rest = text ++ 10 ∷ rest
