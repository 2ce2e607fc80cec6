-- The words that name an irrep or label an atom.
--
-- is_name text: 1 to 16 bytes, a letter, then letters, digits, `_`, `+`, `-` or `.`
use Rattle.std.specs.Prelude.{ℕ, Bool, false, List, [], ◌∷◌, length, nat_le, ◌==◌, ◌&&◌, ◌||◌}
use Rattle.std.specs.List.{list_all}
use Rattle.std.specs.Char.{is_ascii_alphabetic, is_ascii_alphanumeric}

-- a letter, a digit, `_`, `+`, `-` or `.`
abbrev pub is_name_byte : ℕ → Bool
is_name_byte c = is_ascii_alphanumeric c || (c == 95 || (c == 43 || (c == 45 || c == 46)))

-- the first byte is a letter
abbrev pub begins_with_letter : List ℕ → Bool
begins_with_letter [] = false
begins_with_letter (c ∷ cs) = is_ascii_alphabetic c

-- a letter first, bytes of a name throughout, and at most 16 of them
abbrev pub is_name : List ℕ → Bool
is_name text = begins_with_letter text && (nat_le (length text) 16 && list_all is_name_byte text)
