-- The bytes that a mark picks.
use Rattle.std.specs.Prelude.{ℕ, Bool}
use Rattle.iso_text.specs.Cuts.{is_blank, is_sign, is_byte}
use Rattle.iso_text.specs.declared.cuts.Mark.{Mark}
use Rattle.iso_text.specs.declared.cuts.Mark.TheVariants.{Blank, Sign, Byte}

-- whether the byte is such a mark
abbrev pub picks : Mark → ℕ → Bool
picks Blank = is_blank
picks Sign = is_sign
picks (Byte b) = is_byte b
