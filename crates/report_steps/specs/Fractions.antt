-- The texts of fractions.
--
-- minus_text x: a minus sign where x is negative
-- frac_text f: a fraction, as 1/3, -1/2, 0
-- edges_text t: t twelfths in lowest terms
-- row_text k: the three fractions of a wave vector, a row in twelfths
use Rattle.std.specs.Prelude.{ℕ, ◌/◌, ℤ, pos, negsuc, List, [], ◌++◌, codes, unsigned_abs}
use Rattle.iso_text.specs.declared.numbers.Frac.{Frac}
use Rattle.space_ops.specs.Matrix.{Vector}
use Rattle.space_ops.specs.OpText.{common_with_twelve, fraction_text}

-- a minus sign, or nothing
abbrev pub minus_text : ℤ → List ℕ
minus_text (pos n) = []
minus_text (negsuc n) = codes "-"

-- `p` or `p/q`, with its sign
abbrev pub frac_text : Frac → List ℕ
frac_text f = minus_text f.num ++ fraction_text (unsigned_abs f.num) f.den

-- t twelfths in lowest terms
abbrev pub edges_text : ℤ → List ℕ
edges_text t = let n = unsigned_abs t in minus_text t ++ fraction_text (n / common_with_twelve n) (12 / common_with_twelve n)

-- three fractions
abbrev pub row_text : Vector ℤ → List ℕ
row_text k = edges_text k.x ++ codes " " ++ edges_text k.y ++ codes " " ++ edges_text k.z
