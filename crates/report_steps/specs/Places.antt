-- The texts of places.
--
-- ratio_text n d: the text of n / d
-- edge_text x, place_text place: a coordinate, and a place, as fractions of the cell edges in lowest terms
use Rattle.std.specs.Prelude.{ℕ, ℤ, pos, List, ◌++◌, codes}
use Rattle.cyclo24.specs.ExactK24.{k24_laws}
use Rattle.cyclo24.specs.Numerals.{of_whole}
use Rattle.cyclo24.specs.TextK24.{text24}
use Rattle.space_ops.specs.Op.{number_at}

-- n / d
unfoldable pub ratio_text : ℤ → ℤ → List ℕ
ratio_text n d = text24 (k24_laws.times (of_whole k24_laws n) (k24_laws.inverse (of_whole k24_laws d)))

-- so many twelve millionths of a cell edge
abbrev pub edge_text : ℤ → List ℕ
edge_text x = ratio_text x (pos 12000000)

abbrev pub place_text : List ℤ → List ℕ
place_text place = edge_text (number_at place 0) ++ codes " " ++ edge_text (number_at place 1) ++ codes " " ++ edge_text (number_at place 2)
