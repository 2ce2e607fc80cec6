-- The pieces of the report of `link`.
--
-- matrix_pieces m rank: the line of the rank, and each row
-- line_pieces x: these, or `link none`
-- link_pieces l: the first lines, and those of the link
use Rattle.std.specs.Prelude.{ℕ, List, [], ◌∷◌, map, codes}
use Rattle.cyclo24.specs.declared.z24.Z24.{Z24}
use Rattle.iso_text.specs.Lines.{line}
use Rattle.lin_alg.specs.Matrix.{MatrixView}
use Rattle.couple.specs.declared.links.Link.{Link}
use Rattle.couple.specs.declared.links.Link.TheVariants.{Nothing, Found}
use Rattle.couple_report.specs.LinkReport.{row_line, rank_line, link_head}
use Rattle.couple_report.specs.FoundLink.{rows_in}
use Rattle.couple_report.specs.declared.link.FoundLink.{FoundLink}

-- the line of the rank, and each row
abbrev pub matrix_pieces : MatrixView Z24 → ℕ → List (List ℕ)
matrix_pieces m rank = rank_line rank m.rows m.cols ∷ map row_line (rows_in m)

-- these, or `link none`
abbrev pub line_pieces : Link → List (List ℕ)
line_pieces Nothing = line (codes "link none") [] ∷ []
line_pieces (Found m rank) = matrix_pieces m rank

-- the first lines, and those of the link
abbrev pub link_pieces : FoundLink → List (List ℕ)
link_pieces l = link_head l.format l.name l.other l.order [] ∷ line_pieces l.link
