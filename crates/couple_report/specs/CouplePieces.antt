-- The pieces of the report of `couple`.
--
-- head_piece c: the first three lines
-- direction_pieces c: the lines of each direction of the page
-- couple_pieces c: the first lines, and each direction of the page
use Rattle.std.specs.Prelude.{ℕ, ◌+◌, List, [], ◌∷◌, length}
use Rattle.cyclo24.specs.K24.{exact24}
use Rattle.cyclo24.specs.ExactK24.{k24_laws}
use Rattle.class_list.specs.Seen.{directions_of}
use Rattle.super_group.specs.Quotient.{order_of}
use Rattle.list_report.specs.PagePieces.{page_pieces}
use Rattle.couple_report.specs.CoupleReport.{couple_head}
use Rattle.couple_report.specs.declared.together.FoundCouple.{FoundCouple}

-- the first three lines
abbrev pub head_piece : FoundCouple → List ℕ
head_piece c = couple_head c.format c.name c.other c.dim c.other_dim (order_of c.quotient) (length (directions_of k24_laws exact24 c.listing)) []

-- the lines of each direction of the page
abbrev pub direction_pieces : FoundCouple → List (List ℕ)
direction_pieces c = page_pieces c.quotient (c.dim + c.other_dim) c.after c.count (directions_of k24_laws exact24 c.listing)

-- the first lines, and each direction of the page
abbrev pub couple_pieces : FoundCouple → List (List ℕ)
couple_pieces c = head_piece c ∷ direction_pieces c
