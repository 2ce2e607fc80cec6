-- The pieces of the reports of `couple` and `link`, one behind the other.
use Rattle.std.proofs.Common.{◌≡◌, sym, ap, ◌∙◌, ℕ, zero, suc, ◌+◌, ◌-◌, ◌<◌, List, [], ◌++◌, map, length, flat_map, Some, slice_get, arith}
use Rattle.std.specs.Prelude.{codes, decimal}
use Rattle.std.specs.List.{concat, range_with_len}
use Rattle.std.proofs.lemmas.List.{append-nil}
use Rattle.std.proofs.lemmas.List.FromFn.{length-map-range_with_len}
use Rattle.cyclo24.specs.ExactK24.{k24_laws}
use Rattle.cyclo24.specs.K24.{exact24}
use Rattle.cyclo24.specs.declared.z24.Z24.{Z24}
use Rattle.class_list.specs.Pages.{page}
use Rattle.class_list.specs.Seen.{directions_of}
use Rattle.super_group.specs.Quotient.{order_of}
use Rattle.lin_alg.specs.Matrix.{MatrixView}
use Rattle.couple.specs.declared.links.Link.{Link}
use Rattle.couple.specs.declared.links.Link.TheVariants.{Nothing, Found}
use Rattle.list_report.specs.ListReport.{direction_text}
use Rattle.report_buffer.specs.PieceLaws.{made-joined, made-piece, made-count, behind-first}
use Rattle.couple_report.specs.CouplePieces.{head_piece, couple_pieces}
use Rattle.couple_report.specs.FoundCouple.{couple_of}
use Rattle.couple_report.specs.FoundLink.{row_in, rows_in, link_in, link_of}
use Rattle.couple_report.specs.LinkPieces.{matrix_pieces, line_pieces, link_pieces}
use Rattle.couple_report.specs.LinkReport.{row_line, rank_line, link_lines, link_head}
use Rattle.couple_report.specs.declared.link.FoundLink.{FoundLink}
use Rattle.couple_report.specs.declared.together.FoundCouple.{FoundCouple}
use Rattle.couple_report.proofs.TextLemmas.{two-behind, three-behind}

pub couple-joined : (c : FoundCouple) → concat (couple_pieces c) ≡ couple_of c
couple-joined c =
    let ds = directions_of k24_laws exact24 c.listing in
    let f = direction_text c.quotient (c.dim + c.other_dim) in
    ap (λ t. head_piece c ++ t) (made-joined f (page c.after c.count ds))
    ∙ three-behind (codes "isodist " ++ decimal c.format ++ codes " couple")
    (codes "irreps " ++ c.name ++ codes " " ++ c.other ++ codes " dims " ++ decimal c.dim ++ codes " " ++ decimal c.other_dim ++ codes " order " ++ decimal (order_of c.quotient)) (codes "total " ++ decimal (length ds))
    (flat_map f (page c.after c.count ds))

-- how many rows a matrix has
rows-count : (m : MatrixView Z24) → length (rows_in m) ≡ m.rows
rows-count m = length-map-range_with_len (λ i. row_in m i m.cols) 0 m.rows

lines-joined : (x : Link) → concat (line_pieces x) ≡ link_lines (link_in x)
lines-joined Nothing = append-nil (link_lines (link_in Nothing))
lines-joined (Found m rank) =
    ap (λ t. rank_line rank m.rows m.cols ++ t) (made-joined row_line (rows_in m))
    ∙ ap (λ n. rank_line rank n m.cols ++ flat_map row_line (rows_in m)) (sym (rows-count m))

pub link-joined : (l : FoundLink) → concat (link_pieces l) ≡ link_of l
link-joined l =
    ap (λ t. link_head l.format l.name l.other l.order [] ++ t) (lines-joined l.link)
    ∙ two-behind (codes "isodist " ++ decimal l.format ++ codes " link") (codes "irreps " ++ l.name ++ codes " " ++ l.other ++ codes " order " ++ decimal l.order) (link_lines (link_in l.link))

-- number i of numbers one after the other
range-at : (a n i : ℕ) → i < n → slice_get (range_with_len a n) i ≡ Some (a + i)
range-at a zero i l = absurd (omega arith)
range-at a (suc n) zero l = let z : a ≡ a + 0 = omega arith in ap (λ k. Some k) z
range-at a (suc n) (suc i) l = let s : a + 1 + i ≡ a + suc i = omega arith in range-at (a + 1) n i (omega arith) ∙ ap (λ k. Some k) s

-- row i - 1 of a matrix
pub row-piece : (m : MatrixView Z24) (rank i : ℕ) (text : List ℕ) → 0 < i → i - 1 < m.rows → text ≡ row_line (row_in m (i - 1) m.cols) → slice_get (matrix_pieces m rank) i ≡ Some text
row-piece m rank i text p l e =
    let z : 0 + (i - 1) ≡ i - 1 = omega arith in
    let here = range-at 0 m.rows (i - 1) l ∙ ap (λ k. Some k) z in
    behind-first (rank_line rank m.rows m.cols) (map row_line (rows_in m)) i text p
    (made-piece row_line (rows_in m) (i - 1) (row_in m (i - 1) m.cols) (made-piece (λ k. row_in m k m.cols) (range_with_len 0 m.rows) (i - 1) (i - 1) here) ∙ ap (λ t. Some t) (sym e))

-- how many lines a matrix has
pub lines-count : (m : MatrixView Z24) (rank : ℕ) → length (matrix_pieces m rank) ≡ suc m.rows
lines-count m rank = ap suc (made-count row_line (rows_in m) ∙ rows-count m)
