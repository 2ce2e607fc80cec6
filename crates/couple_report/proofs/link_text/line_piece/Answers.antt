use Rattle.std.proofs.Common.{◌<◌, subst, ap, ◌∙◌, ℕ, length, arith}
use Rattle.couple.specs.declared.links.Link.{Link}
use Rattle.couple_report.specs.LinkPieces.{line_pieces}
use Rattle.couple_report.proofs.JoinLemmas.{lines-count}
use Rattle.couple_report.proofs.link_text.line_piece.Goals as goal

pub matrix_piece-requires : goal.matrix_piece-requires
matrix_piece-requires c =
    let m = c.in-Found.matrix in
    let count = ap (λ (x : Link). length (line_pieces x)) c.in-Found.is ∙ lines-count m c.in-Found.rank in
    let l = subst (λ (n : ℕ). c.args.i < n) count c.requires in
    omega (arith, l)
