use Rattle.std.proofs.Common.{[], arith}
use Rattle.std.proofs.lemmas.Result.{IfOk-weaker}
use Rattle.report_buffer.specs.PieceLaws.{behind-first}
use Rattle.couple_report.specs.LinkPieces.{line_pieces}
use Rattle.couple_report.specs.LinkReport.{link_head}
use Rattle.couple_report.proofs.link_text.FoundLinkReport.piece.Goals as goal

pub returns : goal.returns
returns c =
    let l = c.args.self.now in
    IfOk-weaker c.line_piece.result _ _ (λ text h. behind-first (link_head l.format l.name l.other l.order []) (line_pieces l.link) c.args.number text (omega arith) h) c.line_piece.ensures
