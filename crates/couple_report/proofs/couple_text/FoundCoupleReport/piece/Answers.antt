use Rattle.std.proofs.Common.{arith}
use Rattle.std.proofs.lemmas.Result.{IfOk-weaker}
use Rattle.report_buffer.specs.PieceLaws.{behind-first}
use Rattle.couple_report.specs.CouplePieces.{head_piece, direction_pieces}
use Rattle.couple_report.proofs.couple_text.FoundCoupleReport.piece.Goals as goal

pub returns : goal.returns
returns c =
    let x = c.args.self.now in
    IfOk-weaker c.direction_piece.result _ _ (λ text h. behind-first (head_piece x) (direction_pieces x) c.args.number text (omega arith) h) c.direction_piece.ensures
