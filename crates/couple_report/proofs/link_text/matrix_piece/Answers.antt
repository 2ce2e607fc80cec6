use Rattle.std.proofs.Common.{arith}
use Rattle.std.proofs.lemmas.Result.{IfOk-weaker}
use Rattle.couple_report.proofs.JoinLemmas.{row-piece}
use Rattle.couple_report.proofs.link_text.matrix_piece.Goals as goal

pub returns : goal.returns
returns c =
    let m = c.args.matrix.now in
    IfOk-weaker c.row_text.result _ _ (λ text h. row-piece m c.args.rank c.args.i text (omega arith) (omega arith) h) c.row_text.ensures
