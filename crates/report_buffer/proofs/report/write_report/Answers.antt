use Rattle.report_buffer.proofs.GrowingLemmas.{on-err, flushed-part}
use Rattle.report_buffer.proofs.report.write_report.Goals as goal

pub returns-in_err-flush-clause-err : goal.returns-in_err-flush-clause-err
returns-in_err-flush-clause-err g c =
    on-err c.from_residual-in_err-flush.result (flushed-part _ _ _ _ _ c.in_ok-push_pieces.ensures.ok c.in_err-flush.ensures.err)
