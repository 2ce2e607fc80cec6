use Rattle.std.proofs.Common.{◌++◌, subst, arith}
use Rattle.iso_text.specs.Streams.{GrownByPrefix}
use Rattle.report_buffer.specs.Passing.{IsPassedOn}
use Rattle.report_buffer.proofs.GrowingLemmas.{on-err, passed-front, passed-part, passed-more}
use Rattle.report_buffer.proofs.report.push_pieces.Goals as goal

pub returns-in_err-piece-clause-err : goal.returns-in_err-piece-clause-err
returns-in_err-piece-clause-err g c =
    on-err c.from_residual.result (passed-front (g.R.Report.pieces c.args.report.now) c.loop-number.number c.loop-number.buffer _ _ c.loop-number.invariant.passed)

pub returns-in_err-push-clause-err : goal.returns-in_err-push-clause-err
returns-in_err-push-clause-err g c =
    let front = subst (λ t. GrownByPrefix (c.loop-number.buffer ++ t) (g.O.Sink.written c.loop-number.out) (g.O.Sink.written c.push.new.out)) c.as_slice.ensures c.in_err-push.ensures.err in
    on-err c.from_residual-in_err-push.result
    (passed-part (g.R.Report.pieces c.args.report.now) c.loop-number.number c.in_ok-piece.piece c.loop-number.buffer _ _ _ c.in_ok-piece.ensures c.loop-number.invariant.passed front)

pub loop-number-preserved : goal.loop-number-preserved
loop-number-preserved g c =
    let more = subst (λ t. IsPassedOn (c.loop-number.buffer ++ t) c.push.new.self (g.O.Sink.written c.loop-number.out) (g.O.Sink.written c.push.new.out)) c.as_slice.ensures c.in_ok-push.ensures.ok in
    record {
      passed = passed-more (g.R.Report.pieces c.args.report.now) c.loop-number.number c.in_ok-piece.piece c.loop-number.buffer c.push.new.self _ _ _ c.in_ok-piece.ensures c.loop-number.invariant.passed more;
      faults = omega (arith, c.loop-number.invariant.faults, c.push.ensures.faults);
    }
