use Rattle.std.proofs.Common.{◌∙◌, ◌++◌, ap}
use Rattle.std.proofs.lemmas.List.{append-nil}
use Rattle.std.proofs.lemmas.Result.{on_ok_weaker, on_err_weaker}
use Rattle.report_buffer.proofs.GrowingLemmas.{grown-twice, grown-on}
use Rattle.report_buffer.proofs.buffer.Buffer.push.Goals as goal

pub returns-clause-ok : goal.returns-clause-ok
returns-clause-ok g c =
    let all = c.args.self.now ++ c.args.piece.now in
    on_ok_weaker c.put_all.result
    (λ p. (all, grown-twice c.args.self.now c.args.piece.now _ _ _ c.in_ok-flush.ensures.ok p, ap (λ t. all ++ t) c.in_ok-flush.ensures.empty ∙ append-nil all))
    c.put_all.ensures.ok

pub returns-clause-err : goal.returns-clause-err
returns-clause-err g c =
    on_err_weaker c.put_all.result (λ p. grown-on c.args.self.now c.args.piece.now _ _ _ c.in_ok-flush.ensures.ok p) c.put_all.ensures.err
