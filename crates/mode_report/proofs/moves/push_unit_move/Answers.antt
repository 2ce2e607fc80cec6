use Rattle.std.proofs.Common.{◌∙◌, ap, ◌++◌}
use Rattle.std.proofs.lemmas.Result.{on_ok_weaker}
use Rattle.mode_report.proofs.UnitLemmas.{unit-moves}
use Rattle.mode_report.proofs.moves.push_unit_move.Goals as goal

pub returns : goal.returns
returns c =
    on_ok_weaker c.push.result (λ e atoms l. e ∙ ap (λ t. c.args.text.now ++ t) (c.as_slice.ensures ∙ c.in_ok-line.ensures ∙ unit-moves c.args.column atoms l)) c.push.ensures.ok
