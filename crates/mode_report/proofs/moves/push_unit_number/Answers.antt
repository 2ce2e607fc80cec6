use Rattle.std.proofs.Common.{◌∙◌, ap, ◌+◌, ◌++◌}
use Rattle.std.proofs.lemmas.Result.{on_ok_weaker}
use Rattle.mode_report.specs.MoveParts.{entry_line}
use Rattle.mode_report.proofs.UnitLemmas.{unit-numbers}
use Rattle.mode_report.proofs.moves.push_unit_number.Goals as goal

pub returns : goal.returns
returns c =
    on_ok_weaker c.push.result
    (λ e. e ∙ ap (λ t. c.args.text.now ++ t) (c.as_slice.ensures ∙ c.in_ok-line.ensures ∙ ap (entry_line (c.args.column + 1)) c.one.ensures ∙ unit-numbers c.args.column c.args.atoms c.requires)) c.push.ensures.ok
