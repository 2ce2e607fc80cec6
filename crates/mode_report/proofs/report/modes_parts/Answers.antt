use Rattle.std.proofs.Common.{◌∙◌, ap}
use Rattle.std.proofs.lemmas.Result.{IfOk-weaker}
use Rattle.mode_report.specs.Parts.{parts_of}
use Rattle.mode_report.proofs.report.modes_parts.Goals as goal

pub returns : goal.returns
returns c = IfOk-weaker c.parts_of.result _ _ (λ parts h. h ∙ ap parts_of (c.deref.ensures.value ∙ c.in_ok-counts.ensures)) c.parts_of.ensures
