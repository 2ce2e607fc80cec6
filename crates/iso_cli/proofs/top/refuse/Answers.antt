use Rattle.std.proofs.Common.{◌∙◌}
use Rattle.iso_cli.proofs.Lines.{says_same, says_refusal, says_no_memory}
use Rattle.iso_cli.proofs.top.refuse.Goals as goal

pub returns-in-Ok : goal.returns-in-Ok
returns-in-Ok g c = says_refusal c.args.refusal.now c.say.result _ c.say.ensures.status (says_same _ _ _ (c.as_slice.ensures ∙ c.in-Ok.ensures) c.say.ensures.says)

pub returns-in-Err : goal.returns-in-Err
returns-in-Err g c = says_no_memory c.args.refusal.now c.say-in-Err.result _ c.say-in-Err.ensures.status (says_same _ _ _ c.as_bytes.ensures.value c.say-in-Err.ensures.says)
