use Rattle.std.proofs.Common.{◌≢◌, take}
use Rattle.std.specs.Prelude.{All}
use Rattle.iso_text.specs.declared.sections.IrrepText.{IrrepText}
use Rattle.list_report.proofs.choice.place_named.Given as goal

abbrev pub invariant-loop-i : goal.invariant-loop-i
invariant-loop-i l = All (λ (x : IrrepText). x.name ≢ l.name) (take l.i l.irreps)
