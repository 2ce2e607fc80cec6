use Rattle.std.proofs.Common.{List, map, sym, subst}
use Rattle.iso_text.specs.declared.sections.OpLine.{OpLine}
use Rattle.space_ops.specs.Group.{AreGenerators}
use Rattle.report_steps.specs.Generators.{operation_of, AreGood}
use Rattle.report_steps.proofs.GeneratorLemmas.{operations-fit}
use Rattle.report_steps.proofs.generators.of_operations.Goals as goal

pub returns-in-None-clause-fit : goal.returns-in-None-clause-fit
returns-in-None-clause-fit c =
    let P : List OpLine → Type 0 = λ lines. AreGenerators (map operation_of lines) in
    subst AreGenerators (sym c.operations_of.ensures)
    (subst P (sym c.as_slice-lines.ensures) (operations-fit c.args.text.now c.requires (subst AreGood c.as_slice-lines.ensures c.in-None.ensures)))
