use Rattle.std.proofs.Common.{Option, subst}
use Rattle.hall_symbol.specs.declared.symbol.Generators.{Generators}
use Rattle.iso_text.specs.declared.sections.OpsText.{OpsText}
use Rattle.report_steps.specs.Generators.{RefusesGivenBy, AreGivenBy}
use Rattle.report_steps.specs.Steps.{Answers}
use Rattle.report_steps.proofs.generators.generators_of.Goals as goal

pub returns-in-None-clause-answer : goal.returns-in-None-clause-answer
returns-in-None-clause-answer c =
    let file = c.args.document.now in
    let P : Option OpsText → Type 0 = λ o. Answers (RefusesGivenBy file o) (λ (g : Generators). AreGivenBy file o g.lattice g.ops.items) c.of_symbol.result in
    subst P c.in-None.ensures c.of_symbol.ensures.answer
