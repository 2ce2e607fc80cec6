use Rattle.std.proofs.Common.{List, ℕ, ap, subst}
use Rattle.hall_symbol.specs.Grammar.{IsHallSymbol}
use Rattle.space_ops.specs.declared.lattice.Lattice.{Lattice}
use Rattle.space_ops.specs.declared.op.Op.{Op}
use Rattle.report_steps.specs.declared.refusal.Refusal.TheVariants as refusal
use Rattle.report_steps.proofs.generators.of_symbol.Goals as goal

pub returns-in-Err-clause-answer : goal.returns-in-Err-clause-answer
returns-in-Err-clause-answer c =
    let P : List ℕ → Type 0 = λ text. (lattice : Lattice) (gens : List Op) → IsHallSymbol text lattice gens → ⊥ in
    (subst P c.hall.ensures c.in-Err.ensures.bad, ap (λ n. refusal.BadHall n) c.hall_line.ensures)
