use Rattle.std.proofs.Common.{◌≡◌, ◌∙◌, ap, subst, ℕ, ◌<◌, List, length, MatchOption}
use Rattle.space_ops.specs.declared.op.Op.{Op}
use Rattle.space_ops.specs.Op.{matrix_of}
use Rattle.space_ops.specs.Words.{op_at}
use Rattle.space_ops.specs.Group.{Parent}
use Rattle.space_ops.proofs.group.Group.index_of.Goals as goal

pub returns-clause-place : goal.returns-clause-place
returns-clause-place c =
    subst (λ (ops : List Op). MatchOption c.place_of.result ((j : ℕ) → j < length ops → (op_at ops j).rot ≡ matrix_of c.args.rot → ⊥) (λ i. (i < length ops) × ((op_at ops i).rot ≡ matrix_of c.args.rot)))
    (c.deref.ensures.value ∙ ap (λ (p : Parent). p.ops) c.self.view_is) c.place_of.ensures
