use Rattle.std.proofs.Common.{ap, ◌∙◌, sym, [], ◌∷◌, ◌++◌, map}
use Rattle.hall_symbol.specs.Operations.{op_at_origin, inversion_of}
use Rattle.hall_symbol.proofs.symbol.first_ops.Goals as goal

pub returns-then-inverted : goal.returns-then-inverted
returns-then-inverted c =
    c.push.ensures.items ∙ ap (λ os. os ++ c.op_at_origin.result ∷ []) c.new-ops.ensures ∙ ap (λ o. o ∷ []) (c.op_at_origin.ensures ∙ ap (op_at_origin c.args.origin) c.inversion.ensures) ∙ ap (λ b. map (op_at_origin c.args.origin) (inversion_of b)) (sym c.if-inverted.true)
