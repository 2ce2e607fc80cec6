use Rattle.std.proofs.Common.{rules, arith, ap, ◌∙◌, pos, w32}
use Rattle.std.proofs.lemmas.Int.{ints, to_z-of_z}
use Rattle.std.specs.Int.{int_rem_euclid}
use Rattle.hall_symbol.proofs.operation.reduced.Goals as goal

pub returns : goal.returns
returns c = to_z-of_z w32 c.rem_euclid.result (search rules) ∙ c.rem_euclid.ensures.value ∙ ap (λ z. int_rem_euclid z (pos 12)) (omega (arith, ints))
