use Rattle.std.proofs.Common.{rules}
use Rattle.space_ops.specs.Op.{number_at}
use Rattle.space_ops.proofs.InverseLemmas.{inverse_rows, passed_scaled}
use Rattle.space_ops.proofs.rotation.inverse_rotation.Goals as goal

pub returns-clause-value : goal.returns-clause-value
returns-clause-value c =
    let f = c.cross-first.result in
    let g = c.cross-second.result in
    let h = c.cross-third.result in
    inverse_rows c.args.a c.sign_of-sign.result f g h c.scaled_row.result c.scaled_row-2.result c.scaled_row-3.result c.sign_of-sign.ensures.value c.cross-first.ensures.value c.cross-second.ensures.value c.cross-third.ensures.value
    (passed_scaled _ c.sign_of-sign.result (number_at f 0) (number_at g 0) (number_at h 0) (search rules) (search rules) (search rules) (search rules) c.scaled_row.ensures.value)
    (passed_scaled _ c.sign_of-sign.result (number_at f 1) (number_at g 1) (number_at h 1) (search rules) (search rules) (search rules) (search rules) c.scaled_row-2.ensures.value)
    (passed_scaled _ c.sign_of-sign.result (number_at f 2) (number_at g 2) (number_at h 2) (search rules) (search rules) (search rules) (search rules) c.scaled_row-3.ensures.value)
