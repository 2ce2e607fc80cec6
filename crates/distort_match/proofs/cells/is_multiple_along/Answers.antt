use Rattle.std.proofs.Common.{sym, ap, ◌∙◌, subst, ℤ, List, IsTrue, w64, rules, arith}
use Rattle.std.proofs.lemmas.Int.{to_z-of_z}
use Rattle.std.specs.Prelude.{◌↔◌}
use Rattle.algebra.specs.Multiples.{IsMultiple}
use Rattle.algebra.specs.Whole.{whole}
use Rattle.space_ops.specs.Matrix.{row_times}
use Rattle.space_ops.specs.Op.{number_at, IsShiftWithin}
use Rattle.space_ops.specs.WithinLaws.{shift_more}
use Rattle.distort_match.proofs.cells.is_multiple_along.Goals as goal

pub dot-requires-clause-column : goal.dot-requires-clause-column
dot-requires-clause-column c = subst (IsShiftWithin 1200000000) (sym c.widened.ensures) (shift_more 144 1200000000 c.args.t (omega arith) c.requires.translation)

pub returns : goal.returns
returns c =
    let r = c.args.row in
    subst (λ (z : ℤ). IsTrue c.is_multiple.result ↔ IsMultiple c.args.n z)
    (to_z-of_z w64 c.dot.result (search rules) ∙ c.dot.ensures.value
    ∙ ap (λ (v : List ℤ). row_times whole (number_at r 0) (number_at r 1) (number_at r 2) (number_at v 0) (number_at v 1) (number_at v 2)) c.widened.ensures)
    c.is_multiple.ensures
