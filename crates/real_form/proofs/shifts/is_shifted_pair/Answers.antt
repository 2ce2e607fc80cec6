use Rattle.std.proofs.Common.{◌<◌, ◌-◌, ◌/◌, ℕ, ◌∙◌, ap, subst, arith, length}
use Rattle.small_rep.specs.RepCheck.{CheckedView}
use Rattle.induce.specs.Tables.{dimension_in, matrix_in, size_in}
use Rattle.real_form.specs.Shifts.{IsShift}
use Rattle.real_form.proofs.shifts.is_shifted_pair.Goals as goal

pub returns-in-Some : goal.returns-in-Some
returns-in-Some c e =
    let s = c.args.quotient.now in
    let tables = c.args.induced.now.tables in
    let d = c.in-Some.d in
    let few = c.is_before.ensures.few e in
    let some = c.in-Some.ensures.some in
    let es = (c.size-size.ensures.value ∙ ap (λ (x : CheckedView). x.rep.size) c.rep.ensures) in
    let l : c.args.k - d < c.args.k = omega (arith, few, some) in
    let shift : IsShift (length s.parent.ops) (length s.translations) (dimension_in tables) (size_in tables) (matrix_in s tables) (c.args.i / size_in tables) (c.args.j / size_in tables) d =
    subst (λ (z : ℕ). IsShift (length s.parent.ops) (length s.translations) (dimension_in tables) (size_in tables) (matrix_in s tables) (c.args.i / z) (c.args.j / z) d) es c.in-Some.ensures.shift in
    (c.args.k - d, d, l, c.in-Some.ensures.few, c.is_before.ensures.at e, shift)
