use Rattle.std.proofs.Common.{◌≡◌, ◌∙◌, sym, ap}
use Rattle.cyclo24.specs.FieldLaws.{times-nought}
use Rattle.small_rep.proofs.products.times.Goals as goal

pub returns-then-is_zero-clause-exact : goal.returns-then-is_zero-clause-exact
returns-then-is_zero-clause-exact g c =
    let f = g.F.Field.field.laws in
    let v = g.F.Field.value in
    let zero : v c.args.x ≡ f.nought = f.is_nought-true (v c.args.x) (sym c.is_zero.ensures ∙ c.if-is_zero.true) in
    zero ∙ sym (times-nought f (v c.args.factor)) ∙ ap (f.times (v c.args.factor)) (sym zero)
