use Rattle.std.proofs.Common.{◌≡◌, ◌∙◌, sym, ap, true, false}
use Rattle.small_rep.proofs.products.is_entry.Goals as goal

pub returns-clause-yes : goal.returns-clause-yes
returns-clause-yes g c q =
    let t : c.are_equal.result ≡ true = cc in
    sym c.in_ok-product.ensures.exact ∙ c.are_equal.ensures.yes t ∙ c.in_ok-wanted.ensures.exact ∙ ap (g.F.Field.field.laws.times (g.F.Field.value c.args.factor)) c.get.ensures

pub returns-clause-no : goal.returns-clause-no
returns-clause-no g c q e =
    let t : c.are_equal.result ≡ false = cc in
    c.are_equal.ensures.no t (c.in_ok-product.ensures.exact ∙ e ∙ sym (c.in_ok-wanted.ensures.exact ∙ ap (g.F.Field.field.laws.times (g.F.Field.value c.args.factor)) c.get.ensures))
