use Rattle.std.proofs.Common.{◌∙◌, sym, ap}
use Rattle.cyclo24.specs.ExactK24.{k24_laws}
use Rattle.cyclo24.specs.K24.{exact24}
use Rattle.lin_alg.specs.Rows.{exact_rows}
use Rattle.lin_alg.specs.Echelon.{IsEchelon}
use Rattle.short_rows.specs.CarriedLaws.{to_long}
use Rattle.short_listing.specs.CarriedLaws.{lines_form, lines_rows}
use Rattle.short_listing.proofs.forms.lengthened_form.Goals as goal

pub from_rows-requires : goal.from_rows-requires
from_rows-requires g c =
    let k = to_long g.S.Field.field g.S.Field.value g.S.Short.exact g.met.S.Short.is_short (λ f v. IsEchelon f.laws v c.args.form.now) c.is_whole-whole.ensures.form in
    lines_form g.S.Short.exact c.width-width.result 0 _ c.args.form.now (sym c.width-width.ensures) c.requires.whole c.in_ok-lines.ensures k

pub returns-clause-rows : goal.returns-clause-rows
returns-clause-rows g c = ap (exact_rows k24_laws exact24) c.from_rows.ensures.rows ∙ lines_rows g.S.Short.exact _ c.args.form.now.rows c.in_ok-lines.ensures
