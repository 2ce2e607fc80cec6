use Rattle.std.proofs.Common.{◌≡◌, ◌<◌, ◌+◌, ◌*◌, ◌∙◌, ℕ, sym, ap, subst}
use Rattle.lin_alg.specs.Matrix.{entry}
use Rattle.short_listing.specs.Carried.{IsTableOf}
use Rattle.short_listing.specs.CarriedLaws.{table_carried}
use Rattle.short_listing.proofs.acts.ShortActsActs.row.Goals as goal

pub returns-clause-exact : goal.returns-clause-exact
returns-clause-exact g c j l =
    let f = g.S.Field.field in
    let v = g.S.Field.value in
    let s = c.args.self.now in
    let act = g.G.Acts.action s.acts.now in
    let held : IsTableOf f.laws v act s.rows = table_carried f v g.S.Short.exact g.met.S.Short.is_short act s.rows s.held in
    let d : c.cols-d.result ≡ act.dim = c.cols-d.ensures ∙ held.cols in
    let below : j < s.rows.cols = subst (λ (n : ℕ). j < n) (sym held.cols) l in
    c.copy_row.ensures j below ∙ ap (λ n. entry f.laws v s.rows (c.args.q * n + c.args.i) j) d ∙ held.entries c.args.q c.args.i j c.requires.element c.requires.place l
