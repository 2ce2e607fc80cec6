use Rattle.std.proofs.Common.{◌≡◌, ◌≤◌, sym, subst, length, arith}
use Rattle.short_listing.specs.CarriedLaws.{same_count}
use Rattle.short_listing.proofs.forms.lengthened_direction.Goals as goal

pub new-requires-clause-few : goal.new-requires-clause-few
new-requires-clause-few g c =
    let n : length c.in_ok-equations.equations.rows ≡ length c.equations.result.now.rows = same_count g.S.Short.exact c.in_ok-equations.equations.rows c.equations.result.now.rows c.in_ok-equations.ensures.rows in
    let w : c.in_ok-equations.equations.width ≡ c.equations.result.now.width = c.in_ok-equations.ensures.form.width in
    let f : length c.equations.result.now.rows ≤ c.equations.result.now.width = subst (λ e. length e.rows ≤ e.width) (sym c.equations.ensures.equations) c.equations.ensures.few in
    omega (arith, n, w, f)
