use Rattle.std.proofs.Common.{◌<◌, ℕ, sym, subst}
use Rattle.cyclo24.specs.K24.{exact24}
use Rattle.cyclo24.specs.ExactK24.{k24}
use Rattle.real_form.proofs.LineLemmas.{unit-filled}
use Rattle.real_form.proofs.basis.unit_line.Goals as goal

pub returns-clause-exact : goal.returns-clause-exact
returns-clause-exact c =
    let l = subst (λ (k : ℕ). c.args.i < k) (sym c.in_ok-row.ensures.len) c.requires in
    unit-filled k24 exact24 c.in_ok-row.row.items c.args.i c.one.result l c.in_ok-row.ensures.zero c.one.ensures
