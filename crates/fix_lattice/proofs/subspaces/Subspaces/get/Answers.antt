use Rattle.std.proofs.Common.{◌≡◌, ℕ, sym, ap, subst}
use Rattle.fix_lattice.specs.Subspaces.{IsWholeForm}
use Rattle.fix_lattice.proofs.subspaces.Subspaces.get.Goals as goal
use Rattle.fix_lattice.specs.FormLaws.{whole-at}

pub returns-clause-whole : goal.returns-clause-whole
returns-clause-whole g c =
    let f = g.F.Field.field in
    let v = g.F.Field.value in
    let width : c.self.inside.width ≡ c.args.self.now.width = ap (λ z. z.width) c.self.view_is in
    subst (λ (n : ℕ). IsWholeForm f.laws v n c.form.result.now) width
    (subst (λ z. IsWholeForm f.laws v c.self.inside.width z) (sym c.form.ensures.form)
    (whole-at f.laws v c.self.inside.width c.self.inside.forms.keys c.args.i c.index.result.now c.self.invariant c.index.ensures))
