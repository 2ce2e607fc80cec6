use Rattle.std.proofs.Common.{ℕ, ◌<◌, sym, ◌∙◌, subst}
use Rattle.lattice_tests.specs.FlipLaws.{entry-value}
use Rattle.lattice_tests.proofs.flips.FlipsActs.row.Goals as goal

pub returns-clause-exact : goal.returns-clause-exact
returns-clause-exact g c j l =
    c.write_signs.ensures j (subst (λ (n : ℕ). j < n) (sym c.requires.room) l)
    ∙ sym (entry-value g.F.Field.field c.args.self.now.dim c.args.q c.args.i j)
