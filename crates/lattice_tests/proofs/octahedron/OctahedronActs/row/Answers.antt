use Rattle.std.proofs.Common.{ℕ, ◌<◌, sym, ◌∙◌, subst}
use Rattle.lattice_tests.specs.Octahedra.{octahedron}
use Rattle.lattice_tests.specs.TableLaws.{entry-value}
use Rattle.lattice_tests.proofs.octahedron.OctahedronActs.row.Goals as goal

pub returns-clause-exact : goal.returns-clause-exact
returns-clause-exact g c j l =
    c.write_row.ensures j (subst (λ (n : ℕ). j < n) (sym c.requires.room) l) ∙ sym (entry-value g.F.Field.field octahedron c.args.q c.args.i j)
