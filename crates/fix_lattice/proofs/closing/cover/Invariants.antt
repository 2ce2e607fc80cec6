use Rattle.fix_lattice.specs.Classes.{AreCovered, AreReached}
use Rattle.fix_lattice.specs.Subspaces.{exact_forms}
use Rattle.fix_lattice.proofs.closing.cover.Given as goal

abbrev pub invariant-loop-t : goal.invariant-loop-t
invariant-loop-t g l =
    let f = g.F.Field.field in
    let v = g.F.Field.value in
    let act = g.G.Acts.action l.acts in
    record {
      covered : AreCovered f.laws act (exact_forms f.laws v l.held.keys) l.covered;
      queue : AreReached f.laws act (exact_forms f.laws v l.held.keys) l.queue.items;
    }
