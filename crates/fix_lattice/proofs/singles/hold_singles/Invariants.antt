use Rattle.std.proofs.Common.{◌≤◌, ◌+◌, ◌*◌, length}
use Rattle.fix_lattice.specs.Subspaces.{AreHeld, exact_forms}
use Rattle.fix_lattice.specs.Held.{HoldsSingles}
use Rattle.fix_lattice.proofs.singles.hold_singles.Given as goal

abbrev pub invariant-loop-q : goal.invariant-loop-q
invariant-loop-q g l =
    let f = g.F.Field.field in
    let v = g.F.Field.value in
    let act = g.G.Acts.action l.acts in
    record {
      held : AreHeld f.laws v g.F.PartialEq.eq act.dim l.held.keys;
      singles : HoldsSingles f.laws act (exact_forms f.laws v l.held.keys) l.singles.places.items l.singles.elements.items l.q;
      within : length l.held.keys ≤ l.limit;
      cost : l.steps ≤ l.fn.steps + act.dim * l.q;
    }
