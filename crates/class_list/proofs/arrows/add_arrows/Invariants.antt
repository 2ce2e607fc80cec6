use Rattle.std.proofs.Common.{◌≤◌, ◌+◌, ◌*◌}
use Rattle.fix_lattice.specs.Subspaces.{exact_forms}
use Rattle.class_list.specs.Images.{AreArrows}
use Rattle.class_list.proofs.arrows.add_arrows.Given as goal

abbrev pub invariant-loop-i : goal.invariant-loop-i
invariant-loop-i g l =
    let act = g.G.Acts.action l.given.acts.now in
    AreArrows g.F.Field.field.laws act (exact_forms g.F.Field.field.laws g.F.Field.value l.given.spaces.now.forms) l.j l.i l.arrows.items
    × (l.steps ≤ l.fn.steps + act.dim * l.i)
