use Rattle.std.proofs.Common.{vec_len, length, ◌≡◌, ◌≤◌, ◌+◌, ◌*◌}
use Rattle.fix_lattice.specs.Subspaces.{exact_forms}
use Rattle.class_list.specs.Images.{AreArrows}
use Rattle.class_list.proofs.arrows.arrows_of.Given as goal

abbrev pub invariant-loop-j : goal.invariant-loop-j
invariant-loop-j g l =
    let act = g.G.Acts.action l.acts in
    AreArrows g.F.Field.field.laws act (exact_forms g.F.Field.field.laws g.F.Field.value l.spaces.forms) l.j 0 l.arrows.items
    × (vec_len l.line ≡ act.dim) × (vec_len l.row ≡ act.dim) × (l.steps ≤ l.fn.steps + act.dim * length l.spaces.forms * l.j)
