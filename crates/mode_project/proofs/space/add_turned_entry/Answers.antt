use Rattle.std.proofs.Common.{◌≡◌, sym, ◌∙◌, ap, pos, to_z, of_z, w8}
use mir.Val.{SFits}
use Rattle.std.proofs.lemmas.Int.{to_z-of_z}
use Rattle.cyclo24.specs.Numerals.{of_whole}
use Rattle.lin_alg.specs.Rows.{vector}
use Rattle.mode_project.proofs.TermLemmas.{add-nought_whole, term-exact, term-wide}
use Rattle.mode_project.proofs.VectorLemmas.{vector-at}
use Rattle.mode_project.proofs.space.add_turned_entry.Goals as goal

pub returns-then-n-eq0-clause-exact : goal.returns-then-n-eq0-clause-exact
returns-then-n-eq0-clause-exact g c =
    let f = g.F.Field.field.laws in
    let fits : SFits w8 c.turn-n.result = record { sfits = c.turn-n.type_inv } in
    let e : g.S.OfSpace.space.turn c.args.q c.args.a c.args.b ≡ pos 0 = sym c.turn-n.ensures ∙ sym (to_z-of_z w8 c.turn-n.result fits) ∙ ap (to_z w8) c.if-n-eq0.true in
    add-nought_whole f (g.F.Field.value c.args.sum) (vector f g.F.Field.value c.args.row.now c.args.at) (g.S.OfSpace.space.turn c.args.q c.args.a c.args.b) e

pub returns-clause-exact : goal.returns-clause-exact
returns-clause-exact g c =
    let f = g.F.Field.field in
    let value = g.F.Field.value in
    let at : vector f.laws value c.args.row.now c.args.at ≡ value c.index-row-at.result = vector-at f value c.args.row.now c.args.at c.index-row-at.result c.requires.place c.index-row-at.is in
    let fits : SFits w8 c.turn-n.result = record { sfits = c.turn-n.type_inv } in
    term-exact f value c.add_multiple.result (value c.args.sum) (of_whole f.laws (to_z w8 (of_z w8 c.turn-n.result))) (value c.index-row-at.result)
    (of_whole f.laws (g.S.OfSpace.space.turn c.args.q c.args.a c.args.b)) (vector f.laws value c.args.row.now c.args.at) (ap (of_whole f.laws) (to_z-of_z w8 c.turn-n.result fits ∙ c.turn-n.ensures)) (sym at) c.add_multiple.ensures.exact

pub returns-clause-wide : goal.returns-clause-wide
returns-clause-wide g c =
    let f = g.F.Field.field in
    let value = g.F.Field.value in
    let at : vector f.laws value c.args.row.now c.args.at ≡ value c.index-row-at.result = vector-at f value c.args.row.now c.args.at c.index-row-at.result c.requires.place c.index-row-at.is in
    let fits : SFits w8 c.turn-n.result = record { sfits = c.turn-n.type_inv } in
    term-wide f value c.add_multiple.result (value c.args.sum) (of_whole f.laws (to_z w8 (of_z w8 c.turn-n.result))) (value c.index-row-at.result)
    (of_whole f.laws (g.S.OfSpace.space.turn c.args.q c.args.a c.args.b)) (vector f.laws value c.args.row.now c.args.at) (ap (of_whole f.laws) (to_z-of_z w8 c.turn-n.result fits ∙ c.turn-n.ensures)) (sym at) c.add_multiple.ensures.wide
