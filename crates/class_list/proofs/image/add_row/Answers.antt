use Rattle.std.proofs.Common.{◌≡◌, sym, ◌∙◌, true}
use Rattle.lin_alg.specs.Action.{entry_of}
use Rattle.lin_alg.specs.Rows.{vector}
use Rattle.class_list.proofs.RowLemmas.{add-left_nought}
use Rattle.class_list.proofs.image.add_row.Goals as goal

pub returns-then-is_zero-clause-exact : goal.returns-then-is_zero-clause-exact
returns-then-is_zero-clause-exact g c j l =
    let f = g.F.Field.field in
    let v = g.F.Field.value in
    let act = g.G.Acts.action c.args.acts.now in
    let z : f.laws.is_nought (v c.args.c) ≡ true = sym c.is_zero.ensures ∙ c.if-is_zero.true in
    add-left_nought f.laws (vector f.laws v c.args.into.now j) (v c.args.c) (entry_of f.laws act c.args.p c.args.i j) z
