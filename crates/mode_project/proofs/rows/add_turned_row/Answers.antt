use Rattle.std.proofs.Common.{◌≡◌, ◌<◌, ℕ, OnOk, OnErr, length, sym, ◌∙◌, ap, subst, ℤ, pos, to_z, w8}
use mir.Val.{SFits}
use Rattle.std.proofs.lemmas.Int.{to_z-of_z}
use Rattle.cyclo24.specs.Numerals.{of_whole}
use Rattle.lin_alg.specs.Matrix.{IsWideTerm}
use Rattle.lin_alg.specs.Rows.{vector}
use Rattle.lin_alg.specs.SpanLaws.{funext}
use Rattle.mode_project.specs.Parts.{more}
use Rattle.mode_project.proofs.TermLemmas.{add-nought_whole}
use Rattle.mode_project.proofs.rows.add_turned_row.Goals as goal

pub returns-then-n-eq0-clause-exact : goal.returns-then-n-eq0-clause-exact
returns-then-n-eq0-clause-exact g c =
    let f = g.F.Field.field.laws in
    let v = g.F.Field.value in
    let n = g.S.OfSpace.space.turn c.args.q c.args.b c.args.a in
    let fits : SFits w8 c.turn-n.result = record { sfits = c.turn-n.type_inv } in
    let e : n ≡ pos 0 = sym c.turn-n.ensures ∙ sym (to_z-of_z w8 c.turn-n.result fits) ∙ ap (to_z w8) c.if-n-eq0.true in
    funext (λ r. add-nought_whole f (vector f v c.args.into.now r) (vector f v c.args.row.now r) n e)

pub returns-clause-exact : goal.returns-clause-exact
returns-clause-exact g c =
    let f = g.F.Field.field.laws in
    let v = g.F.Field.value in
    let fits : SFits w8 c.turn-n.result = record { sfits = c.turn-n.type_inv } in
    subst (λ (m : ℤ). OnOk c.add_row.result (vector f v c.add_row.new.into ≡ more f (vector f v c.args.into.now) (of_whole f m) (vector f v c.args.row.now))) (to_z-of_z w8 c.turn-n.result fits ∙ c.turn-n.ensures) c.add_row.ensures.exact

pub returns-clause-wide : goal.returns-clause-wide
returns-clause-wide g c =
    let f = g.F.Field.field in
    let v = g.F.Field.value in
    let fits : SFits w8 c.turn-n.result = record { sfits = c.turn-n.type_inv } in
    subst (λ (m : ℤ). OnErr c.add_row.result ((r : ℕ) × (r < length c.args.row.now) × IsWideTerm f (vector f.laws v c.args.into.now r) (of_whole f.laws m) (vector f.laws v c.args.row.now r)))
    (to_z-of_z w8 c.turn-n.result fits ∙ c.turn-n.ensures) c.add_row.ensures.wide
