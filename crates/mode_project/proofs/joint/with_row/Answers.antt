use Rattle.std.proofs.Common.{◌≡◌, ◌∷◌, [], ◌++◌, sym, ◌∙◌, ap, subst, length}
use Rattle.lin_alg.specs.Rows.{vector, exact_rows}
use Rattle.lin_alg.specs.Insertion.{IsWideInsert}
use Rattle.std.specs.Prelude.{Err}
use Rattle.lin_alg.specs.declared.errors.LinError.TheVariants.{Wide}
use Rattle.mode_project.specs.Joined.{joined_rows_in}
use Rattle.mode_project.specs.Modes.{IsKept}
use Rattle.mode_project.proofs.JointLemmas.{joined-last, joined-yes, joined-no, kept-yes, kept-no}
use Rattle.mode_project.proofs.joint.with_row.Goals as goal

pub insert_row-requires-clause-width : goal.insert_row-requires-clause-width
insert_row-requires-clause-width g c = ap length c.in-Ok.ensures.row ∙ c.requires.width

pub returns-in-Ok-No-clause-joined : goal.returns-in-Ok-No-clause-joined
returns-in-Ok-No-clause-joined g c =
    let ok = c.in-Ok-No.ensures in
    joined-no g.F.Field.field.laws g.F.Field.value c.args.joint.form c.insert_row.new.form c.args.joint.rows.items (vector g.F.Field.field.laws g.F.Field.value c.in-Ok.lent.items) c.requires.joined ok.whole ok.form ok.span ok.width (ok.stays c.in-Ok-No.field-0-is)

pub returns-in-Err-insert_row-clause-wide : goal.returns-in-Err-insert_row-clause-wide
returns-in-Err-insert_row-clause-wide g c w =
    let f = g.F.Field.field in
    subst (λ xs. IsWideInsert f (exact_rows f.laws g.F.Field.value c.args.joint.form.rows) (vector f.laws g.F.Field.value xs)) c.in-Ok.ensures.row (c.in-Err-insert_row.ensures.wide (ap Err (let k : c.in-Err-insert_row.error ≡ Wide = cc in k)))

pub returns-in-Ok-No-clause-width : goal.returns-in-Ok-No-clause-width
returns-in-Ok-No-clause-width g c = c.in-Ok-No.ensures.width

pub returns-in-Ok-No-clause-kept : goal.returns-in-Ok-No-clause-kept
returns-in-Ok-No-clause-kept g c =
    let f = g.F.Field.field.laws in
    let value = g.F.Field.value in
    let ok = c.in-Ok-No.ensures in
    let ms = joined_rows_in f value c.args.joint.rows.items in
    subst (λ xs. IsKept f ms (c.args.j, vector f value xs) ms) c.in-Ok.ensures.row
    (kept-no f value c.args.joint.form c.insert_row.new.form c.args.joint.rows.items (vector f value c.in-Ok.lent.items) c.requires.joined ok.whole ok.form ok.span c.args.j (ok.stays c.in-Ok-No.field-0-is))

pub returns-in-Ok-push-clause-joined : goal.returns-in-Ok-push-clause-joined
returns-in-Ok-push-clause-joined g c =
    let f = g.F.Field.field.laws in
    let value = g.F.Field.value in
    let ok = c.in-Ok-Yes.ensures in
    let rows = c.args.joint.rows.items in
    let same : vector f value c.in-Ok-copied.own.items ≡ vector f value c.in-Ok.lent.items = ap (vector f value) (c.in-Ok-copied.ensures.row ∙ sym c.in-Ok.ensures.row) in
    joined-yes f value c.args.joint.form c.insert_row.new.form rows (vector f value c.in-Ok.lent.items) c.requires.joined ok.whole ok.form ok.span ok.width c.args.j c.push.new.self.items c.in-Ok-copied.own c.in-Ok-push.ensures.items
    (ap length c.in-Ok-copied.ensures.row ∙ c.requires.width) same

pub returns-in-Ok-push-clause-kept : goal.returns-in-Ok-push-clause-kept
returns-in-Ok-push-clause-kept g c =
    let f = g.F.Field.field.laws in
    let value = g.F.Field.value in
    let ok = c.in-Ok-Yes.ensures in
    let rows = c.args.joint.rows.items in
    let ms = joined_rows_in f value rows in
    let x = vector f value c.in-Ok.lent.items in
    let same : vector f value c.in-Ok-copied.own.items ≡ x = ap (vector f value) (c.in-Ok-copied.ensures.row ∙ sym c.in-Ok.ensures.row) in
    let more : joined_rows_in f value c.push.new.self.items ≡ ms ++ (c.args.j, x) ∷ [] = joined-last f value rows c.push.new.self.items c.args.j c.in-Ok-copied.own c.in-Ok-push.ensures.items ∙ ap (λ v. ms ++ (c.args.j, v) ∷ []) same in
    subst (λ xs. IsKept f ms (c.args.j, vector f value xs) (joined_rows_in f value c.push.new.self.items)) c.in-Ok.ensures.row
    (kept-yes f value c.args.joint.form c.insert_row.new.form rows x c.requires.joined ok.whole ok.form ok.span c.args.j c.push.new.self.items more (ok.grew.0 c.in-Ok-Yes.field-0-is))

pub returns-in-Ok-push-clause-width : goal.returns-in-Ok-push-clause-width
returns-in-Ok-push-clause-width g c = c.in-Ok-Yes.ensures.width
