use Rattle.std.proofs.Common.{◌<◌, ℕ, sym, ◌∙◌, ap, subst, length, Some, Err, arith}
use Rattle.lin_alg.specs.Rows.{exact_rows}
use Rattle.lin_alg.specs.RowLaws.{equality-told}
use Rattle.fix_lattice.specs.Held.{IsFixSpace, IsPut, IsCutAt}
use Rattle.fix_lattice.proofs.HeldLemmas.{put-all, cut-fixed}
use Rattle.fix_lattice.specs.Lattice.{form_at}
use Rattle.fix_lattice.specs.Subspaces.{IsWholeForm, exact_forms}
use Rattle.fix_lattice.proofs.CountLemmas.{held-more}
use Rattle.fix_lattice.proofs.CutLemmas.{ok-map, cut-at, wide-cut}
use Rattle.fix_lattice.proofs.tables.cut_one.Goals as goal
use Rattle.fix_lattice.specs.FormLaws.{whole-at, exact-at, exact-length}

pub cut_form-requires-clause-space : goal.cut_form-requires-clause-space
cut_form-requires-clause-space g c =
    let f = g.F.Field.field in
    let v = g.F.Field.value in
    let act = g.G.Acts.action c.args.given.now.acts.now in
    subst (λ (n : ℕ). IsWholeForm f.laws v n c.form.result.now) (sym c.requires.room)
    (whole-at f.laws v act.dim c.args.held.now.keys c.args.at c.form.result.now c.requires.held.whole (c.index.ensures ∙ ap Some (sym c.form.ensures.form)))

pub cut_form-requires-clause-by : goal.cut_form-requires-clause-by
cut_form-requires-clause-by g c =
    let f = g.F.Field.field in
    let v = g.F.Field.value in
    let act = g.G.Acts.action c.args.given.now.acts.now in
    subst (λ (n : ℕ). IsWholeForm f.laws v n c.form-2.result.now) (sym c.requires.room)
    (whole-at f.laws v act.dim c.args.held.now.keys c.args.k c.form-2.result.now c.requires.held.whole (c.index-2.ensures ∙ ap Some (sym c.form-2.ensures.form)))

pub returns-in-Err-Wide-clause-wide : goal.returns-in-Err-Wide-clause-wide
returns-in-Err-Wide-clause-wide g c e =
    let f = g.F.Field.field in
    let v = g.F.Field.value in
    let act = g.G.Acts.action c.args.given.now.acts.now in
    let keys = c.args.held.now.keys in
    let old = exact_forms f.laws v keys in
    wide-cut f act (length c.args.row.now) (form_at old c.args.at) (form_at old c.args.k) (exact_rows f.laws v c.form.result.now.rows) (exact_rows f.laws v c.form-2.result.now.rows) c.requires.room
    (exact-at f.laws v keys c.args.at c.form.result.now (c.index.ensures ∙ ap Some (sym c.form.ensures.form)))
    (exact-at f.laws v keys c.args.k c.form-2.result.now (c.index-2.ensures ∙ ap Some (sym c.form-2.ensures.form)))
    (c.requires.spaces c.args.at c.requires.there) c.requires.single (c.in-Err-Wide.ensures.wide (ap Err c.in-Err-Wide.field-0-is))

pub returns-clause-cut : goal.returns-clause-cut
returns-clause-cut g c =
    let f = g.F.Field.field in
    let v = g.F.Field.value in
    let act = g.G.Acts.action c.args.given.now.acts.now in
    let keys = c.args.held.now.keys in
    let old = exact_forms f.laws v keys in
    let new = exact_forms f.laws v c.put.new.held.keys in
    let x = c.cut_form.new.form in
    let at_space = c.index.ensures ∙ ap Some (sym c.form.ensures.form) in
    let at_by = c.index-2.ensures ∙ ap Some (sym c.form-2.ensures.form) in
    let whole : IsWholeForm f.laws v act.dim x = subst (λ (n : ℕ). IsWholeForm f.laws v n x) c.requires.room c.in-Ok.ensures.form in
    let cut = c.in-Ok.ensures.cut in
    ok-map c.put.result (λ p. IsPut old (exact_rows f.laws v x.rows) new p) (λ p. IsCutAt f.laws act old c.args.at c.args.k new p)
    (λ p put. cut-at f v act keys c.put.new.held.keys c.args.at c.args.k p c.form.result.now c.form-2.result.now x
    (exact-at f.laws v keys c.args.at c.form.result.now at_space)
    (exact-at f.laws v keys c.args.k c.form-2.result.now at_by)
    (whole-at f.laws v act.dim keys c.args.at c.form.result.now c.requires.held.whole at_space)
    (whole-at f.laws v act.dim keys c.args.k c.form-2.result.now c.requires.held.whole at_by)
    whole cut put) c.put.ensures.put

pub returns-clause-many : goal.returns-clause-many
returns-clause-many g c e =
    let f = g.F.Field.field in
    let v = g.F.Field.value in
    let act = g.G.Acts.action c.args.given.now.acts.now in
    let tells = equality-told f v g.F.PartialEq.eq g.F.Ord.cmp g.met.F.Ord.matches_eq g.met.F.Field.value_cmp in
    let keys = c.args.held.now.keys in
    let old = exact_forms f.laws v keys in
    let new = exact_forms f.laws v c.put.new.held.keys in
    let x = c.cut_form.new.form in
    let at_space = c.index.ensures ∙ ap Some (sym c.form.ensures.form) in
    let at_by = c.index-2.ensures ∙ ap Some (sym c.form-2.ensures.form) in
    let whole : IsWholeForm f.laws v act.dim x = subst (λ (n : ℕ). IsWholeForm f.laws v n x) c.requires.room c.in-Ok.ensures.form in
    let cut = c.in-Ok.ensures.cut in
    let many = c.put.ensures.many e in
    let made : IsCutAt f.laws act old c.args.at c.args.k new many.1.0 = cut-at f v act keys c.put.new.held.keys c.args.at c.args.k many.1.0 c.form.result.now c.form-2.result.now x
    (exact-at f.laws v keys c.args.at c.form.result.now at_space)
    (exact-at f.laws v keys c.args.k c.form-2.result.now at_by)
    (whole-at f.laws v act.dim keys c.args.at c.form.result.now c.requires.held.whole at_space)
    (whole-at f.laws v act.dim keys c.args.k c.form-2.result.now c.requires.held.whole at_by)
    whole cut many.1.1 in
    let n = exact-length f.laws v keys in
    held-more f v g.F.PartialEq.eq tells act c.dim.result c.args.given.now.limit c.put.new.held.keys c.put.ensures.held many.0
    (put-all f act (IsFixSpace f.laws act) old new made.0 many.1.0 made.1.1.1 (λ i l. let m : i < length keys = omega arith in c.requires.spaces i m)
    (cut-fixed f act (form_at old c.args.at) (form_at old c.args.k) made.0 (c.requires.spaces c.args.at c.requires.there) c.requires.single made.1.0 made.1.1.0))
