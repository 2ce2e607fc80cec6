use Rattle.std.proofs.Common.{[], ◌∷◌, inl, inr, ap, Err}
use Rattle.lin_alg.specs.Fixed.{IsFixForm}
use Rattle.lin_alg.specs.Rows.{exact_rows}
use Rattle.lin_alg.specs.RowLaws.{equality-told}
use Rattle.fix_lattice.specs.Held.{IsFixSpace, IsPut, IsSingleAt}
use Rattle.fix_lattice.proofs.HeldLemmas.{put-all, single-fix}
use Rattle.fix_lattice.specs.Lattice.{form_at}
use Rattle.fix_lattice.specs.Subspaces.{exact_forms}
use Rattle.fix_lattice.proofs.CountLemmas.{held-more}
use Rattle.fix_lattice.proofs.CutLemmas.{ok-map}
use Rattle.fix_lattice.proofs.singles.hold_single.Goals as goal

pub returns-in-Err-Wide-clause-wide : goal.returns-in-Err-Wide-clause-wide
returns-in-Err-Wide-clause-wide g c e =
    elim (c.in-Err-Wide.ensures.wide (ap Err c.in-Err-Wide.field-0-is)) [
      | inl w ↦ inl w
      | inr (inl d) ↦ inr (c.args.q, c.requires.element, inl d)
      | inr (inr h) ↦ inr (c.args.q, c.requires.element, inr (inl h))
    ]

pub returns-clause-put : goal.returns-clause-put
returns-clause-put g c =
    let f = g.F.Field.field in
    let v = g.F.Field.value in
    let act = g.G.Acts.action c.args.acts.now in
    let fixes : IsFixForm f.laws act (c.args.q ∷ []) (exact_rows f.laws v c.fix_form.new.form.rows) = c.in-Ok.ensures.fixes in
    let old = exact_forms f.laws v c.args.held.now.keys in
    let new = exact_forms f.laws v c.put.new.held.keys in
    ok-map c.put.result (λ p. IsPut old (exact_rows f.laws v c.fix_form.new.form.rows) new p) (λ p. IsSingleAt f.laws act c.args.q old new p) (λ p put. (exact_rows f.laws v c.fix_form.new.form.rows, (fixes, put))) c.put.ensures.put

pub returns-clause-many : goal.returns-clause-many
returns-clause-many g c e =
    let f = g.F.Field.field in
    let v = g.F.Field.value in
    let act = g.G.Acts.action c.args.acts.now in
    let tells = equality-told f v g.F.PartialEq.eq g.F.Ord.cmp g.met.F.Ord.matches_eq g.met.F.Field.value_cmp in
    let fixes : IsFixForm f.laws act (c.args.q ∷ []) (exact_rows f.laws v c.fix_form.new.form.rows) = c.in-Ok.ensures.fixes in
    let old = exact_forms f.laws v c.args.held.now.keys in
    let new = exact_forms f.laws v c.put.new.held.keys in
    let x = exact_rows f.laws v c.fix_form.new.form.rows in
    let many = c.put.ensures.many e in
    held-more f v g.F.PartialEq.eq tells act c.dim.result c.args.limit c.put.new.held.keys c.put.ensures.held many.0
    (put-all f act (IsFixSpace f.laws act) old new x many.1.0 many.1.1 (λ i l. single-fix f act (form_at old i) (c.requires.singles i l)) (single-fix f act x (c.args.q, (c.requires.element, fixes))))
