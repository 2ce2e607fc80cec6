use Rattle.std.proofs.Common.{◌≡◌, ◌↔◌, ◌<◌, ℕ, sym, ◌∙◌, ap, subst, arith, add-one, length}
use Rattle.fix_lattice.specs.Lattice.{IsInSpace}
use Rattle.lin_alg.specs.FormLaws.{form-length}
use Rattle.lin_alg.specs.Insertion.{IsWideInsert}
use Rattle.lin_alg.specs.Reduced.{IsForm}
use Rattle.lin_alg.specs.Rows.{exact_rows, vector, HaveWidth}
use Rattle.fix_lattice.specs.Subspaces.{IsWholeForm}
use Rattle.fix_lattice.specs.Wide.{IsFormAfter, row_of}
use Rattle.fix_lattice.proofs.FormLemmas.{same-error}
use Rattle.fix_lattice.proofs.InsertLemmas.{after-none, after-more, each-vanishes, row-width, row-exact, rows-length, cut-read}
use Rattle.fix_lattice.proofs.cutting.cut_form.Goals as goal
use Rattle.fix_lattice.specs.FormLaws.{whole-form}

pub copy_from_slice-requires : goal.copy_from_slice-requires
copy_from_slice-requires g c =
    let by = c.requires.by in
    let shape : HaveWidth (length c.args.row.now) c.args.by.now.rows = subst (λ (n : ℕ). HaveWidth n c.args.by.now.rows) by.width by.form.shape in
    let l : c.loop-i.i < length c.args.by.now.rows = subst (λ (n : ℕ). c.loop-i.i < n) c.len-i-end.ensures c.loop-i-test.true in
    c.loop-i.auto.row ∙ sym (ap length c.row.ensures ∙ row-width g.F.Field.field g.F.Field.value (length c.args.row.now) c.args.by.now.rows c.loop-i.i shape l)

pub insert-requires-clause-whole : goal.insert-requires-clause-whole
insert-requires-clause-whole g c = c.loop-i.invariant.whole.whole

pub insert-requires-clause-width : goal.insert-requires-clause-width
insert-requires-clause-width g c = c.copy_from_slice.ensures.len ∙ c.loop-i.auto.row ∙ sym c.loop-i.invariant.whole.width

pub returns-in-Err-clause-wide : goal.returns-in-Err-clause-wide
returns-in-Err-clause-wide g c e =
    let f = g.F.Field.field in
    let v = g.F.Field.value in
    let l : c.loop-i.i < length c.args.by.now.rows = subst (λ (n : ℕ). c.loop-i.i < n) c.len-i-end.ensures c.loop-i-test.true in
    let n : length (exact_rows f.laws v c.args.by.now.rows) ≡ length c.args.by.now.rows = rows-length f v c.args.by.now.rows in
    let m : c.loop-i.i < length (exact_rows f.laws v c.args.by.now.rows) = omega arith in
    let row : vector f.laws v c.copy_from_slice.new.self ≡ row_of f.laws (exact_rows f.laws v c.args.by.now.rows) c.loop-i.i =
    ap (vector f.laws v) (c.copy_from_slice.ensures.after ∙ c.row.ensures) ∙ row-exact f v c.args.by.now.rows c.loop-i.i in
    (c.loop-i.i, m, exact_rows f.laws v c.loop-i.form.rows, c.loop-i.invariant.after, subst (IsWideInsert f (exact_rows f.laws v c.loop-i.form.rows)) row (c.in-Err.ensures.wide (same-error _ _ e)).1)

pub loop-i-init : goal.loop-i-init
loop-i-init g c =
    let f = g.F.Field.field in
    let v = g.F.Field.value in
    let space = c.requires.space in
    let copied = c.in_ok-copy_from.ensures in
    let w = length c.args.row.now in
    let rows : exact_rows f.laws v c.args.space.now.rows ≡ exact_rows f.laws v c.copy_from.new.self.rows = ap (exact_rows f.laws v) (sym copied.rows) in
    let form : IsForm f.laws w (exact_rows f.laws v c.args.space.now.rows) = whole-form f.laws v w c.args.space.now space in
    record {
      whole = record { width = copied.width ∙ space.width; whole = copied.whole ∙ space.whole; form = copied.form };
      after = subst (IsFormAfter f.laws w (exact_rows f.laws v c.args.space.now.rows) (row_of f.laws (exact_rows f.laws v c.args.by.now.rows)) 0) rows
          (after-none f.laws w (exact_rows f.laws v c.args.space.now.rows) (row_of f.laws (exact_rows f.laws v c.args.by.now.rows)) form);
      cost = omega arith;
    }

pub loop-i-preserved : goal.loop-i-preserved
loop-i-preserved g c =
    let f = g.F.Field.field in
    let v = g.F.Field.value in
    let t = c.loop-i.invariant in
    let cost = t.cost in
    let more = c.in-Ok.ensures.cost in
    let w = length c.args.row.now in
    let us = exact_rows f.laws v c.args.space.now.rows in
    let es = exact_rows f.laws v c.args.by.now.rows in
    let row : vector f.laws v c.copy_from_slice.new.self ≡ row_of f.laws es c.loop-i.i =
    ap (vector f.laws v) (c.copy_from_slice.ensures.after ∙ c.row.ensures) ∙ row-exact f v c.args.by.now.rows c.loop-i.i in
    let width : c.insert.new.self.width ≡ w = c.in-Ok.ensures.width ∙ t.whole.width in
    let whole : IsWholeForm f.laws v w c.insert.new.self = record { width = width; whole = c.in-Ok.ensures.whole; form = c.in-Ok.ensures.form } in
    record {
      whole = whole;
      after = subst (λ (k : ℕ). IsFormAfter f.laws w us (row_of f.laws es) k (exact_rows f.laws v c.insert.new.self.rows)) (sym (add-one c.loop-i.i))
          (after-more f.laws w us (row_of f.laws es) c.loop-i.i (exact_rows f.laws v c.loop-i.form.rows) (exact_rows f.laws v c.insert.new.self.rows) t.after
          (whole-form f.laws v w c.insert.new.self whole)
          (λ u. cut-read f.laws w c.insert.new.self.width c.loop-i.form.width (exact_rows f.laws v c.loop-i.form.rows) (exact_rows f.laws v c.insert.new.self.rows) (vector f.laws v c.copy_from_slice.new.self) (row_of f.laws es c.loop-i.i) u width t.whole.width row (c.in-Ok.ensures.cut u)));
      cost = omega arith;
    }

pub returns-clause-cut : goal.returns-clause-cut
returns-clause-cut g c u =
    let f = g.F.Field.field in
    let v = g.F.Field.value in
    let t = c.loop-i.invariant in
    let w = length c.args.row.now in
    let us = exact_rows f.laws v c.args.space.now.rows in
    let es = exact_rows f.laws v c.args.by.now.rows in
    let new = exact_rows f.laws v c.loop-i.form.rows in
    let n : length es ≡ length c.args.by.now.rows = rows-length f v c.args.by.now.rows in
    let e : c.loop-i.i ≡ length es = omega (arith, c.loop-i-test.false, c.loop-i.auto.i-end, c.len-i-end.ensures) in
    let after = subst (λ (k : ℕ). IsFormAfter f.laws w us (row_of f.laws es) k new) e t.after in
    let each = each-vanishes f.laws w us (row_of f.laws es) es u in
    let both : IsInSpace f.laws w new u ↔ (IsInSpace f.laws w es u × IsInSpace f.laws w us u) = (
      λ h. let z = (after.vanishes u).0 h in (each.0 z.0, z.1),
      λ h. (after.vanishes u).1 (each.1 h.0, h.1),
    ) in
    subst (λ (z : ℕ). IsInSpace f.laws z new u ↔ (IsInSpace f.laws c.args.by.now.width es u × IsInSpace f.laws c.args.space.now.width us u)) (sym t.whole.width)
    (subst (λ (z : ℕ). IsInSpace f.laws w new u ↔ (IsInSpace f.laws z es u × IsInSpace f.laws c.args.space.now.width us u)) (sym c.requires.by.width)
    (subst (λ (z : ℕ). IsInSpace f.laws w new u ↔ (IsInSpace f.laws w es u × IsInSpace f.laws z us u)) (sym c.requires.space.width) both))

pub returns-in-Err-clause-cost : goal.returns-in-Err-clause-cost
returns-in-Err-clause-cost g c =
    let f = g.F.Field.field in
    let v = g.F.Field.value in
    let cost = c.loop-i.invariant.cost in
    let more = c.in-Err.ensures.cost in
    let n = rows-length f v c.args.by.now.rows in
    let few = form-length f.laws (length c.args.row.now) (exact_rows f.laws v c.args.by.now.rows) (whole-form f.laws v (length c.args.row.now) c.args.by.now c.requires.by) in
    omega (arith, c.loop-i-test.true, c.len-i-end.ensures)

pub returns-clause-cost : goal.returns-clause-cost
returns-clause-cost g c =
    let f = g.F.Field.field in
    let v = g.F.Field.value in
    let cost = c.loop-i.invariant.cost in
    let n = rows-length f v c.args.by.now.rows in
    let few = form-length f.laws (length c.args.row.now) (exact_rows f.laws v c.args.by.now.rows) (whole-form f.laws v (length c.args.row.now) c.args.by.now c.requires.by) in
    omega (arith, c.loop-i.auto.i-end, c.len-i-end.ensures)
