use Rattle.std.proofs.Common.{◌≡◌, ◌↔◌, ℕ, subst, inr}
use Rattle.cyclo24.specs.ExactField.{Value}
use Rattle.lin_alg.specs.Equations.{dot}
use Rattle.fix_lattice.specs.Lattice.{IsInSpace}
use Rattle.lin_alg.specs.Insertion.{IsWideInsert}
use Rattle.lin_alg.specs.Rows.{exact_rows, vector}
use Rattle.fix_lattice.proofs.FormLemmas.{same-error}
use Rattle.fix_lattice.proofs.movers.insert_mover.Goals as goal

pub returns-in-Ok-insert-clause-cut : goal.returns-in-Ok-insert-clause-cut
returns-in-Ok-insert-clause-cut g c u =
    let f = g.F.Field.field in
    let v = g.F.Field.value in
    let act = g.G.Acts.action c.args.acts.now in
    subst (λ (x : ℕ → Value f). IsInSpace f.laws c.insert.new.self.width (exact_rows f.laws v c.insert.new.self.rows) u ↔ ((dot f.laws act.dim x u ≡ f.laws.nought) × IsInSpace f.laws c.args.form.now.width (exact_rows f.laws v c.args.form.now.rows) u)) c.in-Ok.ensures.exact
    (subst (λ (n : ℕ). IsInSpace f.laws c.insert.new.self.width (exact_rows f.laws v c.insert.new.self.rows) u ↔ ((dot f.laws n (vector f.laws v c.mover_row.new.into) u ≡ f.laws.nought) × IsInSpace f.laws c.args.form.now.width (exact_rows f.laws v c.args.form.now.rows) u)) c.requires.form.width
    (c.in-Ok-insert.ensures.cut u))

pub returns-in-Err-insert-clause-wide : goal.returns-in-Err-insert-clause-wide
returns-in-Err-insert-clause-wide g c e =
    let f = g.F.Field.field in
    let v = g.F.Field.value in
    inr (inr (subst (IsWideInsert f (exact_rows f.laws v c.args.form.now.rows)) c.in-Ok.ensures.exact (c.in-Err-insert.ensures.wide (same-error _ _ e)).1))
