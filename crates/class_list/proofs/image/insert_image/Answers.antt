use Rattle.std.proofs.Common.{◌≡◌, ◌↔◌, ℕ, Err, inr, ap, subst}
use Rattle.lin_alg.specs.Equations.{dot, Vanishes}
use Rattle.lin_alg.specs.Insertion.{IsWideInsert}
use Rattle.lin_alg.specs.Rows.{vector, exact_rows}
use Rattle.lin_alg.specs.Spans.{row_vectors}
use Rattle.class_list.proofs.image.insert_image.Goals as goal

pub returns-in-Ok-insert-clause-cut : goal.returns-in-Ok-insert-clause-cut
returns-in-Ok-insert-clause-cut g c v =
    let f = g.F.Field.field in
    let value = g.F.Field.value in
    let act = g.G.Acts.action c.args.acts.now in
    let new = exact_rows f.laws value c.insert.new.self.rows in
    let old = exact_rows f.laws value c.args.out.now.rows in
    let w : c.args.out.now.width ≡ act.dim = c.requires.out.width in
    let P : ℕ → ℕ → (ℕ → _) → Type 0 = λ n m x. Vanishes f.laws n (row_vectors new) v ↔ ((dot f.laws m x v ≡ f.laws.nought) × Vanishes f.laws m (row_vectors old) v) in
    let row = vector f.laws value c.image_row.new.into in
    let one : P c.args.out.now.width c.args.out.now.width row = subst (λ (n : ℕ). P n c.args.out.now.width row) c.in-Ok-insert.ensures.width (c.in-Ok-insert.ensures.cut v) in
    let two : P act.dim act.dim row = subst (λ (n : ℕ). P n n row) w one in
    subst (λ (x : ℕ → _). P act.dim act.dim x) c.in-Ok.ensures.exact two

pub returns-in-Err-Wide-clause-wide : goal.returns-in-Err-Wide-clause-wide
returns-in-Err-Wide-clause-wide g c _ =
    let f = g.F.Field.field in
    let value = g.F.Field.value in
    let old = exact_rows f.laws value c.args.out.now.rows in
    inr (inr (subst (λ (x : ℕ → _). IsWideInsert f old x) c.in-Ok.ensures.exact (c.in-Err-Wide.ensures.wide (ap Err c.in-Err-Wide.field-0-is)).1))
