use Rattle.std.proofs.Common.{◌≡◌, ◌↔◌, ℕ, true, refl, sym, ◌∙◌, ap, subst, List, ◌∷◌, map, length}
use Rattle.lin_alg.specs.declared.echelon.Grew.TheVariants.{Yes}
use Rattle.lin_alg.specs.Spans.{row_vectors, IsInSpan}
use Rattle.lin_alg.specs.Rows.{exact_rows, vector, HaveWidth, HaveLength}
use Rattle.lin_alg.specs.Equations.{dot, Vanishes}
use Rattle.lin_alg.specs.Insertion.{IsWideInsert}
use Rattle.lin_alg.proofs.RowLemmas.{reduced-ended}
use Rattle.lin_alg.proofs.HeldLemmas.{inserted_echelon, inserted_span, inserted_grew, inserted_cut}
use Rattle.lin_alg.proofs.echelon.Echelon.insert.Goals as goal

pub insert_row-requires-clause-ended : goal.insert_row-requires-clause-ended
insert_row-requires-clause-ended g c =
    let f = g.F.Field.field in
    let v = g.F.Field.value in
    let old : List (ℕ × List _) = map (λ r. (r.0, r.1.items)) c.self.inside.lines.items in
    let whole : c.self.inside.whole ≡ true = ap (λ z. z.whole) c.self.view_is ∙ c.in_ok-make_room.ensures.whole ∙ c.requires.whole in
    reduced-ended f v old (c.self.invariant.2.form whole).reduced

pub invariant_of-self : goal.invariant_of-self
invariant_of-self g c =
    let f = g.F.Field.field in
    let v = g.F.Field.value in
    let old : List (ℕ × List _) = map (λ r. (r.0, r.1.items)) c.self.inside.lines.items in
    let new : List (ℕ × List _) = map (λ r. (r.0, r.1.items)) c.insert_row.new.lines.items in
    let width : c.self.inside.width ≡ c.args.self.now.width = ap (λ z. z.width) c.self.view_is ∙ c.in_ok-make_room.ensures.width in
    let spare : List (List _) = map (λ r. r.items) c.insert_row.new.spare.items in
    let w : length c.args.row.now ≡ c.self.inside.width = c.requires.width ∙ sym width in (
      c.in-Ok.ensures.room,
      subst (λ (n : ℕ). HaveLength n spare) w c.in-Ok.ensures.long,
      inserted_echelon f v old new (vector f.laws v c.args.row.now) c.self.inside.width _ _ c.self.inside.whole c.in-Ok.grew c.self.invariant.2 (subst (λ (n : ℕ). HaveWidth n new) w c.in-Ok.ensures.shape) c.in-Ok.ensures.exact,
    )

pub returns-in-Ok-clause-form : goal.returns-in-Ok-clause-form
returns-in-Ok-clause-form g c =
    let f = g.F.Field.field in
    let v = g.F.Field.value in
    let old : List (ℕ × List _) = map (λ r. (r.0, r.1.items)) c.self.inside.lines.items in
    let new : List (ℕ × List _) = map (λ r. (r.0, r.1.items)) c.insert_row.new.lines.items in
    let width : c.self.inside.width ≡ c.args.self.now.width = ap (λ z. z.width) c.self.view_is ∙ c.in_ok-make_room.ensures.width in
    let w : length c.args.row.now ≡ c.self.inside.width = c.requires.width ∙ sym width in
    inserted_echelon f v old new (vector f.laws v c.args.row.now) c.self.inside.width _ _ c.self.inside.whole c.in-Ok.grew c.self.invariant.2 (subst (λ (n : ℕ). HaveWidth n new) w c.in-Ok.ensures.shape) c.in-Ok.ensures.exact

pub returns-in-Ok-clause-span : goal.returns-in-Ok-clause-span
returns-in-Ok-clause-span g c u =
    let f = g.F.Field.field in
    let v = g.F.Field.value in
    let old : List (ℕ × List _) = map (λ r. (r.0, r.1.items)) c.self.inside.lines.items in
    let new : List (ℕ × List _) = map (λ r. (r.0, r.1.items)) c.insert_row.new.lines.items in
    let rows : old ≡ c.args.self.now.rows = ap (λ z. z.rows) c.self.view_is ∙ c.in_ok-make_room.ensures.rows in
    subst (λ (z : List (ℕ × List _)). IsInSpan f.laws (row_vectors (exact_rows f.laws v new)) u ↔ IsInSpan f.laws (vector f.laws v c.args.row.now ∷ row_vectors (exact_rows f.laws v z)) u) rows
    (inserted_span f v old new (vector f.laws v c.args.row.now) c.in-Ok.grew c.in-Ok.ensures.exact u)

pub returns-in-Ok-clause-cut : goal.returns-in-Ok-clause-cut
returns-in-Ok-clause-cut g c u =
    let f = g.F.Field.field in
    let v = g.F.Field.value in
    let old : List (ℕ × List _) = map (λ r. (r.0, r.1.items)) c.self.inside.lines.items in
    let new : List (ℕ × List _) = map (λ r. (r.0, r.1.items)) c.insert_row.new.lines.items in
    let rows : old ≡ c.args.self.now.rows = ap (λ z. z.rows) c.self.view_is ∙ c.in_ok-make_room.ensures.rows in
    let width : c.self.inside.width ≡ c.args.self.now.width = ap (λ z. z.width) c.self.view_is ∙ c.in_ok-make_room.ensures.width in
    subst (λ (z : List (ℕ × List _)). Vanishes f.laws c.self.inside.width (row_vectors (exact_rows f.laws v new)) u ↔ ((dot f.laws c.args.self.now.width (vector f.laws v c.args.row.now) u ≡ f.laws.nought) × Vanishes f.laws c.args.self.now.width (row_vectors (exact_rows f.laws v z)) u)) rows
    (subst (λ (n : ℕ). Vanishes f.laws c.self.inside.width (row_vectors (exact_rows f.laws v new)) u ↔ ((dot f.laws n (vector f.laws v c.args.row.now) u ≡ f.laws.nought) × Vanishes f.laws n (row_vectors (exact_rows f.laws v old)) u)) width
    (inserted_cut f v old new (vector f.laws v c.args.row.now) c.self.inside.width c.in-Ok.grew c.in-Ok.ensures.exact u))

pub returns-in-Ok-clause-grew : goal.returns-in-Ok-clause-grew
returns-in-Ok-clause-grew g c =
    let f = g.F.Field.field in
    let v = g.F.Field.value in
    let old : List (ℕ × List _) = map (λ r. (r.0, r.1.items)) c.self.inside.lines.items in
    let rows : old ≡ c.args.self.now.rows = ap (λ z. z.rows) c.self.view_is ∙ c.in_ok-make_room.ensures.rows in
    let whole : c.self.inside.whole ≡ true = ap (λ z. z.whole) c.self.view_is ∙ c.in_ok-make_room.ensures.whole ∙ c.requires.whole in
    subst (λ (z : List (ℕ × List _)). (c.in-Ok.grew ≡ Yes) ↔ (IsInSpan f.laws (row_vectors (exact_rows f.laws v z)) (vector f.laws v c.args.row.now) → ⊥)) rows
    (inserted_grew f v old _ (vector f.laws v c.args.row.now) c.in-Ok.grew (c.self.invariant.2.form whole).reduced c.in-Ok.ensures.exact)

pub returns-in-Err-clause-wide : goal.returns-in-Err-clause-wide
returns-in-Err-clause-wide g c _ =
    let f = g.F.Field.field in
    let v = g.F.Field.value in
    let old : List (ℕ × List _) = map (λ r. (r.0, r.1.items)) c.self.inside.lines.items in
    let rows : old ≡ c.args.self.now.rows = ap (λ z. z.rows) c.self.view_is ∙ c.in_ok-make_room.ensures.rows in
    (refl, subst (λ (z : List (ℕ × List _)). IsWideInsert f (exact_rows f.laws v z) (vector f.laws v c.args.row.now)) rows c.in-Err.ensures.wide)
