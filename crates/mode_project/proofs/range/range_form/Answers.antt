use Rattle.std.proofs.Common.{◌≡◌, ◌<◌, ℕ, inl, sym, ◌∙◌, ap, subst, length, []}
use Rattle.std.specs.Prelude.{Err, slice_index_or}
use Rattle.lin_alg.specs.Rows.{vector}
use Rattle.lin_alg.specs.declared.errors.LinError.TheVariants.{Wide}
use Rattle.mode_project.specs.AtomSpace.{size_of}
use Rattle.mode_project.specs.Parts.{rows_in, row_in, AreVectors}
use Rattle.mode_project.specs.Projection.{projection, column_of}
use Rattle.mode_project.proofs.RangeLemmas.{spread-range, spread-wide}
use Rattle.mode_project.proofs.VectorsLemmas.{rows-length}
use Rattle.mode_project.proofs.range.range_form.Goals as goal

pub returns-in-Err-clause-wide : goal.returns-in-Err-clause-wide
returns-in-Err-clause-wide g c w = inl (c.in-Err.ensures.wide (ap Err (let k : c.in-Err.error ≡ Wide = cc in k)))

pub spread_form-requires-clause-count : goal.spread_form-requires-clause-count
spread_form-requires-clause-count g c = ap length c.deref-2.ensures.value ∙ sym (rows-length c.in-Ok.columns.items) ∙ c.in-Ok.ensures.columns.count

pub spread_form-requires-clause-long : goal.spread_form-requires-clause-long
spread_form-requires-clause-long g c b l =
    ap (λ xs. length (slice_index_or (rows_in xs) b [])) c.deref-2.ensures.value
    ∙ c.in-Ok.ensures.columns.long b (subst (λ (n : ℕ). b < n) (ap length c.deref-2.ensures.value ∙ sym (rows-length c.in-Ok.columns.items) ∙ c.in-Ok.ensures.columns.count) l)

pub returns-in-Ok-spread_form-clause-width : goal.returns-in-Ok-spread_form-clause-width
returns-in-Ok-spread_form-clause-width g c = c.in-Ok-spread_form.ensures.held.width

pub returns-in-Ok-spread_form-clause-whole : goal.returns-in-Ok-spread_form-clause-whole
returns-in-Ok-spread_form-clause-whole g c = c.in-Ok-spread_form.ensures.held.whole

pub returns-in-Ok-spread_form-clause-form : goal.returns-in-Ok-spread_form-clause-form
returns-in-Ok-spread_form-clause-form g c = c.in-Ok-spread_form.ensures.held.shape

pub returns-in-Ok-spread_form-clause-range : goal.returns-in-Ok-spread_form-clause-range
returns-in-Ok-spread_form-clause-range g c =
    let s = g.S.OfSpace.space in
    let f = g.F.Field.field in
    let value = g.F.Field.value in
    spread-range f s c.requires.laws (vector f.laws value c.args.weights.now) c.requires.class c.args.ways.now c.requires.ways _
    (λ b l. ap (λ xs. row_in f.laws value (rows_in xs) b) c.deref-2.ensures.value ∙ c.in-Ok.ensures.columns.exact b l) value c.in-Ok-spread_form.form c.in-Ok-spread_form.ensures.held

pub returns-clause-wide : goal.returns-clause-wide
returns-clause-wide g c w =
    let s = g.S.OfSpace.space in
    let f = g.F.Field.field in
    let value = g.F.Field.value in
    spread-wide f s c.requires.laws (vector f.laws value c.args.weights.now) c.requires.class c.args.ways.now c.requires.ways _
    (λ b l. ap (λ xs. row_in f.laws value (rows_in xs) b) c.deref-2.ensures.value ∙ c.in-Ok.ensures.columns.exact b l) (c.in-Err-spread_form.ensures.wide w)

pub quick_form-requires-clause-columns : goal.quick_form-requires-clause-columns
quick_form-requires-clause-columns g c =
    let s = g.S.OfSpace.space in
    let f = g.F.Field.field.laws in
    let value = g.F.Field.value in
    subst (λ xs. AreVectors f value (size_of s) (column_of f (size_of s) (projection f s (vector f value c.args.weights.now))) (rows_in xs) s.each) (sym c.deref.ensures.value) c.in-Ok.ensures.columns
