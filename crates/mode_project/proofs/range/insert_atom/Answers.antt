use Rattle.std.proofs.Common.{◌≡◌, ◌<◌, ◌+◌, ◌*◌, ℕ, inl, inr, sym, ◌∙◌, ap, subst, arith, length}
use Rattle.std.specs.Prelude.{Err, slice_index_or}
use Rattle.lin_alg.specs.declared.errors.LinError.TheVariants.{Wide}
use Rattle.mode_project.specs.AtomSpace.{size_of}
use Rattle.mode_project.specs.Parts.{rows_in, row_in, image_row, spread, AreVectors, HoldsSpan}
use Rattle.mode_project.proofs.range.insert_atom.Goals as goal

pub loop-a-init : goal.loop-a-init
loop-a-init g c =
    let s = g.S.OfSpace.space in
    let f = g.F.Field.field.laws in
    let value = g.F.Field.value in
    let e : c.args.i * s.each ≡ c.args.i * s.each + 0 = omega arith in
    subst (λ (n : ℕ). HoldsSpan f value (size_of s) (spread f s c.args.ways.now (row_in f value (rows_in c.args.columns.now))) n c.args.form.now) e c.requires.held

pub returns-in-Err-clause-wide : goal.returns-in-Err-clause-wide
returns-in-Err-clause-wide g c w =
    let way = slice_index_or c.args.ways.now c.args.i (0, 0) in
    let own = c.requires.ways.each c.args.i c.requires.atom in
    let bad = c.in-Err.ensures.wide (ap Err (let k : c.in-Err.error ≡ Wide = cc in k)) in
    inl (way.0, bad.0, own.below, subst (λ (n : ℕ). bad.0 < n) c.requires.count bad.1, bad.2)

pub returns-in-Err-insert_turned-clause-wide : goal.returns-in-Err-insert_turned-clause-wide
returns-in-Err-insert_turned-clause-wide g c w = inr (c.in-Err-insert_turned.ensures.wide w)

pub loop-a-preserved : goal.loop-a-preserved
loop-a-preserved g c = c.in-Ok-insert_turned.ensures.held

pub returns-clause-held : goal.returns-clause-held
returns-clause-held g c =
    let s = g.S.OfSpace.space in
    let f = g.F.Field.field.laws in
    let value = g.F.Field.value in
    let ends : c.loop-a.a ≡ c.args.turns.now.each = omega (arith, c.loop-a-test.false, c.loop-a.auto.a-end) in
    let e : c.args.i * s.each + c.loop-a.a ≡ (c.args.i + 1) * s.each = ap (λ n. c.args.i * s.each + n) (ends ∙ c.requires.table.each) ∙ next c.args.i s.each in
    subst (λ (n : ℕ). HoldsSpan f value (size_of s) (spread f s c.args.ways.now (row_in f value (rows_in c.args.columns.now))) n c.loop-a.form) e c.loop-a.invariant
  where
    next : (i c : ℕ) → i * c + c ≡ (i + 1) * c
    next i c = grind arith

pub insert_turned-requires-clause-images : goal.insert_turned-requires-clause-images
insert_turned-requires-clause-images g c =
    let s = g.S.OfSpace.space in
    let f = g.F.Field.field.laws in
    let value = g.F.Field.value in
    let target = (λ (b : ℕ). image_row f s (slice_index_or c.args.ways.now c.args.i (0, 0)).0 (row_in f value (rows_in c.args.columns.now) b)) in
    subst (λ (n : ℕ). AreVectors f value (size_of s) target (rows_in c.deref.result.now) n) c.requires.count
    (subst (λ xs. AreVectors f value (size_of s) target (rows_in xs) (length c.args.columns.now)) (sym c.deref.ensures.value) c.in-Ok.ensures.rows)

pub insert_turned-requires-clause-scratch : goal.insert_turned-requires-clause-scratch
insert_turned-requires-clause-scratch g c = c.loop-a.auto.scratch ∙ c.requires.scratch
