use Rattle.std.proofs.Common.{◌≡◌, ◌<◌, ◌+◌, ◌*◌, ℕ, inl, ◌∙◌, ap, subst, arith, length}
use Rattle.std.specs.Prelude.{Err, slice_index}
use Rattle.lin_alg.specs.declared.errors.LinError.TheVariants.{Wide}
use Rattle.mode_project.specs.AtomSpace.{size_of}
use Rattle.mode_project.specs.Parts.{rows_in, row_in, image_row, HoldsSpan}
use Rattle.mode_project.specs.Wide.{left_row}
use Rattle.mode_project.proofs.LeftCode.{vectors-as}
use Rattle.mode_project.proofs.left.insert_element.Goals as goal

pub loop-i-init : goal.loop-i-init
loop-i-init g c =
    let f = g.F.Field.field.laws in
    let value = g.F.Field.value in
    let s = g.S.OfSpace.space in
    let e : c.args.n * size_of s ≡ c.args.n * size_of s + 0 = omega arith in
    subst (λ (k : ℕ). HoldsSpan f value (length c.args.rows.now) (left_row f s c.args.stab.now (row_in f value (rows_in c.args.rows.now))) k c.args.form.now) e c.requires.held

pub returns-in-Err-clause-wide : goal.returns-in-Err-clause-wide
returns-in-Err-clause-wide g c w =
    let bad = c.in-Err.ensures.wide (ap Err (let k : c.in-Err.error ≡ Wide = cc in k)) in
    inl (c.args.n, bad.0, c.requires.element, bad.1, inl bad.2)

pub insert_left-requires-clause-images : goal.insert_left-requires-clause-images
insert_left-requires-clause-images g c =
    let f = g.F.Field.field.laws in
    let value = g.F.Field.value in
    let s = g.S.OfSpace.space in
    vectors-as f value (size_of s) (λ k. image_row f s (slice_index c.args.stab.now c.args.n) (row_in f value (rows_in c.args.rows.now) k)) (length c.args.rows.now) c.in-Ok.images.items c.deref.result.now c.deref.ensures.value c.in-Ok.ensures.rows

pub insert_left-requires-clause-column : goal.insert_left-requires-clause-column
insert_left-requires-clause-column g c =
    subst (λ (n : ℕ). c.loop-i.i < n) (λ z. (c.atoms.ensures.value ∙ c.requires.orbit.atoms) z * c.requires.table.each z) c.loop-i-test.true

pub returns-clause-held : goal.returns-clause-held
returns-clause-held g c =
    let f = g.F.Field.field.laws in
    let value = g.F.Field.value in
    let s = g.S.OfSpace.space in
    let ends : c.loop-i.i ≡ c.atoms.result * c.args.turns.now.each = omega (arith, c.loop-i-test.false, c.loop-i.auto.i-end) in
    let e : c.args.n * size_of s + c.loop-i.i ≡ (c.args.n + 1) * size_of s =
    ap (λ k. c.args.n * size_of s + k) (ends ∙ (λ z. (c.atoms.ensures.value ∙ c.requires.orbit.atoms) z * c.requires.table.each z)) ∙ next c.args.n (size_of s) in
    subst (λ (k : ℕ). HoldsSpan f value (length c.args.rows.now) (left_row f s c.args.stab.now (row_in f value (rows_in c.args.rows.now))) k c.loop-i.form) e c.loop-i.invariant
  where
    next : (i c : ℕ) → i * c + c ≡ (i + 1) * c
    next i c = grind arith
