use Rattle.std.proofs.Common.{◌≡◌, ◌<◌, ◌≤◌, ◌-◌, ◌*◌, ℕ, sym, ◌∙◌, subst, arith, length}
use Rattle.lin_alg.specs.FormLaws.{form-length}
use Rattle.lin_alg.specs.Matrix.{entry}
use Rattle.lin_alg.specs.Rows.{exact_rows}
use Rattle.mode_project.specs.AtomSpace.{size_of}
use Rattle.mode_project.specs.DirectionParts.{combined, IsWideCombined}
use Rattle.mode_project.specs.Parts.{rows_in, row_in, HoldsSpan}
use Rattle.mode_project.proofs.DirectionLemmas.{direction-modes, combined-wide, left-wide, few-numbers, few-entries, rows-count, rows-same}
use Rattle.mode_project.proofs.JointLemmas.{exact-length}
use Rattle.mode_project.proofs.VectorsLemmas.{rows-length}
use Rattle.mode_project.proofs.direction.left_of_rows.Goals as goal

pub left_form-requires-clause-long : goal.left_form-requires-clause-long
left_form-requires-clause-long g c k l =
    let n : length c.args.rows.now ≡ length c.args.range.now.rows = sym (rows-length c.args.rows.now) ∙ c.requires.rows.count in
    c.requires.rows.long k (subst (λ (i : ℕ). k < i) n l) ∙ c.requires.width

pub returns-in-Err-clause-wide : goal.returns-in-Err-clause-wide
returns-in-Err-clause-wide g c w =
    let f = g.F.Field.field in
    let value = g.F.Field.value in
    let bs = exact_rows f.laws value c.args.range.now.rows in
    left-wide f g.S.OfSpace.space c.args.stab.now bs (length c.args.rows.now) (row_in f.laws value (rows_in c.args.rows.now))
    (sym (rows-length c.args.rows.now) ∙ rows-count f value c.args.range.now.width c.args.range.now.rows (rows_in c.args.rows.now) c.requires.rows)
    (rows-same f value c.args.range.now.width c.args.range.now.rows (rows_in c.args.rows.now) c.requires.rows) (c.in-Err.ensures.wide w)

pub free_basis-requires-clause-small : goal.free_basis-requires-clause-small
free_basis-requires-clause-small g c =
    let f = g.F.Field.field in
    let value = g.F.Field.value in
    let s = g.S.OfSpace.space in
    let range = c.args.range.now in
    let n : length c.args.rows.now ≡ length range.rows = sym (rows-length c.args.rows.now) ∙ c.requires.rows.count in
    let few : s.atoms ≤ 384 = omega (arith, c.atoms-atoms.ensures.value, c.atoms-atoms.ensures.few, c.requires.orbit.atoms) in
    let all : s.atoms * s.each ≤ 1152 = few-numbers s.atoms s.each few c.requires.table.few in
    let rows : length (exact_rows f.laws value range.rows) ≤ range.width = form-length f.laws range.width (exact_rows f.laws value range.rows) (c.is_whole-whole.ensures.form.form c.requires.whole) in
    let exact = exact-length f.laws value range.rows in
    let wide : range.width ≡ s.atoms * s.each = c.requires.width in
    let width : c.in-Ok.lefts.width ≡ length c.args.rows.now = c.in-Ok.ensures.held.width in
    let small : c.in-Ok.lefts.width ≤ 1152 = omega (arith, n, all, rows, exact, wide, width) in
    few-entries (c.in-Ok.lefts.width - length c.in-Ok.lefts.rows) c.in-Ok.lefts.width (omega arith) small

pub combined_form-requires-clause-long : goal.combined_form-requires-clause-long
combined_form-requires-clause-long g c k l =
    let n : length c.args.rows.now ≡ length c.args.range.now.rows = sym (rows-length c.args.rows.now) ∙ c.requires.rows.count in
    c.requires.rows.long k (subst (λ (i : ℕ). k < i) n l) ∙ sym c.width.ensures

pub returns-in-Ok-combined_form-clause-left : goal.returns-in-Ok-combined_form-clause-left
returns-in-Ok-combined_form-clause-left g c w range =
    let f = g.F.Field.field in
    let value = g.F.Field.value in
    let s = g.S.OfSpace.space in
    let rows = rows_in c.args.rows.now in
    let m = length c.args.rows.now in
    let b = row_in f.laws value rows in
    let x = c.in_ok-basis.basis in
    let form = c.in-Ok-combined_form.form in
    let held : HoldsSpan f.laws value (size_of s) (combined f.laws m (entry f.laws value x) b) x.rows form =
    subst (λ (d : ℕ). HoldsSpan f.laws value d (combined f.laws m (entry f.laws value x) b) x.rows form) (c.width.ensures ∙ c.requires.width) c.in-Ok-combined_form.ensures.held in
    direction-modes f value s c.args.stab.now (exact_rows f.laws value c.args.range.now.rows) c.in-Ok.lefts x m b
    (sym (rows-length c.args.rows.now) ∙ rows-count f value c.args.range.now.width c.args.range.now.rows rows c.requires.rows)
    (rows-same f value c.args.range.now.width c.args.range.now.rows rows c.requires.rows)
    c.in-Ok.ensures.held c.in_ok-basis.ensures.rows c.in_ok-basis.ensures.vectors form held w range

pub returns-clause-wide : goal.returns-clause-wide
returns-clause-wide g c w =
    let f = g.F.Field.field in
    let value = g.F.Field.value in
    let s = g.S.OfSpace.space in
    let rows = rows_in c.args.rows.now in
    let m = length c.args.rows.now in
    let b = row_in f.laws value rows in
    let x = c.in_ok-basis.basis in
    let bad : IsWideCombined f (size_of s) x.rows m (entry f.laws value x) b =
    subst (λ (d : ℕ). IsWideCombined f d x.rows m (entry f.laws value x) b) (c.width.ensures ∙ c.requires.width) (c.in-Err-combined_form.ensures.wide w) in
    combined-wide f value s c.args.stab.now (exact_rows f.laws value c.args.range.now.rows) c.in-Ok.lefts x m b
    (sym (rows-length c.args.rows.now) ∙ rows-count f value c.args.range.now.width c.args.range.now.rows rows c.requires.rows)
    (rows-same f value c.args.range.now.width c.args.range.now.rows rows c.requires.rows)
    c.in-Ok.ensures.held c.in_ok-basis.ensures.rows c.in_ok-basis.ensures.vectors bad
