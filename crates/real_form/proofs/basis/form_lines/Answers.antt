use Rattle.std.proofs.Common.{ℕ, ◌<◌, ◌≤◌, ◌∙◌, arith, List, [], length}
use Rattle.std.specs.Prelude.{slice_index_or}
use Rattle.std.proofs.lemmas.List.{take_all}
use Rattle.cyclo24.specs.declared.k24.K24.{K24}
use Rattle.real_form.proofs.FirstLemmas.{at-any}
use Rattle.real_form.proofs.LineLemmas.{copied-next}
use Rattle.real_form.proofs.basis.form_lines.Goals as goal

pub loop-i-preserved : goal.loop-i-preserved
loop-i-preserved c =
    let rows = c.args.form.now.rows in
    let i = c.loop-i.i in
    let none : ℕ × List K24 = (0, []) in
    let y : ℕ × List K24 = slice_index_or rows i none in
    let l : i < length rows = omega (arith, c.loop-i-test.true, c.len-i-end.ensures) in
    copied-next (λ r. (r.0, r.1.items)) rows c.push.new.self.items c.loop-i.lines.items (c.pivot.result, c.in_ok-row.row) i y c.in-Ok.ensures.items
    (λ t. (c.pivot.ensures t, (c.in_ok-row.ensures.items ∙ c.row.ensures) t)) l (at-any rows i none y l) c.loop-i.invariant

pub returns : goal.returns
returns c =
    let rows = c.args.form.now.rows in
    let l : length rows ≤ c.loop-i.i = omega (arith, c.loop-i-test.false, c.len-i-end.ensures) in
    c.loop-i.invariant ∙ take_all c.loop-i.i rows l
