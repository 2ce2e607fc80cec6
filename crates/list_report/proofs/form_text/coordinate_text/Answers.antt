use Rattle.std.proofs.Common.{◌≡◌, ◌∙◌, sym, ap, refl, subst, ℕ, ◌<◌, List, [], get_or, length, IfOk}
use Rattle.cyclo24.specs.ExactK24.{k24_laws}
use Rattle.cyclo24.specs.K24.{exact24}
use Rattle.lin_alg.specs.Rows.{vector}
use Rattle.list_report.specs.FormText.{sum_text, row_terms}
use Rattle.list_report.proofs.LetterLemmas.{lettered-below}
use Rattle.list_report.proofs.FormTextLemmas.{row-width, coordinate-free, coordinate-pivot}
use Rattle.list_report.proofs.form_text.coordinate_text.Goals as goal

pub sum_text-requires : goal.sum_text-requires
sum_text-requires c = λ k d l.
    let rows = c.args.rows.now.rows in
    let w = c.args.rows.now.width in
    let size : length c.row.result.now ≡ w = ap length c.row.ensures ∙ row-width w rows c.in-Some.i (0, []) c.is_whole.ensures.form.shape c.in-Some.ensures.place in
    subst (λ (m : ℕ). (get_or c.args.columns.now k d).0 < m) (sym size)
    (subst (λ (cs : List (ℕ × ℕ)). (k : ℕ) → k < length cs → (get_or cs k d).0 < w) (sym c.requires.columns) (λ k l. lettered-below rows w k d l) k l)

pub returns-in-None : goal.returns-in-None
returns-in-None c =
    subst (λ (z : List ℕ). IfOk c.letter_text.result (λ text. text ≡ z))
    (coordinate-free c.args.rows.now.rows c.args.rows.now.width c.args.j c.args.letter c.in-None.ensures.row c.requires.letter) c.letter_text.ensures

pub returns-in-Some : goal.returns-in-Some
returns-in-Some c =
    let rows = c.args.rows.now.rows in
    let cs = c.args.columns.now in
    let e = ap (λ xs. sum_text (row_terms (vector k24_laws exact24 xs) cs)) c.row.ensures
    ∙ coordinate-pivot rows c.args.rows.now.width c.args.j (get_or rows c.in-Some.i (0, [])) _ cs c.in-Some.ensures.row c.requires.columns refl in
    subst (λ (z : List ℕ). IfOk c.sum_text.result (λ text. text ≡ z)) e c.sum_text.ensures
