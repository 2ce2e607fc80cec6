use Rattle.std.proofs.Common.{◌≡◌, ap, ◌∙◌, subst, sym, ℕ, ◌<◌, ℤ, pos, List, [], length, get_or, w32, rules, arith}
use Rattle.std.proofs.lemmas.Int.{to_z-of_z}
use Rattle.std.proofs.lemmas.List.{get_or_default}
use Rattle.iso_text.specs.Ranges.{IsCell}
use Rattle.iso_text.specs.declared.numbers.Frac.{Frac}
use Rattle.iso_text.specs.declared.sections.CellText.{CellText}
use Rattle.space_ops.specs.MatrixLaws.{same_matrix}
use Rattle.distort_match.specs.ListedCells.{twelfths_of, cell_entry, cell_matrix}
use Rattle.distort_match.proofs.cells.rows_of_cell.Goals as goal

module _ (cell : CellText) (h : IsCell cell) (i j : ℕ) (l : i < 3) (m : j < 3) (d : List Frac) (e : Frac) where
  row_is : get_or cell.rows i d ≡ get_or cell.rows i []
  row_is = get_or_default cell.rows i d [] (subst (λ n. i < n) (sym h.rows.count) l)

  inside : j < length (get_or cell.rows i [])
  inside = subst (λ n. j < n) (sym (h.rows.each i [] (subst (λ n. i < n) (sym h.rows.count) l)).count) m

  entry_is : (p r : ℤ) → p ≡ r → r ≡ twelfths_of (get_or (get_or cell.rows i d) j e) → p ≡ cell_entry cell i j
  entry_is p r f g =
      f ∙ g ∙ ap (λ (row : List Frac). twelfths_of (get_or row j e)) row_is ∙ ap twelfths_of (get_or_default (get_or cell.rows i []) j e (record { num = pos 0; den = 1 }) inside)

pub returns-clause-value : goal.returns-clause-value
returns-clause-value c =
    let cell = c.args.cell.now in
    let h = c.requires in
    same_matrix _ (cell_matrix c.args.cell.now)
    (entry_is cell h 0 0 (omega arith) (omega arith) _ _ _ c.twelfths.result (to_z-of_z w32 c.twelfths.result (search rules)) c.twelfths.ensures.value)
    (entry_is cell h 0 1 (omega arith) (omega arith) _ _ _ c.twelfths-2.result (to_z-of_z w32 c.twelfths-2.result (search rules)) c.twelfths-2.ensures.value)
    (entry_is cell h 0 2 (omega arith) (omega arith) _ _ _ c.twelfths-3.result (to_z-of_z w32 c.twelfths-3.result (search rules)) c.twelfths-3.ensures.value)
    (entry_is cell h 1 0 (omega arith) (omega arith) _ _ _ c.twelfths-4.result (to_z-of_z w32 c.twelfths-4.result (search rules)) c.twelfths-4.ensures.value)
    (entry_is cell h 1 1 (omega arith) (omega arith) _ _ _ c.twelfths-5.result (to_z-of_z w32 c.twelfths-5.result (search rules)) c.twelfths-5.ensures.value)
    (entry_is cell h 1 2 (omega arith) (omega arith) _ _ _ c.twelfths-6.result (to_z-of_z w32 c.twelfths-6.result (search rules)) c.twelfths-6.ensures.value)
    (entry_is cell h 2 0 (omega arith) (omega arith) _ _ _ c.twelfths-7.result (to_z-of_z w32 c.twelfths-7.result (search rules)) c.twelfths-7.ensures.value)
    (entry_is cell h 2 1 (omega arith) (omega arith) _ _ _ c.twelfths-8.result (to_z-of_z w32 c.twelfths-8.result (search rules)) c.twelfths-8.ensures.value)
    (entry_is cell h 2 2 (omega arith) (omega arith) _ _ _ c.twelfths-9.result (to_z-of_z w32 c.twelfths-9.result (search rules)) c.twelfths-9.ensures.value)
