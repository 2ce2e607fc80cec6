use Rattle.std.proofs.Common.{◌≡◌, ◌++◌, flat_map}
use Rattle.std.specs.Prelude.{codes}
use Rattle.std.specs.List.{range_with_len}
use Rattle.cyclo24.specs.ExactK24.{k24_laws}
use Rattle.cyclo24.specs.K24.{exact24}
use Rattle.lin_alg.specs.Rows.{exact_rows}
use Rattle.list_report.specs.Letters.{letter_of}
use Rattle.list_report.specs.FormText.{coordinate_text}
use Rattle.list_report.proofs.form_text.coordinates.Given as goal

abbrev pub invariant-loop-j : goal.invariant-loop-j
invariant-loop-j l = record {
  end : l.j-end ≡ l.rows.width;
  text : l.text ≡ flat_map (λ j. codes " " ++ coordinate_text (exact_rows k24_laws exact24 l.rows.rows) l.rows.width j) (range_with_len 0 l.j);
  letter : l.letter ≡ letter_of l.rows.rows l.j;
}
