use Rattle.std.proofs.Common.{◌∙◌, sym, ap, ℕ, List, ◌++◌}
use Rattle.std.specs.Prelude.{codes}
use Rattle.cyclo24.specs.ExactK24.{k24_laws}
use Rattle.cyclo24.specs.K24.{exact24}
use Rattle.lin_alg.specs.Rows.{exact_rows}
use Rattle.list_report.specs.FormText.{coordinate_text}
use Rattle.list_report.proofs.PieceLemmas.{texts-more}
use Rattle.list_report.proofs.form_text.coordinates.Goals as goal

pub loop-j-preserved : goal.loop-j-preserved
loop-j-preserved c =
    let f : ℕ → List ℕ = λ j. codes " " ++ coordinate_text (exact_rows k24_laws exact24 c.args.rows.now.rows) c.args.rows.now.width j in
    record {
      end = c.loop-j.invariant.end;
      text = c.in_ok-push_coordinate.ensures ∙ ap (λ t. t ++ f c.loop-j.j) c.loop-j.invariant.text ∙ sym (texts-more f c.loop-j.j);
      letter = c.next_letter-letter.ensures;
    }
