use Rattle.std.proofs.Common.{◌∙◌, ap, ◌++◌, List, ℕ}
use Rattle.std.specs.Prelude.{codes, decimal}
use Rattle.list_report.proofs.ListReportLemmas.{lines-behind}
use Rattle.list_report.proofs.report.head_of_report.Goals as goal

pub returns : goal.returns
returns c =
    lines-behind (codes "isodist " ++ decimal c.args.format ++ codes " list")
    (codes "irrep " ++ c.args.name.now ++ codes " dim " ++ decimal c.args.dim ++ codes " order " ++ decimal c.args.order) (codes "total ") (decimal c.args.total) _ _ _ _ _
    c.in_ok-text.ensures (c.in_ok-push.ensures.ok ∙ ap (λ (t : List ℕ). c.in_ok-text.text ++ t) (c.as_slice.ensures ∙ c.in_ok-irrep_line.ensures))
    c.in_ok-push-2.ensures.ok c.in_ok-push_number.ensures.ok c.in_ok-push-3.ensures.ok
