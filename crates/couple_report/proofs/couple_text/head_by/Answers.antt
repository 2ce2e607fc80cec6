use Rattle.std.proofs.Common.{◌∙◌, ap, ◌++◌, List, ℕ}
use Rattle.std.specs.Prelude.{codes, decimal}
use Rattle.couple_report.proofs.TextLemmas.{lines-behind}
use Rattle.couple_report.proofs.couple_text.head_by.Goals as goal

pub returns : goal.returns
returns c =
    let x = c.args.found.now in
    lines-behind (codes "isodist " ++ decimal x.format ++ codes " couple")
    (codes "irreps " ++ x.name ++ codes " " ++ x.other ++ codes " dims " ++ decimal x.dim ++ codes " " ++ decimal x.other_dim ++ codes " order " ++ decimal c.args.order) (codes "total ") (decimal c.args.total) _ _ _ _ _
    c.in_ok-text.ensures (c.in_ok-push.ensures.ok ∙ ap (λ (t : List ℕ). c.in_ok-text.text ++ t) (c.as_slice.ensures ∙ c.in_ok-irreps.ensures))
    c.in_ok-push-2.ensures.ok c.in_ok-push_number.ensures.ok c.in_ok-push-3.ensures.ok
