use Rattle.std.proofs.Common.{◌∙◌, ap, ◌++◌, List, ℕ}
use Rattle.std.specs.Prelude.{codes, decimal}
use Rattle.couple_report.proofs.TextLemmas.{line-behind}
use Rattle.couple_report.proofs.link_text.head_of.Goals as goal

pub returns : goal.returns
returns c =
    let l = c.args.found.now in
    line-behind (codes "isodist " ++ decimal l.format ++ codes " link") (codes "irreps " ++ l.name ++ codes " " ++ l.other ++ codes " order " ++ decimal l.order) _ _ _
    c.in_ok-text.ensures (c.in_ok-push.ensures.ok ∙ ap (λ (t : List ℕ). c.in_ok-text.text ++ t) (c.as_slice.ensures ∙ c.in_ok-irreps.ensures)) c.in_ok-push-2.ensures.ok
