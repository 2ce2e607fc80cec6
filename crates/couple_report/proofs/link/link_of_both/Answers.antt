use Rattle.std.proofs.Common.{◌≤◌, subst}
use Rattle.couple_report.proofs.LinkHeldLemmas.{few-rows, link-found, link-wide}
use Rattle.couple_report.proofs.link.link_of_both.Goals as goal

pub returns-in-Ok-clause-answer : goal.returns-in-Ok-clause-answer
returns-in-Ok-clause-answer c format i j a b = link-found format c.args.quotient.now i j c.args.left.now c.args.right.now a b c.in-Ok.link c.in-Ok.ensures.link

pub returns-in-Err-Wide-clause-answer : goal.returns-in-Err-Wide-clause-answer
returns-in-Err-Wide-clause-answer c format i j a b =
    let e = c.in-Err-Wide in
    link-wide format c.args.quotient.now i j c.args.left.now c.args.right.now a b e.family (rw e.field-0-is at e.ensures.cause)

pub returns-in-Ok-clause-few : goal.returns-in-Ok-clause-few
returns-in-Ok-clause-few c = few-rows c.args.quotient.now c.args.left.now c.args.right.now c.in-Ok.link (subst (λ n. n ≤ 288) c.dim-rows.ensures.value c.dim-rows.ensures.few) c.in-Ok.ensures.link
