use Rattle.std.proofs.Common.{sym, subst}
use Rattle.std.proofs.lemmas.Option.{slice_get_within}
use Rattle.induce.specs.InducedView.{InducedView, IsInducedOf}
use Rattle.couple_report.proofs.LinkHeldLemmas.{held-at}
use Rattle.couple_report.proofs.link.link_among.Goals as goal

pub link_of_both-requires-clause-left : goal.link_of_both-requires-clause-left
link_of_both-requires-clause-left c =
    let v = c.index-all-k.result in
    subst (λ (x : InducedView). IsInducedOf c.args.quotient.now x) (sym c.index-all-k.is) (c.requires.of c.args.k v c.requires.left)

pub link_of_both-requires-clause-right : goal.link_of_both-requires-clause-right
link_of_both-requires-clause-right c =
    let v = c.index-all-l.result in
    subst (λ (x : InducedView). IsInducedOf c.args.quotient.now x) (sym c.index-all-l.is) (c.requires.of c.args.l v c.requires.right)

pub returns-clause-answer : goal.returns-clause-answer
returns-clause-answer c format irreps i j each a b =
    let q = c.args.quotient.now in
    let all = c.args.all.now in
    let v = c.index-all-k in
    let u = c.index-all-l in
    c.link_of_both.ensures.answer format i j (held-at q irreps all c.args.k i v.result each (slice_get_within irreps c.args.k i a) a v.is) (held-at q irreps all c.args.l j u.result each (slice_get_within irreps c.args.l j b) b u.is)
