use Rattle.std.proofs.Common.{List, map, sym, subst}
use Rattle.lin_alg.specs.RowLaws.{equality-told}
use Rattle.class_list.specs.declared.ranked.Ranked.{Ranked}
use Rattle.class_list.specs.Collected.{AreCollected}
use Rattle.class_list.proofs.CollectLemmas.{collected-none}
use Rattle.class_list.proofs.least.collect.Goals as goal

pub loop-i-init : goal.loop-i-init
loop-i-init g c =
    let f = g.F.Field.field in
    let v = g.F.Field.value in
    let act = g.G.Acts.action c.args.acts.now in
    let es = c.args.spaces.now.forms in
    let tells = equality-told f v g.F.PartialEq.eq g.F.Ord.cmp g.met.F.Ord.matches_eq g.met.F.Field.value_cmp in
    subst (λ (xs : List (Ranked g.row.F.Denot)). AreCollected f.laws v g.F.PartialEq.eq act c.args.order es c.args.least.now 0 (map (λ r. ((r.first, r.second), r.direction)) xs)) (sym c.new-entries.ensures.items)
    (collected-none f v g.F.PartialEq.eq tells act c.args.order es c.requires.holds c.args.least.now)
