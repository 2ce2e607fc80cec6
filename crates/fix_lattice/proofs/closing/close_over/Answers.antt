use Rattle.fix_lattice.specs.Cuts.{cut_count}
use Rattle.std.proofs.Common.{◌≡◌, ◌*◌, true, false, sym, ◌∙◌, ap, subst, length, map, get_or, arith}
use Rattle.lin_alg.specs.RowLaws.{equality-told}
use Rattle.fix_lattice.specs.Classes.{AreImages}
use Rattle.fix_lattice.specs.Subspaces.{exact_forms}
use Rattle.fix_lattice.proofs.CostLemmas.{cost-then}
use Rattle.fix_lattice.proofs.CountLemmas.{cuts-now}
use Rattle.fix_lattice.proofs.closing.close_over.Goals as goal

pub returns-in_err-covered-clause-few : goal.returns-in_err-covered-clause-few
returns-in_err-covered-clause-few g c =
    let f = g.F.Field.field in
    let v = g.F.Field.value in
    let act = g.G.Acts.action c.args.given.now.acts.now in
    let tells = equality-told f v g.F.PartialEq.eq g.F.Ord.cmp g.met.F.Ord.matches_eq g.met.F.Field.value_cmp in
    let o = c.args.tables.now in
    let s = c.args.given.now.singles.now in
    let few = cuts-now f v g.F.PartialEq.eq tells act act.dim c.args.given.now.limit o.held.keys s.places.items s.elements.items (map (λ r. r.items) o.cuts.items) o.sources.items c.requires.held c.requires.closing c.requires.within in
    few

pub close_images-requires-clause-images : goal.close_images-requires-clause-images
close_images-requires-clause-images g c =
    let f = g.F.Field.field in
    let v = g.F.Field.value in
    let act = g.G.Acts.action c.args.given.now.acts.now in
    subst (λ z. AreImages f.laws act (exact_forms f.laws v c.args.tables.now.held.keys) (map (λ r. r.items) z)) (sym c.new-images.ensures.items) (λ i l. absurd (omega arith))

pub close_images-requires-clause-short : goal.close_images-requires-clause-short
close_images-requires-clause-short g c =
    let n = ap length c.new-images.ensures.items in
    omega arith

pub close_classes-requires-clause-covered : goal.close_classes-requires-clause-covered
close_classes-requires-clause-covered g c i h =
    let e : get_or c.in_ok-covered.covered.items i false ≡ true = ap (λ z. get_or z i false) (sym c.deref_mut.ensures.value) ∙ h in
    absurd (c.in_ok-covered.ensures.none i e)

pub returns-in_err-close_classes-clause-cost : goal.returns-in_err-close_classes-clause-cost
returns-in_err-close_classes-clause-cost g c =
    let act = g.G.Acts.action c.args.given.now.acts.now in
    cost-then (act.dim * cut_count (map (λ r. r.items) c.args.tables.now.cuts.items)) (act.dim * cut_count (map (λ r. r.items) c.close_images.new.tables.cuts.items)) (act.dim * cut_count (map (λ r. r.items) c.close_classes.new.tables.cuts.items)) c.args.steps.now c.close_images.new.steps c.close_classes.new.steps c.in_ok-close_images.ensures.cost c.close_classes.ensures.cost

pub returns-clause-cost : goal.returns-clause-cost
returns-clause-cost g c =
    let act = g.G.Acts.action c.args.given.now.acts.now in
    cost-then (act.dim * cut_count (map (λ r. r.items) c.args.tables.now.cuts.items)) (act.dim * cut_count (map (λ r. r.items) c.close_images.new.tables.cuts.items)) (act.dim * cut_count (map (λ r. r.items) c.close_classes.new.tables.cuts.items)) c.args.steps.now c.close_images.new.steps c.close_classes.new.steps c.in_ok-close_images.ensures.cost c.close_classes.ensures.cost
