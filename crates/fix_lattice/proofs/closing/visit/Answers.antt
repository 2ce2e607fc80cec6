use Rattle.std.proofs.Common.{◌≡◌, true, false, get_or, map}
use Rattle.lin_alg.specs.RowLaws.{equality-told}
use Rattle.fix_lattice.proofs.HeldLemmas.{grown-own}
use Rattle.fix_lattice.specs.Subspaces.{exact_forms}
use Rattle.fix_lattice.proofs.CountLemmas.{cuts-now}
use Rattle.fix_lattice.proofs.closing.visit.Goals as goal

pub returns-then-covered-at-clause-reached : goal.returns-then-covered-at-clause-reached
returns-then-covered-at-clause-reached g c =
    let e : get_or c.args.covered.now c.args.at false ≡ true = c.if-covered-at.true in
    (c.requires.covered c.args.at e).1

pub returns-then-covered-at-clause-few : goal.returns-then-covered-at-clause-few
returns-then-covered-at-clause-few g c =
    let f = g.F.Field.field in
    let v = g.F.Field.value in
    let act = g.G.Acts.action c.args.given.now.acts.now in
    let tells = equality-told f v g.F.PartialEq.eq g.F.Ord.cmp g.met.F.Ord.matches_eq g.met.F.Field.value_cmp in
    let o = c.args.tables.now in
    let s = c.args.given.now.singles.now in
    cuts-now f v g.F.PartialEq.eq tells act act.dim c.args.given.now.limit o.held.keys s.places.items s.elements.items (map (λ r. r.items) o.cuts.items) o.sources.items c.requires.held c.requires.closing c.requires.within

pub returns-then-covered-at-clause-grown : goal.returns-then-covered-at-clause-grown
returns-then-covered-at-clause-grown g c = grown-own g.F.Field.field (g.G.Acts.action c.args.given.now.acts.now) (exact_forms g.F.Field.field.laws g.F.Field.value c.args.tables.now.held.keys)
