use Rattle.fix_lattice.specs.Cuts.{cut_count}
use Rattle.std.proofs.Common.{◌≡◌, ◌<◌, ◌≤◌, ◌*◌, ℕ, refl, sym, subst, length, map, arith, add-one, suc}
use Rattle.std.proofs.lemmas.List.{length-map}
use Rattle.lin_alg.specs.RowLaws.{equality-told}
use Rattle.fix_lattice.specs.Classes.{IsImageRow}
use Rattle.fix_lattice.proofs.ImageRowLemmas.{row-grown, row-more, images-grown}
use Rattle.fix_lattice.proofs.HeldLemmas.{grown-own, grown-then}
use Rattle.fix_lattice.specs.Subspaces.{exact_forms}
use Rattle.fix_lattice.proofs.CostLemmas.{cost-then}
use Rattle.fix_lattice.proofs.CountLemmas.{cuts-now}
use Rattle.fix_lattice.proofs.images.image_row.Goals as goal
use Rattle.fix_lattice.specs.FormLaws.{exact-length}

pub loop-p-init : goal.loop-p-init
loop-p-init g c =
    let f = g.F.Field.field in
    let v = g.F.Field.value in
    let act = g.G.Acts.action c.args.given.now.acts.now in
    let tells = equality-told f v g.F.PartialEq.eq g.F.Ord.cmp g.met.F.Ord.matches_eq g.met.F.Field.value_cmp in
    let o = c.args.tables.now in
    let s = c.args.given.now.singles.now in
    record {
      held = c.requires.held;
      closing = c.requires.closing;
      grown = grown-own f act (exact_forms f.laws v o.held.keys);
      images = c.requires.images;
      found = subst (IsImageRow f.laws act (exact_forms f.laws v o.held.keys) c.args.i 0) (sym c.new-found.ensures.items) (record { size = refl; image = λ p l. absurd (omega arith) });
      within = c.requires.within;
      few = cuts-now f v g.F.PartialEq.eq tells act act.dim c.args.given.now.limit o.held.keys s.places.items s.elements.items (map (λ r. r.items) o.cuts.items) o.sources.items c.requires.held c.requires.closing c.requires.within;
      cost = omega arith;
    }

pub image_at-requires-clause-there : goal.image_at-requires-clause-there
image_at-requires-clause-there g c =
    let f = g.F.Field.field in
    let v = g.F.Field.value in
    let n = exact-length f.laws v c.args.tables.now.held.keys in
    let m = exact-length f.laws v c.loop-p.tables.held.keys in
    let longer = c.loop-p.invariant.grown.longer in
    let there = c.requires.there in
    omega arith

pub loop-p-preserved : goal.loop-p-preserved
loop-p-preserved g c =
    let f = g.F.Field.field in
    let v = g.F.Field.value in
    let act = g.G.Acts.action c.args.given.now.acts.now in
    let t = c.loop-p.invariant in
    let e = c.in_ok-place.ensures in
    let old = exact_forms f.laws v c.loop-p.tables.held.keys in
    let new = exact_forms f.laws v c.image_at.new.tables.held.keys in
    let images = map (λ r. r.items) c.args.images.now in
    let n = exact-length f.laws v c.args.tables.now.held.keys in
    let m = exact-length f.laws v c.loop-p.tables.held.keys in
    let k = exact-length f.laws v c.image_at.new.tables.held.keys in
    let longer = t.grown.longer in
    let there = c.requires.there in
    let before = c.requires.before in
    let rows : length images ≡ length c.args.images.now = length-map c.args.images.now (λ r. r.items) in
    let il : c.args.i < length old = omega arith in
    let short : length images ≤ length old = omega arith in
    let place = e.place in
    let yl : c.in_ok-place.place < length new = omega arith in
    record {
      held = e.held;
      closing = e.closing;
      grown = grown-then f act (exact_forms f.laws v c.args.tables.now.held.keys) old new t.grown e.grown;
      images = images-grown f act old new images e.grown short t.images;
      found = subst (λ (z : ℕ). IsImageRow f.laws act new c.args.i z c.push.new.items.items) (sym (add-one c.loop-p.p))
          (subst (IsImageRow f.laws act new c.args.i (suc c.loop-p.p)) (sym c.in_ok-push.ensures)
          (row-more f act new c.args.i c.loop-p.p c.in_ok-place.place c.loop-p.found.items (row-grown f act old new c.args.i c.loop-p.p c.loop-p.found.items e.grown il t.found) yl e.image));
      within = e.within;
      few = e.few;
      cost = cost-then (act.dim * cut_count (map (λ r. r.items) c.args.tables.now.cuts.items)) (act.dim * cut_count (map (λ r. r.items) c.loop-p.tables.cuts.items)) (act.dim * cut_count (map (λ r. r.items) c.image_at.new.tables.cuts.items)) c.args.steps.now c.loop-p.steps c.image_at.new.steps t.cost e.cost;
    }

pub returns-in_err-place-clause-cost : goal.returns-in_err-place-clause-cost
returns-in_err-place-clause-cost g c =
    let act = g.G.Acts.action c.args.given.now.acts.now in
    let t = c.loop-p.invariant in
    cost-then (act.dim * cut_count (map (λ r. r.items) c.args.tables.now.cuts.items)) (act.dim * cut_count (map (λ r. r.items) c.loop-p.tables.cuts.items)) (act.dim * cut_count (map (λ r. r.items) c.image_at.new.tables.cuts.items)) c.args.steps.now c.loop-p.steps c.image_at.new.steps t.cost c.in_err-place.ensures.cost

pub returns-in_err-push-clause-cost : goal.returns-in_err-push-clause-cost
returns-in_err-push-clause-cost g c =
    let act = g.G.Acts.action c.args.given.now.acts.now in
    let t = c.loop-p.invariant in
    cost-then (act.dim * cut_count (map (λ r. r.items) c.args.tables.now.cuts.items)) (act.dim * cut_count (map (λ r. r.items) c.loop-p.tables.cuts.items)) (act.dim * cut_count (map (λ r. r.items) c.image_at.new.tables.cuts.items)) c.args.steps.now c.loop-p.steps c.image_at.new.steps t.cost c.in_ok-place.ensures.cost

pub returns-clause-found : goal.returns-clause-found
returns-clause-found g c =
    let f = g.F.Field.field in
    let v = g.F.Field.value in
    let act = g.G.Acts.action c.args.given.now.acts.now in
    let e : c.loop-p.p ≡ act.generators = omega (arith, c.loop-p-test.false, c.loop-p.auto.p-end, c.generators-p-end.ensures) in
    subst (λ (z : ℕ). IsImageRow f.laws act (exact_forms f.laws v c.loop-p.tables.held.keys) c.args.i z c.loop-p.found.items) e c.loop-p.invariant.found
