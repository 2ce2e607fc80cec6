use Rattle.fix_lattice.specs.Cuts.{cut_count}
use Rattle.std.proofs.Common.{◌≡◌, ◌<◌, ◌≤◌, ◌*◌, ℕ, sym, ◌∙◌, ap, subst, length, map, arith, add-one, suc, List, Vec, Global}
use Rattle.std.proofs.lemmas.List.{length-map}
use Rattle.lin_alg.specs.RowLaws.{equality-told}
use Rattle.fix_lattice.specs.Classes.{IsImageRow, AreImages}
use Rattle.fix_lattice.proofs.ImageRowLemmas.{images-grown, images-more}
use Rattle.fix_lattice.proofs.HeldLemmas.{grown-own, grown-then}
use Rattle.fix_lattice.specs.Subspaces.{exact_forms}
use Rattle.fix_lattice.proofs.CostLemmas.{cost-then}
use Rattle.fix_lattice.proofs.CountLemmas.{cuts-now}
use Rattle.fix_lattice.proofs.images.close_images.Goals as goal
use Rattle.fix_lattice.specs.FormLaws.{exact-length}
use Rattle.fix_lattice.proofs.ListLemmas.{length-last, map-last}

pub loop-i-init : goal.loop-i-init
loop-i-init g c =
    let f = g.F.Field.field in
    let v = g.F.Field.value in
    let act = g.G.Acts.action c.args.given.now.acts.now in
    let tells = equality-told f v g.F.PartialEq.eq g.F.Ord.cmp g.met.F.Ord.matches_eq g.met.F.Field.value_cmp in
    let o = c.args.tables.now in
    let s = c.args.given.now.singles.now in
    let short = c.requires.short in
    record {
      held = c.requires.held;
      closing = c.requires.closing;
      grown = grown-own f act (exact_forms f.laws v o.held.keys);
      images = c.requires.images;
      size = omega (arith, c.args.images.now.ok.0, c.len-i.ensures);
      short = omega (arith, c.args.images.now.ok.0, c.len-i.ensures);
      within = c.requires.within;
      few = cuts-now f v g.F.PartialEq.eq tells act act.dim c.args.given.now.limit o.held.keys s.places.items s.elements.items (map (λ r. r.items) o.cuts.items) o.sources.items c.requires.held c.requires.closing c.requires.within;
      cost = omega arith;
    }

pub loop-i-preserved : goal.loop-i-preserved
loop-i-preserved g c =
    let f = g.F.Field.field in
    let v = g.F.Field.value in
    let act = g.G.Acts.action c.args.given.now.acts.now in
    let t = c.loop-i.invariant in
    let e = c.in_ok-found.ensures in
    let old = exact_forms f.laws v c.loop-i.tables.held.keys in
    let new = exact_forms f.laws v c.image_row.new.tables.held.keys in
    let images = map (λ r. r.items) c.loop-i.images.items in
    let n = exact-length f.laws v c.loop-i.tables.held.keys in
    let m = exact-length f.laws v c.image_row.new.tables.held.keys in
    let size = t.size in
    let short = t.short in
    let rows : length images ≡ length c.loop-i.images.items = length-map c.loop-i.images.items (λ r. r.items) in
    let l : length images ≤ length old = omega arith in
    let longer = e.grown.longer in
    let len = c.len.ensures.len in
    let inside : c.loop-i.i < length c.loop-i.tables.held.keys = omega (arith, c.if-i-len.false) in
    let found : IsImageRow f.laws act new (length images) act.generators c.in_ok-found.found.items = subst (λ (z : ℕ). IsImageRow f.laws act new z act.generators c.in_ok-found.found.items) (sym (rows ∙ size)) e.found in
    let more = images-more f act new images c.in_ok-found.found.items (images-grown f act old new images e.grown l t.images) found in
    record {
      held = e.held;
      closing = e.closing;
      grown = grown-then f act (exact_forms f.laws v c.args.tables.now.held.keys) old new t.grown e.grown;
      images = subst (λ z. AreImages f.laws act new (map (λ r. r.items) z)) (sym c.in_ok-push.ensures) (subst (AreImages f.laws act new) (sym (map-last (λ r. r.items) c.loop-i.images.items c.in_ok-found.found)) more);
      size = ap length c.in_ok-push.ensures ∙ length-last c.loop-i.images.items c.in_ok-found.found ∙ ap suc size ∙ sym (add-one c.loop-i.i);
      short = omega arith;
      within = e.within;
      few = e.few;
      cost = cost-then (act.dim * cut_count (map (λ r. r.items) c.args.tables.now.cuts.items)) (act.dim * cut_count (map (λ r. r.items) c.loop-i.tables.cuts.items)) (act.dim * cut_count (map (λ r. r.items) c.image_row.new.tables.cuts.items)) c.args.steps.now c.loop-i.steps c.image_row.new.steps t.cost e.cost;
    }

pub returns-in_err-found-clause-cost : goal.returns-in_err-found-clause-cost
returns-in_err-found-clause-cost g c =
    let act = g.G.Acts.action c.args.given.now.acts.now in
    let t = c.loop-i.invariant in
    cost-then (act.dim * cut_count (map (λ r. r.items) c.args.tables.now.cuts.items)) (act.dim * cut_count (map (λ r. r.items) c.loop-i.tables.cuts.items)) (act.dim * cut_count (map (λ r. r.items) c.image_row.new.tables.cuts.items)) c.args.steps.now c.loop-i.steps c.image_row.new.steps t.cost c.in_err-found.ensures.cost

pub returns-in_err-push-clause-cost : goal.returns-in_err-push-clause-cost
returns-in_err-push-clause-cost g c =
    let act = g.G.Acts.action c.args.given.now.acts.now in
    let t = c.loop-i.invariant in
    cost-then (act.dim * cut_count (map (λ r. r.items) c.args.tables.now.cuts.items)) (act.dim * cut_count (map (λ r. r.items) c.loop-i.tables.cuts.items)) (act.dim * cut_count (map (λ r. r.items) c.image_row.new.tables.cuts.items)) c.args.steps.now c.loop-i.steps c.image_row.new.steps t.cost c.in_ok-found.ensures.cost

pub image_row-requires-clause-images : goal.image_row-requires-clause-images
image_row-requires-clause-images g c =
    let f = g.F.Field.field in
    let v = g.F.Field.value in
    let act = g.G.Acts.action c.args.given.now.acts.now in
    subst (λ (z : List (Vec ℕ Global)). AreImages f.laws act (exact_forms f.laws v c.loop-i.tables.held.keys) (map (λ r. r.items) z)) (sym c.deref.ensures.value) c.loop-i.invariant.images
