use Rattle.fix_lattice.specs.Cuts.{cut_count}
use Rattle.std.proofs.Common.{◌≡◌, ◌<◌, ◌*◌, ℕ, suc, inl, inr, sym, ◌∙◌, subst, length, map, arith}
use Rattle.std.proofs.lemmas.List.{length-map}
use Rattle.lin_alg.specs.RowLaws.{equality-told}
use Rattle.lin_alg.specs.UnionLaws.{lower}
use Rattle.fix_lattice.specs.Classes.{IsReached}
use Rattle.fix_lattice.proofs.ClosingLemmas.{closing-classes, reached-grown}
use Rattle.fix_lattice.specs.Subspaces.{exact_forms}
use Rattle.fix_lattice.proofs.CostLemmas.{cost-then}
use Rattle.fix_lattice.proofs.CountLemmas.{cuts-now}
use Rattle.fix_lattice.proofs.closing.close_classes.Goals as goal
use Rattle.fix_lattice.specs.FormLaws.{exact-length}

pub loop-at-init : goal.loop-at-init
loop-at-init g c =
    let f = g.F.Field.field in
    let v = g.F.Field.value in
    let act = g.G.Acts.action c.args.given.now.acts.now in
    let tells = equality-told f v g.F.PartialEq.eq g.F.Ord.cmp g.met.F.Ord.matches_eq g.met.F.Field.value_cmp in
    let o = c.args.tables.now in
    let s = c.args.given.now.singles.now in
    let few = cuts-now f v g.F.PartialEq.eq tells act act.dim c.args.given.now.limit o.held.keys s.places.items s.elements.items (map (λ r. r.items) o.cuts.items) o.sources.items c.requires.held c.requires.closing c.requires.within in
    record {
      held = c.requires.held;
      closing = c.requires.closing;
      images = c.requires.images;
      all = c.requires.all;
      covered = c.requires.covered;
      marks = c.requires.marks;
      reached = λ i l. absurd (omega arith);
      within = c.requires.within;
      few = few;
      cost = omega arith;
    }

pub loop-at-preserved : goal.loop-at-preserved
loop-at-preserved g c =
    let f = g.F.Field.field in
    let v = g.F.Field.value in
    let act = g.G.Acts.action c.args.given.now.acts.now in
    let t = c.loop-at.invariant in
    let e = c.in_ok-visit.ensures in
    let old = exact_forms f.laws v c.loop-at.tables.held.keys in
    let new = exact_forms f.laws v c.visit.new.tables.held.keys in
    let n = exact-length f.laws v c.loop-at.tables.held.keys in
    let len = c.len.ensures.len in
    let at_old : c.loop-at.at < length old = omega (arith, c.if-at-len.false) in
    let longer = e.grown.longer in
    let at_new : c.loop-at.at < length new = omega arith in
    record {
      held = e.held;
      closing = e.closing;
      images = e.images;
      all = e.all;
      covered = e.covered;
      marks = c.visit.auto.covered ∙ t.marks;
      reached = λ i l.
          let l' : i < suc c.loop-at.at = omega (arith, l) in
          elim (lower i c.loop-at.at l') [
            | inl b ↦ let r = t.reached i b in let rl = r.0 in (omega arith, reached-grown f act old new e.grown i rl r.1)
            | inr d ↦ (subst (λ (z : ℕ). z < length new) (sym d) at_new, subst (IsReached f.laws act new) (sym d) e.reached)
          ];
      within = e.within;
      few = e.few;
      cost = cost-then (act.dim * cut_count (map (λ r. r.items) c.args.tables.now.cuts.items)) (act.dim * cut_count (map (λ r. r.items) c.loop-at.tables.cuts.items)) (act.dim * cut_count (map (λ r. r.items) c.visit.new.tables.cuts.items)) c.args.steps.now c.loop-at.steps c.visit.new.steps t.cost e.cost;
    }

pub returns-in_err-visit-clause-cost : goal.returns-in_err-visit-clause-cost
returns-in_err-visit-clause-cost g c =
    let act = g.G.Acts.action c.args.given.now.acts.now in
    cost-then (act.dim * cut_count (map (λ r. r.items) c.args.tables.now.cuts.items)) (act.dim * cut_count (map (λ r. r.items) c.loop-at.tables.cuts.items)) (act.dim * cut_count (map (λ r. r.items) c.visit.new.tables.cuts.items)) c.args.steps.now c.loop-at.steps c.visit.new.steps c.loop-at.invariant.cost c.in_err-visit.ensures.cost

pub returns-then-at-len-clause-closed : goal.returns-then-at-len-clause-closed
returns-then-at-len-clause-closed g c =
    let f = g.F.Field.field in
    let v = g.F.Field.value in
    let act = g.G.Acts.action c.args.given.now.acts.now in
    let t = c.loop-at.invariant in
    let o = c.loop-at.tables in
    let s = c.args.given.now.singles.now in
    let n = exact-length f.laws v o.held.keys in
    let images = map (λ r. r.items) c.loop-at.images.items in
    let rows : length images ≡ length c.loop-at.images.items = length-map c.loop-at.images.items (λ r. r.items) in
    let all = t.all in
    let within = t.within in
    let law = g.met.G.Acts.lawful c.args.given.now.acts.now in
    let len = c.len.ensures.len in
    closing-classes f act law (exact_forms f.laws v o.held.keys) s.places.items s.elements.items (map (λ r. r.items) o.cuts.items) o.sources.items images t.closing t.images (omega arith)
    (λ i l. let b : i < c.loop-at.at = omega (arith, l, c.if-at-len.true) in (t.reached i b).1)

pub returns-clause-closed : goal.returns-clause-closed
returns-clause-closed g c =
    let f = g.F.Field.field in
    let v = g.F.Field.value in
    let act = g.G.Acts.action c.args.given.now.acts.now in
    let t = c.loop-at.invariant in
    let o = c.loop-at.tables in
    let s = c.args.given.now.singles.now in
    let n = exact-length f.laws v o.held.keys in
    let images = map (λ r. r.items) c.loop-at.images.items in
    let rows : length images ≡ length c.loop-at.images.items = length-map c.loop-at.images.items (λ r. r.items) in
    let all = t.all in
    let within = t.within in
    let law = g.met.G.Acts.lawful c.args.given.now.acts.now in
    closing-classes f act law (exact_forms f.laws v o.held.keys) s.places.items s.elements.items (map (λ r. r.items) o.cuts.items) o.sources.items images t.closing t.images (omega arith)
    (λ i l. let b : i < c.loop-at.at = omega (arith, l, c.loop-at-test.false) in (t.reached i b).1)
