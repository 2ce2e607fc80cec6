use Rattle.fix_lattice.specs.Cuts.{cut_count}
use Rattle.std.proofs.Common.{◌<◌, ◌*◌, inl, inr, ℕ, suc, sym, subst, length, arith, map}
use Rattle.lin_alg.specs.RowLaws.{equality-told}
use Rattle.lin_alg.specs.UnionLaws.{lower}
use Rattle.fix_lattice.proofs.ClosingLemmas.{closing-each, grown-cuts}
use Rattle.fix_lattice.specs.Held.{HasMeet}
use Rattle.fix_lattice.proofs.HeldLemmas.{grown-own, grown-then}
use Rattle.fix_lattice.specs.Lattice.{form_at}
use Rattle.fix_lattice.specs.Subspaces.{exact_forms}
use Rattle.fix_lattice.proofs.CostLemmas.{cost-then}
use Rattle.fix_lattice.proofs.CountLemmas.{cuts-now}
use Rattle.fix_lattice.proofs.tables.cut_each.Goals as goal
use Rattle.fix_lattice.specs.FormLaws.{exact-length}

pub loop-k-init : goal.loop-k-init
loop-k-init g c =
    let f = g.F.Field.field in
    let v = g.F.Field.value in
    let act = g.G.Acts.action c.args.given.now.acts.now in
    let tells = equality-told f v g.F.PartialEq.eq g.F.Ord.cmp g.met.F.Ord.matches_eq g.met.F.Field.value_cmp in
    let o = c.args.tables.now in
    let s = c.args.given.now.singles.now in
    record {
      held = c.requires.held;
      closing = c.requires.closing;
      grown = grown-own f act (exact_forms f.laws v o.held.keys);
      within = c.requires.within;
      few = cuts-now f v g.F.PartialEq.eq tells act act.dim c.args.given.now.limit o.held.keys s.places.items s.elements.items (map (λ r. r.items) o.cuts.items) o.sources.items c.requires.held c.requires.closing c.requires.within;
      cost = omega arith;
      done = λ j l. absurd (omega arith);
    }

pub cut_at-requires-clause-there : goal.cut_at-requires-clause-there
cut_at-requires-clause-there g c =
    let f = g.F.Field.field in
    let v = g.F.Field.value in
    let n = exact-length f.laws v c.args.tables.now.held.keys in
    let m = exact-length f.laws v c.loop-k.tables.held.keys in
    let longer = c.loop-k.invariant.grown.longer in
    let there = c.requires.there in
    omega arith

pub loop-k-preserved : goal.loop-k-preserved
loop-k-preserved g c =
    let f = g.F.Field.field in
    let v = g.F.Field.value in
    let act = g.G.Acts.action c.args.given.now.acts.now in
    let t = c.loop-k.invariant in
    let e = c.in_ok-cut_at.ensures in
    let old = exact_forms f.laws v c.loop-k.tables.held.keys in
    let new = exact_forms f.laws v c.cut_at.new.tables.held.keys in
    let el = c.args.given.now.singles.now.elements.items in
    let n = exact-length f.laws v c.args.tables.now.held.keys in
    let m = exact-length f.laws v c.loop-k.tables.held.keys in
    let k = exact-length f.laws v c.cut_at.new.tables.held.keys in
    let longer = t.grown.longer in
    let there = c.requires.there in
    let jl : c.args.at < length old = omega arith in
    let place = e.place in
    let here : HasMeet f.laws act.dim new (form_at new c.args.at) (form_at new c.loop-k.k) = (c.in_ok-cut_at.field-0, (omega arith, e.meet)) in
    record {
      held = e.held;
      closing = e.closing;
      grown = grown-then f act (exact_forms f.laws v c.args.tables.now.held.keys) old new t.grown e.grown;
      within = e.within;
      few = e.few;
      cost = cost-then (act.dim * cut_count (map (λ r. r.items) c.args.tables.now.cuts.items)) (act.dim * cut_count (map (λ r. r.items) c.loop-k.tables.cuts.items)) (act.dim * cut_count (map (λ r. r.items) c.cut_at.new.tables.cuts.items)) c.args.steps.now c.loop-k.steps c.cut_at.new.steps t.cost e.cost;
      done = λ j l b.
          let l' : j < suc c.loop-k.k = omega (arith, l) in
          elim (lower j c.loop-k.k l') [
            | inl d ↦ grown-cuts f act old new e.grown (length el) c.args.at c.loop-k.k t.closing.within jl t.done j d b
            | inr d ↦ subst (λ (z : ℕ). HasMeet f.laws act.dim new (form_at new c.args.at) (form_at new z)) (sym d) here
          ];
    }

pub returns-in_err-cut_at-clause-cost : goal.returns-in_err-cut_at-clause-cost
returns-in_err-cut_at-clause-cost g c =
    let act = g.G.Acts.action c.args.given.now.acts.now in
    let t = c.loop-k.invariant in
    cost-then (act.dim * cut_count (map (λ r. r.items) c.args.tables.now.cuts.items)) (act.dim * cut_count (map (λ r. r.items) c.loop-k.tables.cuts.items)) (act.dim * cut_count (map (λ r. r.items) c.cut_at.new.tables.cuts.items)) c.args.steps.now c.loop-k.steps c.cut_at.new.steps t.cost c.in_err-cut_at.ensures.cost

pub returns-clause-cut : goal.returns-clause-cut
returns-clause-cut g c =
    let f = g.F.Field.field in
    let v = g.F.Field.value in
    let act = g.G.Acts.action c.args.given.now.acts.now in
    let t = c.loop-k.invariant in
    let o = c.loop-k.tables in
    let s = c.args.given.now.singles.now in
    closing-each f act (exact_forms f.laws v o.held.keys) s.places.items s.elements.items (map (λ r. r.items) o.cuts.items) o.sources.items c.args.at t.closing
    (λ j l. let b : j < c.loop-k.k = omega (arith, l, c.loop-k-test.false) in t.done j b l)
