use Rattle.std.proofs.Common.{◌≡◌, ◌<◌, ℕ, inl, inr, suc, List, [], sym, ap, subst, length, arith, add-one, lt-ltb, le-ltb}
use Rattle.lin_alg.specs.Echelon.{EchelonView}
use Rattle.lin_alg.specs.EquationLaws.{dec}
use Rattle.lin_alg.specs.RowLaws.{equality-told}
use Rattle.fix_lattice.specs.Held.{HoldsSingles, IsNoted}
use Rattle.fix_lattice.proofs.HeldLemmas.{singles-start, singles-put, singles-only}
use Rattle.fix_lattice.specs.Subspaces.{AreHeld, exact_forms}
use Rattle.fix_lattice.proofs.CostLemmas.{cost-step}
use Rattle.fix_lattice.proofs.FormLemmas.{held-none}
use Rattle.fix_lattice.proofs.singles.hold_singles.Goals as goal
use Rattle.fix_lattice.specs.FormLaws.{exact-length}

pub loop-q-init : goal.loop-q-init
loop-q-init g c =
    let f = g.F.Field.field in
    let v = g.F.Field.value in
    let act = g.G.Acts.action c.args.acts.now in
    let tells = equality-told f v g.F.PartialEq.eq g.F.Ord.cmp g.met.F.Ord.matches_eq g.met.F.Field.value_cmp in
    let empty : [] ≡ c.args.held.now.keys = sym c.requires.empty in
    let n = ap length c.requires.empty in
    record {
      held = subst (λ (z : List (EchelonView _)). AreHeld f.laws v g.F.PartialEq.eq act.dim z) empty (held-none f v g.F.PartialEq.eq tells act.dim);
      singles = subst (λ (z : List ℕ). HoldsSingles f.laws act (exact_forms f.laws v c.args.held.now.keys) z c.args.singles.now.elements.items 0) (sym c.requires.places)
          (subst (λ (z : List ℕ). HoldsSingles f.laws act (exact_forms f.laws v c.args.held.now.keys) [] z 0) (sym c.requires.elements)
          (subst (λ (z : List (EchelonView _)). HoldsSingles f.laws act (exact_forms f.laws v z) [] [] 0) empty (singles-start f act)));
      within = omega arith;
      cost = omega arith;
    }

pub hold_single-requires-clause-singles : goal.hold_single-requires-clause-singles
hold_single-requires-clause-singles g c =
    let f = g.F.Field.field in
    let v = g.F.Field.value in
    let act = g.G.Acts.action c.args.acts.now in
    singles-only f act (exact_forms f.laws v c.loop-q.held.keys) c.loop-q.singles.places.items c.loop-q.singles.elements.items c.loop-q.q c.loop-q.invariant.singles

pub loop-q-preserved : goal.loop-q-preserved
loop-q-preserved g c =
    let f = g.F.Field.field in
    let v = g.F.Field.value in
    let act = g.G.Acts.action c.args.acts.now in
    let t = c.loop-q.invariant in
    let old = exact_forms f.laws v c.loop-q.held.keys in
    let new = exact_forms f.laws v c.hold_single.new.held.keys in
    let put = c.in_ok-place.ensures.put in
    let n = exact-length f.laws v c.loop-q.held.keys in
    let m = exact-length f.laws v c.hold_single.new.held.keys in
    let longer = put.1.1.grown.longer in
    let short = put.1.1.short in
    let noted : IsNoted (length old) (length new) c.loop-q.q c.loop-q.singles.elements.items c.push_if.new.items.items =
    let before = c.len-before.ensures.len in
    let after = c.len.ensures.len in
    elim (dec c.len-before.result c.len.result) [
      | inl l ↦ inr (omega arith, c.in_ok-push_if.ensures.added (lt-ltb c.len-before.result c.len.result l))
      | inr l ↦ inl (omega arith, c.in_ok-push_if.ensures.same (le-ltb c.len-before.result c.len.result l))
    ] in
    let el : c.loop-q.q < act.group.order = subst (λ (z : ℕ). c.loop-q.q < z) c.order-q-end.ensures c.loop-q-test.true in
    let more = singles-put f act old new c.loop-q.singles.places.items c.loop-q.singles.elements.items c.push_if.new.items.items put.0 c.in_ok-place.place c.loop-q.q el t.singles put.1.0 put.1.1 noted in
    record {
      held = c.in_ok-place.ensures.held;
      singles = subst (HoldsSingles f.laws act new c.push.new.items.items c.push_if.new.items.items) (sym (add-one c.loop-q.q))
          (subst (λ (z : List ℕ). HoldsSingles f.laws act new z c.push_if.new.items.items (suc c.loop-q.q)) (sym c.in_ok-push.ensures) more);
      within = c.in_ok-place.ensures.within;
      cost = cost-step act.dim c.loop-q.q c.args.steps.now c.loop-q.steps c.hold_single.new.steps t.cost c.in_ok-place.ensures.cost;
    }
