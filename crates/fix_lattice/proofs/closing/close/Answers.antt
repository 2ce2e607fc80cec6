use Rattle.std.proofs.Common.{◌≤◌, ◌+◌, ℕ, List, [], sym, ap, subst, length, map, arith}
use Rattle.std.specs.Prelude.{min}
use Rattle.lin_alg.specs.Echelon.{EchelonView}
use Rattle.lin_alg.specs.RowLaws.{equality-told}
use Rattle.fix_lattice.specs.Classes.{IsClosing}
use Rattle.fix_lattice.specs.Cuts.{cut_count}
use Rattle.fix_lattice.proofs.ClassLemmas.{class-holds}
use Rattle.fix_lattice.proofs.ClosingLemmas.{closing-start}
use Rattle.fix_lattice.specs.Lattice.{HoldsFixes, AreMoreFixes}
use Rattle.fix_lattice.specs.LatticeLaws.{not-more, vector-space, space-vector}
use Rattle.fix_lattice.specs.Subspaces.{exact_forms}
use Rattle.fix_lattice.proofs.CostLemmas.{cost-all, cost-cuts, least-few}
use Rattle.fix_lattice.proofs.CountLemmas.{held-singles}
use Rattle.fix_lattice.proofs.FormLemmas.{held-once}
use Rattle.fix_lattice.proofs.closing.close.Goals as goal
use Rattle.fix_lattice.specs.FormLaws.{exact-length}

pub close_over-requires-clause-closing : goal.close_over-requires-clause-closing
close_over-requires-clause-closing g c =
    let f = g.F.Field.field in
    let v = g.F.Field.value in
    let act = g.G.Acts.action c.args.acts.now in
    let forms = exact_forms f.laws v c.hold_singles.new.held.keys in
    let pl = c.hold_singles.new.singles.places.items in
    let el = c.hold_singles.new.singles.elements.items in
    subst (λ (z : List (List ℕ)). IsClosing f.laws act forms pl el z c.new-4.result.items) (sym (ap (map (λ r. r.items)) c.new-3.ensures.items))
    (subst (λ (z : List (ℕ × ℕ)). IsClosing f.laws act forms pl el [] z) (sym c.new-4.ensures.items)
    (closing-start f act forms pl el c.in_ok-hold_singles.ensures.singles))

pub returns-in_err-close_over-clause-cost : goal.returns-in_err-close_over-clause-cost
returns-in_err-close_over-clause-cost g c s d few few_singles =
    let f = g.F.Field.field in
    let v = g.F.Field.value in
    let act = g.G.Acts.action c.args.acts.now in
    let tells = equality-told f v g.F.PartialEq.eq g.F.Ord.cmp g.met.F.Ord.matches_eq g.met.F.Field.value_cmp in
    let keys = c.hold_singles.new.held.keys in
    let el = c.hold_singles.new.singles.elements.items in
    let pl = c.hold_singles.new.singles.places.items in
    let singles = c.in_ok-hold_singles.ensures.singles in
    let l : length keys ≤ d = held-singles f v g.F.PartialEq.eq tells act act.dim d keys pl el c.hold_singles.ensures.held singles few_singles in
    let e = exact-length f.laws v keys in
    let elements = singles.elements_length in
    let fixes : length el ≤ d = omega arith in
    let n = min s (c.args.limit + 1) in
    let few_cuts = c.close_over.ensures.few n (least-few s c.args.limit (AreMoreFixes f.laws act) few) in
    cost-all act.dim act.group.order (length el) d n c.args.steps.now c.hold_singles.new.steps c.close_over.new.steps fixes c.hold_singles.ensures.cost
    (cost-cuts act.dim (cut_count (map (λ r. r.items) c.new-3.result.items)) (cut_count (map (λ r. r.items) c.close_over.new.tables.cuts.items)) (length el) n c.hold_singles.new.steps c.close_over.new.steps c.close_over.ensures.cost few_cuts)

pub returns-clause-holds : goal.returns-clause-holds
returns-clause-holds g c =
    let f = g.F.Field.field in
    let v = g.F.Field.value in
    let act = g.G.Acts.action c.args.acts.now in
    let tells = equality-told f v g.F.PartialEq.eq g.F.Ord.cmp g.met.F.Ord.matches_eq g.met.F.Field.value_cmp in
    let keys = c.close_over.new.tables.held.keys in
    let held = c.close_over.ensures.held in
    subst (λ (z : List (EchelonView _)). HoldsFixes f.laws act (exact_forms f.laws v z)) (sym c.new-7.ensures.forms)
    (class-holds f act (g.met.G.Acts.lawful c.args.acts.now) (exact_forms f.laws v keys) c.in_ok-close_over.ensures.closed
    (held-once f v g.F.PartialEq.eq tells act.dim keys held.whole held.once))

pub returns-clause-vectors : goal.returns-clause-vectors
returns-clause-vectors g c = vector-space g.F.Field.field (g.G.Acts.action c.args.acts.now) (exact_forms g.F.Field.field.laws g.F.Field.value c.new-7.result.forms) (returns-clause-holds g c)

pub returns-clause-spaces : goal.returns-clause-spaces
returns-clause-spaces g c = space-vector g.F.Field.field (g.G.Acts.action c.args.acts.now) (exact_forms g.F.Field.field.laws g.F.Field.value c.new-7.result.forms) (returns-clause-holds g c)

pub returns-clause-few : goal.returns-clause-few
returns-clause-few g c =
    let f = g.F.Field.field in
    let v = g.F.Field.value in
    let within = c.in_ok-close_over.ensures.within in
    let e = exact-length f.laws v c.close_over.new.tables.held.keys in
    not-more f (g.G.Acts.action c.args.acts.now) (exact_forms f.laws v c.new-7.result.forms) c.args.limit (returns-clause-holds g c)
    (subst (λ (z : List (EchelonView _)). length (exact_forms f.laws v z) ≤ c.args.limit) (sym c.new-7.ensures.forms) (omega arith))

pub returns-clause-cost : goal.returns-clause-cost
returns-clause-cost g c s d few few_singles =
    let f = g.F.Field.field in
    let v = g.F.Field.value in
    let act = g.G.Acts.action c.args.acts.now in
    let tells = equality-told f v g.F.PartialEq.eq g.F.Ord.cmp g.met.F.Ord.matches_eq g.met.F.Field.value_cmp in
    let keys = c.hold_singles.new.held.keys in
    let el = c.hold_singles.new.singles.elements.items in
    let pl = c.hold_singles.new.singles.places.items in
    let singles = c.in_ok-hold_singles.ensures.singles in
    let l : length keys ≤ d = held-singles f v g.F.PartialEq.eq tells act act.dim d keys pl el c.hold_singles.ensures.held singles few_singles in
    let e = exact-length f.laws v keys in
    let elements = singles.elements_length in
    let fixes : length el ≤ d = omega arith in
    let n = min s (c.args.limit + 1) in
    let few_cuts = c.close_over.ensures.few n (least-few s c.args.limit (AreMoreFixes f.laws act) few) in
    cost-all act.dim act.group.order (length el) d n c.args.steps.now c.hold_singles.new.steps c.close_over.new.steps fixes c.hold_singles.ensures.cost
    (cost-cuts act.dim (cut_count (map (λ r. r.items) c.new-3.result.items)) (cut_count (map (λ r. r.items) c.close_over.new.tables.cuts.items)) (length el) n c.hold_singles.new.steps c.close_over.new.steps c.close_over.ensures.cost few_cuts)
