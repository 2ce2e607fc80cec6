use Rattle.std.proofs.Common.{rules, ◌≡◌, ◌<◌, ℕ, length, get_or, sym, ◌∙◌, subst}
use Rattle.std.proofs.lemmas.Cmp.{on_total}
use Rattle.std.proofs.lemmas.List.{get_or_default}
use Rattle.std.specs.Cmp.{IsTotalOrder}
use Rattle.lin_alg.specs.CompareLaws.{lines_total}
use Rattle.class_list.specs.declared.arrows.Arrow.{Arrow}
use Rattle.class_list.specs.Ranks.{place_cmp, rows_at}
use Rattle.class_list.proofs.LeastLemmas.{within-at, carrying-start, carrying-kept, carrying-written, carrying-end}
use Rattle.class_list.proofs.classes.carry.Goals as goal
use Rattle.class_list.proofs.classes.carry.Goals.{then-is_before, else-is_before}

abbrev none : Arrow
none = record { from = 0; to = 0 }

pub bounds-least-arrow : goal.bounds-least-arrow
bounds-least-arrow g c =
    let w = within-at (length c.args.spaces.now.forms) c.args.arrows.now c.loop-arrow.arrow-index none c.requires.within c.loop-arrow-test.true in
    let s : length c.loop-arrow.least ≡ length c.args.spaces.now.forms = c.loop-arrow.invariant.least.size in
    subst (λ (n : ℕ). (get_or c.args.arrows.now c.loop-arrow.arrow-index none).from < n) (sym s) w.0

pub bounds-least-arrow-in-loop-arrow : goal.bounds-least-arrow-in-loop-arrow
bounds-least-arrow-in-loop-arrow g c =
    let w = within-at (length c.args.spaces.now.forms) c.args.arrows.now c.loop-arrow.arrow-index none c.requires.within c.loop-arrow-test.true in
    let s : length c.loop-arrow.least ≡ length c.args.spaces.now.forms = c.loop-arrow.invariant.least.size in
    subst (λ (n : ℕ). (get_or c.args.arrows.now c.loop-arrow.arrow-index none).to < n) (sym s) w.1

pub bounds-least-arrow-then-is_before : goal.bounds-least-arrow-then-is_before
bounds-least-arrow-then-is_before g c =
    let w = within-at (length c.args.spaces.now.forms) c.args.arrows.now c.loop-arrow.arrow-index none c.requires.within c.loop-arrow-test.true in
    let s : length c.loop-arrow.least ≡ length c.args.spaces.now.forms = c.loop-arrow.invariant.least.size in
    subst (λ (n : ℕ). (get_or c.args.arrows.now c.loop-arrow.arrow-index none).to < n) (sym s) w.1

pub offset_bounds-least-arrow : goal.offset_bounds-least-arrow
offset_bounds-least-arrow g c =
    let w = within-at (length c.args.spaces.now.forms) c.args.arrows.now c.loop-arrow.arrow-index none c.requires.within c.loop-arrow-test.true in
    let s : length c.loop-arrow.least ≡ length c.args.spaces.now.forms = c.loop-arrow.invariant.least.size in
    let k : (get_or c.args.arrows.now c.loop-arrow.arrow-index none).from < length c.loop-arrow.least = subst (λ (n : ℕ). (get_or c.args.arrows.now c.loop-arrow.arrow-index none).from < n) (sym s) w.0 in
    search rules

pub offset_bounds-least-arrow-in-loop-arrow : goal.offset_bounds-least-arrow-in-loop-arrow
offset_bounds-least-arrow-in-loop-arrow g c =
    let w = within-at (length c.args.spaces.now.forms) c.args.arrows.now c.loop-arrow.arrow-index none c.requires.within c.loop-arrow-test.true in
    let s : length c.loop-arrow.least ≡ length c.args.spaces.now.forms = c.loop-arrow.invariant.least.size in
    let k : (get_or c.args.arrows.now c.loop-arrow.arrow-index none).to < length c.loop-arrow.least = subst (λ (n : ℕ). (get_or c.args.arrows.now c.loop-arrow.arrow-index none).to < n) (sym s) w.1 in
    search rules

pub offset_bounds-least-arrow-then-is_before : goal.offset_bounds-least-arrow-then-is_before
offset_bounds-least-arrow-then-is_before g c =
    let w = within-at (length c.args.spaces.now.forms) c.args.arrows.now c.loop-arrow.arrow-index none c.requires.within c.loop-arrow-test.true in
    let s : length c.loop-arrow.least ≡ length c.args.spaces.now.forms = c.loop-arrow.invariant.least.size in
    let k : (get_or c.args.arrows.now c.loop-arrow.arrow-index none).to < length c.loop-arrow.least = subst (λ (n : ℕ). (get_or c.args.arrows.now c.loop-arrow.arrow-index none).to < n) (sym s) w.1 in
    search rules

pub is_before-requires-clause-a : goal.is_before-requires-clause-a
is_before-requires-clause-a g c =
    let w = within-at (length c.args.spaces.now.forms) c.args.arrows.now c.loop-arrow.arrow-index none c.requires.within c.loop-arrow-test.true in
    c.loop-arrow.invariant.least.below (get_or c.args.arrows.now c.loop-arrow.arrow-index none).from w.0

pub is_before-requires-clause-b : goal.is_before-requires-clause-b
is_before-requires-clause-b g c =
    let w = within-at (length c.args.spaces.now.forms) c.args.arrows.now c.loop-arrow.arrow-index none c.requires.within c.loop-arrow-test.true in
    c.loop-arrow.invariant.least.below (get_or c.args.arrows.now c.loop-arrow.arrow-index none).to w.1

pub loop-arrow-preserved : goal.loop-arrow-preserved
loop-arrow-preserved g c =
    let es = c.args.spaces.now.forms in
    let n = length es in
    let cmp = place_cmp g.F.Ord.cmp es in
    let o : IsTotalOrder cmp = on_total (rows_at es) (lines_total g.met.F.Ord.total) in
    let i = c.loop-arrow.arrow-index in
    let s : Arrow = get_or c.args.arrows.now i none in
    let e : s ≡ get_or c.args.arrows.now i s = get_or_default c.args.arrows.now i none s c.loop-arrow-test.true in
    elim c.if-is_before.branch [
      | then-is_before w ↦
          rw (w.least-is, w.carried-is) (carrying-written cmp o n c.args.arrows.now c.args.least.now c.loop-arrow.least i c.loop-arrow.carried s c.requires.within c.loop-arrow-test.true e
          (sym c.is_before.ensures ∙ w.if-is_before.true) c.loop-arrow.invariant)
      | else-is_before w ↦
          rw (w.least-is, w.carried-is) (carrying-kept cmp o n c.args.arrows.now c.args.least.now c.loop-arrow.least i c.loop-arrow.carried s c.loop-arrow-test.true e
          (sym c.is_before.ensures ∙ w.if-is_before.false) c.loop-arrow.invariant)
    ]

pub returns-clause-settled : goal.returns-clause-settled
returns-clause-settled g c e =
    let es = c.args.spaces.now.forms in
    carrying-end (place_cmp g.F.Ord.cmp es) (on_total (rows_at es) (lines_total g.met.F.Ord.total)) (length es) c.args.arrows.now c.args.least.now c.loop-arrow.least c.loop-arrow.arrow-index c.loop-arrow.carried c.loop-arrow-test.false c.loop-arrow.invariant e

pub loop-arrow-init : goal.loop-arrow-init
loop-arrow-init g c =
    let es = c.args.spaces.now.forms in
    carrying-start (place_cmp g.F.Ord.cmp es) (on_total (rows_at es) (lines_total g.met.F.Ord.total)) (length es) c.args.arrows.now c.args.least.now c.requires.least
