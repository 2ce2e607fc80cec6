use Rattle.std.proofs.Common.{◌≡◌, ℕ, ◌≤◌, ◌+◌, ◌*◌, List, length, sym, subst, arith}
use Rattle.fix_lattice.specs.Subspaces.{exact_forms}
use Rattle.class_list.specs.declared.arrows.Arrow.{Arrow}
use Rattle.class_list.specs.Images.{AreArrows}
use Rattle.class_list.proofs.ArrowLemmas.{arrows-none}
use Rattle.class_list.proofs.InsertLemmas.{same-error}
use Rattle.class_list.proofs.arrows.arrows_of.Goals as goal

pub returns-in-Err-clause-wide : goal.returns-in-Err-clause-wide
returns-in-Err-clause-wide g c e = c.in-Err.ensures.wide (same-error _ _ e)

pub returns-in-Err-clause-never : goal.returns-in-Err-clause-never
returns-in-Err-clause-never g c e = c.in-Err.ensures.never (same-error _ _ e)

pub loop-j-init : goal.loop-j-init
loop-j-init g c =
    let f = g.F.Field.field in
    let v = g.F.Field.value in
    let act = g.G.Acts.action c.args.acts.now in
    let forms = exact_forms f.laws v c.args.spaces.now.forms in
    (subst (λ (xs : List Arrow). AreArrows f.laws act forms 0 0 xs) (sym c.new-arrows.ensures.items) (arrows-none f act forms), omega (arith, c.in_ok-line.line.ok.0, c.in_ok-line.ensures.len, c.dim.ensures), omega (arith, c.in_ok-row.row.ok.0, c.in_ok-row.ensures.len, c.dim-2.ensures), omega arith)

pub loop-j-preserved : goal.loop-j-preserved
loop-j-preserved g c =
    let act = g.G.Acts.action c.args.acts.now in
    let n = length c.args.spaces.now.forms in
    let j = c.loop-j.j in
    let a : c.add_arrows.new.steps ≤ c.loop-j.steps + act.dim * n = c.in-Ok.ensures.cost in
    let b : c.loop-j.steps ≤ c.args.steps.now + act.dim * n * j = c.loop-j.invariant.3 in
    let d : act.dim * n * (j + 1) ≡ act.dim * n * j + act.dim * n = grind arith in
    (c.in-Ok.ensures.arrows, c.loop-j.invariant.1, c.loop-j.invariant.2, omega (arith, a, b, d))

pub returns-clause-arrows : goal.returns-clause-arrows
returns-clause-arrows g c =
    let f = g.F.Field.field in
    let v = g.F.Field.value in
    let act = g.G.Acts.action c.args.acts.now in
    let forms = exact_forms f.laws v c.args.spaces.now.forms in
    let e : c.generators-j-end.result ≡ act.generators = c.generators-j-end.ensures in
    let n : c.loop-j.j ≡ act.generators = omega (arith, e) in
    subst (λ (k : ℕ). AreArrows f.laws act forms k 0 c.loop-j.arrows.items) n c.loop-j.invariant.0
