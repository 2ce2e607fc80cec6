use Rattle.std.proofs.Common.{◌≡◌, ◌<◌, ◌+◌, ℕ, sym, ◌∙◌, ap, subst, arith, List, length}
use Rattle.std.proofs.lemmas.List.{length-map}
use Rattle.std.specs.Prelude.{Err}
use Rattle.lin_alg.specs.declared.errors.LinError.TheVariants.{Wide}
use Rattle.cyclo24.specs.declared.k24.K24.{K24}
use Rattle.cyclo24.specs.K24.{exact24}
use Rattle.cyclo24.specs.ExactK24.{Exact24, k24_laws}
use Rattle.lin_alg.specs.Rows.{vector, exact_rows}
use Rattle.real_form.specs.Parts.{lifted}
use Rattle.real_form.specs.Bases.{row_at}
use Rattle.real_form.specs.Complexes.{z24_parts}
use Rattle.real_form.specs.Vectors.{lines_of}
use Rattle.real_form.specs.Wide.{IsWideLifted}
use Rattle.real_form.proofs.LineLemmas.{item-at, width-at, row-exact, lifted-start, lifted-next}
use Rattle.real_form.proofs.lifting.lifted_rows.Goals as goal

pub loop-line-init : goal.loop-line-init
loop-line-init c =
    lifted-start c.args.n (λ m. lifted z24_parts c.args.n (row_at k24_laws (exact_rows k24_laws exact24 (lines_of c.args.lines.now)) m)) c.new-vectors.result.items c.new-vectors.ensures.items

pub lifted_row-requires : goal.lifted_row-requires
lifted_row-requires c =
    let all = lines_of c.args.lines.now in
    let y : ℕ × List K24 = (c.line-item.result.0, c.line-item.result.1.items) in
    let l : c.loop-line.line-index < length all = rw length-map c.loop-line-test.true in
    ap length c.deref.ensures.value
    ∙ width-at (c.args.n + c.args.n) all c.loop-line.line-index y l (item-at (λ r. (r.0, r.1.items)) c.args.lines.now c.loop-line.line-index c.line-item.result c.loop-line-test.true c.line-item.is) c.requires

pub loop-line-preserved : goal.loop-line-preserved
loop-line-preserved c =
    let n = c.args.n in
    let all = lines_of c.args.lines.now in
    let i = c.loop-line.line-index in
    let y : ℕ × List K24 = (c.line-item.result.0, c.line-item.result.1.items) in
    let l : i < length all = rw length-map c.loop-line-test.true in
    let a : vector k24_laws exact24 c.deref.result.now ≡ row_at k24_laws (exact_rows k24_laws exact24 all) i =
    ap (vector k24_laws exact24) c.deref.ensures.value ∙ row-exact k24_laws exact24 all i y l (item-at (λ r. (r.0, r.1.items)) c.args.lines.now i c.line-item.result c.loop-line-test.true c.line-item.is) in
    lifted-next n (λ m. lifted z24_parts n (row_at k24_laws (exact_rows k24_laws exact24 all) m)) c.loop-line.vectors.items c.push.new.self.items c.in-Ok.row i c.in-Ok-push.ensures.items c.in-Ok.ensures.len
    (c.in-Ok.ensures.exact ∙ ap (lifted z24_parts n) a) c.loop-line.invariant

pub returns-in-Err-clause-wide : goal.returns-in-Err-clause-wide
returns-in-Err-clause-wide c e =
    let n = c.args.n in
    let all = lines_of c.args.lines.now in
    let i = c.loop-line.line-index in
    let y : ℕ × List K24 = (c.line-item.result.0, c.line-item.result.1.items) in
    let l : i < length all = rw length-map c.loop-line-test.true in
    let a : vector k24_laws exact24 c.deref.result.now ≡ row_at k24_laws (exact_rows k24_laws exact24 all) i =
    ap (vector k24_laws exact24) c.deref.ensures.value ∙ row-exact k24_laws exact24 all i y l (item-at (λ r. (r.0, r.1.items)) c.args.lines.now i c.line-item.result c.loop-line-test.true c.line-item.is) in
    (i, c.loop-line-test.true, subst (λ (v : ℕ → Exact24). IsWideLifted n v) a (let same : c.in-Err.error ≡ Wide = cc in c.in-Err.ensures.wide (ap Err same)))

pub returns-clause-len : goal.returns-clause-len
returns-clause-len c =
    let e : c.loop-line.line-index ≡ length c.args.lines.now = omega (arith, c.loop-line-test.false, c.loop-line.auto) in
    c.loop-line.invariant.count ∙ e

pub returns-clause-long : goal.returns-clause-long
returns-clause-long c = c.loop-line.invariant.long

pub returns-clause-exact : goal.returns-clause-exact
returns-clause-exact c =
    let e : c.loop-line.line-index ≡ length c.args.lines.now = omega (arith, c.loop-line-test.false, c.loop-line.auto) in
    λ m l. c.loop-line.invariant.exact m (subst (λ (k : ℕ). m < k) (sym e) l)
