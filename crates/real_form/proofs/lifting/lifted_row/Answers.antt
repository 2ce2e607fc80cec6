use Rattle.std.proofs.Common.{◌≡◌, ◌<◌, ◌+◌, ℕ, sym, ◌∙◌, ap, subst, arith, length}
use Rattle.std.proofs.lemmas.List.{length_push}
use Rattle.cyclo24.specs.K24.{exact24}
use Rattle.cyclo24.specs.Z24.{exact_z24}
use Rattle.cyclo24.specs.ExactK24.{k24_laws}
use Rattle.cyclo24.specs.ExactZ24.{z24, z24_laws}
use Rattle.lin_alg.specs.Rows.{vector}
use Rattle.real_form.specs.Parts.{lifted}
use Rattle.real_form.specs.Complexes.{z24_parts}
use Rattle.real_form.proofs.PartsLaws.{lifted-past}
use Rattle.real_form.proofs.PushLemmas.{pushed-next, pushed-all}
use Rattle.real_form.proofs.lifting.lifted_row.Goals as goal

pub loop-j-preserved : goal.loop-j-preserved
loop-j-preserved c =
    let e = c.in-Ok-push.ensures.items in
    let t = lifted z24_parts c.args.n (vector k24_laws exact24 c.args.row.now) in (
      ap length e ∙ length_push c.loop-j.entries.items c.in-Ok.entry ∙ ap (λ k. k + 1) c.loop-j.invariant.0,
      λ i l.
          ap (λ xs. vector z24_laws exact_z24 xs i) e
          ∙ pushed-next z24 exact_z24 t c.loop-j.entries.items c.in-Ok.entry c.loop-j.j c.loop-j.invariant.0 c.in-Ok.ensures.exact c.loop-j.invariant.1 i l,
    )

pub returns-clause-len : goal.returns-clause-len
returns-clause-len c =
    let e : c.loop-j.j ≡ c.args.n = omega (arith, c.loop-j-test.false, c.loop-j.auto.j-end) in
    c.loop-j.invariant.0 ∙ e

pub returns-clause-exact : goal.returns-clause-exact
returns-clause-exact c =
    let e : c.loop-j.j ≡ c.args.n = omega (arith, c.loop-j-test.false, c.loop-j.auto.j-end) in
    let v = vector k24_laws exact24 c.args.row.now in
    pushed-all z24 exact_z24 (lifted z24_parts c.args.n v) c.args.n c.loop-j.entries.items (c.loop-j.invariant.0 ∙ e) (λ j l. lifted-past z24_parts c.args.n v j l)
    (λ i l. c.loop-j.invariant.1 i (subst (λ (k : ℕ). i < k) (sym e) l))
