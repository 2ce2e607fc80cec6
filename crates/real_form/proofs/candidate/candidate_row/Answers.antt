use Rattle.std.proofs.Common.{◌≡◌, ◌<◌, ◌+◌, ℕ, sym, ◌∙◌, ap, subst, arith, length}
use Rattle.std.proofs.lemmas.List.{length_push}
use Rattle.cyclo24.specs.Z24.{exact_z24}
use Rattle.cyclo24.specs.ExactZ24.{z24, z24_laws}
use Rattle.lin_alg.specs.Rows.{vector}
use Rattle.real_form.specs.Candidates.{candidate_entry}
use Rattle.real_form.proofs.PushLemmas.{pushed-next, candidate-filled}
use Rattle.real_form.proofs.candidate.candidate_row.Goals as goal

pub loop-k-preserved : goal.loop-k-preserved
loop-k-preserved c =
    let e = c.in-Ok.ensures.items in (
      ap length e ∙ length_push c.loop-k.row.items c.candidate_value.result ∙ ap (λ k. k + 1) c.loop-k.invariant.0,
      λ i l.
          ap (λ xs. vector z24_laws exact_z24 xs i) e
          ∙ pushed-next z24 exact_z24 (candidate_entry c.args.candidate) c.loop-k.row.items c.candidate_value.result c.loop-k.k c.loop-k.invariant.0 c.candidate_value.ensures c.loop-k.invariant.1 i l,
    )

pub returns : goal.returns
returns c =
    let e : c.loop-k.k ≡ c.args.n = omega (arith, c.loop-k-test.false, c.loop-k.auto.k-end) in
    record {
      len = c.loop-k.invariant.0 ∙ e;
      exact = candidate-filled c.args.n c.args.candidate c.loop-k.row.items (c.loop-k.invariant.0 ∙ e)
          (λ i l. c.loop-k.invariant.1 i (subst (λ (k : ℕ). i < k) (sym e) l));
    }
