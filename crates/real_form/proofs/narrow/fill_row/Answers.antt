use Rattle.std.proofs.Common.{◌∙◌}
use Rattle.cyclo24.specs.K24.{exact24}
use Rattle.cyclo24.specs.ShortK24.{exact_short}
use Rattle.cyclo24.specs.ExactK24.{k24_laws}
use Rattle.lin_alg.specs.Matrix.{entry}
use Rattle.real_form.proofs.FilledLemmas.{filled-next}
use Rattle.real_form.proofs.narrow.fill_row.Goals as goal

pub loop-j-preserved : goal.loop-j-preserved
loop-j-preserved c = (
  c.set.ensures.rows ∙ c.loop-j.invariant.0,
  c.set.ensures.cols ∙ c.loop-j.invariant.1,
  filled-next (entry k24_laws exact_short c.args.into.now) (entry k24_laws exact_short c.loop-j.into) (entry k24_laws exact_short c.set.new.self) c.args.i
      (entry k24_laws exact24 c.args.matrix.now c.args.i) c.loop-j.j (exact_short c.in-Some.short) (c.in-Some.ensures.exact ∙ c.get.ensures) c.set.ensures.entries c.loop-j.invariant.2,
)
