use Rattle.cyclo24.specs.K24.{exact24}
use Rattle.cyclo24.specs.ExactK24.{k24_laws}
use Rattle.real_form.proofs.LineLemmas.{AreUnits}
use Rattle.real_form.proofs.basis.unit_lines.Given as goal

abbrev pub invariant-loop-i : goal.invariant-loop-i
invariant-loop-i l = AreUnits k24_laws exact24 l.w l.lines.items l.i
