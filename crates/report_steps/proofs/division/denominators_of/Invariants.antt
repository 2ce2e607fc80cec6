use Rattle.std.proofs.Common.{◌≡◌, take}
use Rattle.report_steps.proofs.WaveLemmas.{dens_of}
use Rattle.report_steps.proofs.division.denominators_of.Given as goal

abbrev pub invariant-loop-irrep : goal.invariant-loop-irrep
invariant-loop-irrep l = l.dens.items ≡ dens_of (take l.irrep-index l.irreps)
