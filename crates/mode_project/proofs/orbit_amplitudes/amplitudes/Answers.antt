use Rattle.std.proofs.Common.{ap}
use Rattle.std.specs.Prelude.{Err}
use Rattle.mode_project.proofs.OrbitLemmas.{same-amp_family}
use Rattle.mode_project.proofs.orbit_amplitudes.amplitudes.Goals as goal

pub returns-in-Err-Wide-clause-wide : goal.returns-in-Err-Wide-clause-wide
returns-in-Err-Wide-clause-wide c f w = (same-amp_family 6 f w, c.in-Err-Wide.ensures.wide (ap Err c.in-Err-Wide.field-0-is))
