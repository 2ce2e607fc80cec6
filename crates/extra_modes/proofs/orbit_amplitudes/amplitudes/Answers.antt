use Rattle.std.proofs.Common.{ap}
use Rattle.std.specs.Prelude.{Err}
use Rattle.extra_modes.proofs.FamilyLemmas.{same-family}
use Rattle.extra_modes.proofs.orbit_amplitudes.amplitudes.Goals as goal

pub returns-in-Err-Wide-clause-wide : goal.returns-in-Err-Wide-clause-wide
returns-in-Err-Wide-clause-wide c f e = (same-family 9 f e, c.in-Err-Wide.ensures.wide (ap Err c.in-Err-Wide.field-0-is))
