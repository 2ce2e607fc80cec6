use Rattle.std.proofs.Common.{refl, inl}
use Rattle.small_rep.proofs.checked.check_pairs.Goals as goal

pub returns-in-Err-clause-cause : goal.returns-in-Err-clause-cause
returns-in-Err-clause-cause c = (refl, inl c.in-Err.ensures.wide)
