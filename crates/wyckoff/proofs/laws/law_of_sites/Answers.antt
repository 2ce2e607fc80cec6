use Rattle.std.proofs.Common.{subst, ◌<◌}
use Rattle.wyckoff.specs.OrbitLaws.{site-place, site-subgroup}
use Rattle.wyckoff.proofs.laws.law_of_sites.Goals as goal

pub returns-clause-subgroup : goal.returns-clause-subgroup
returns-clause-subgroup c s atom o i stab h w l st = site-subgroup s h atom o w i stab l st

pub returns-clause-place : goal.returns-clause-place
returns-clause-place c s atom o i q h w l m = site-place s h atom o w i q l (subst (λ n. q < n) w.order m)
