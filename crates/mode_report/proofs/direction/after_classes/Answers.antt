use Rattle.std.proofs.Common.{◌<◌, subst}
use Rattle.mode_report.proofs.DirectionStepLemmas.{subgroup-at, no-direction, one-direction}
use Rattle.mode_report.proofs.direction.after_classes.Goals as goal

pub get-requires : goal.get-requires
get-requires c = subst (λ n. c.in-Some.i < n) c.len.ensures.value c.in-Some.ensures.1

pub after_direction-requires-clause-stabiliser : goal.after_direction-requires-clause-stabiliser
after_direction-requires-clause-stabiliser c =
    subgroup-at c.args.file.divided.quotient c.args.listing c.in-Some.i c.get.result.now c.stabiliser.result.now (subst (λ n. c.in-Some.i < n) c.len.ensures.value c.in-Some.ensures.1) c.get.ensures c.stabiliser.ensures c.requires.stabilisers

pub returns-in-Some : goal.returns-in-Some
returns-in-Some c l n e =
    one-direction c.args.file.divided c.args.number l c.args.name c.args.listing n e c.in-Some.i c.get.result.now c.stabiliser.result.now c.after_direction.result c.in-Some.ensures.0
    (subst (λ m. c.in-Some.i < m) c.len.ensures.value c.in-Some.ensures.1) c.get.ensures c.stabiliser.ensures c.after_direction.ensures

pub returns-in-None : goal.returns-in-None
returns-in-None c l n e = no-direction c.args.file.divided c.args.number l c.args.name c.args.listing n e c.len.result c.len.ensures.value c.in-None.ensures
