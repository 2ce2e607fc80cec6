use Rattle.std.proofs.Common.{rules, ap, ◌∙◌, w64}
use Rattle.std.proofs.lemmas.Int.{to_z-of_z}
use Rattle.kstar.specs.WaveVector.{turn_of, phase_of}
use Rattle.kstar.proofs.phase.phase.Goals as goal

pub returns : goal.returns
unfolding phase_of
returns c = c.turn.ensures ∙ ap turn_of (to_z-of_z w64 c.value.result (search rules) ∙ c.value.ensures.value)
