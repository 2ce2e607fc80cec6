use Rattle.std.proofs.Common.{◌≡◌, pos, map, take}
use Rattle.iso_watch.specs.Tally.{tally_words}
use Rattle.iso_watch.proofs.tally.TallyWatch.line.Given as goal

abbrev pub invariant-loop-dim : goal.invariant-loop-dim
invariant-loop-dim l = l.text ≡ tally_words (map (λ n. pos n) (take l.dim l.self-inside.counts))
