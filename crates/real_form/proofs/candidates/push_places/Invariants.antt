use Rattle.std.proofs.Common.{◌≡◌, ◌++◌, map}
use Rattle.std.specs.List.{range_with_len}
use Rattle.real_form.specs.declared.candidate.Candidate.TheVariants.{Place}
use Rattle.real_form.proofs.candidates.push_places.Given as goal

abbrev pub invariant-loop-i : goal.invariant-loop-i
invariant-loop-i l = l.all.items ≡ l.fn.all.items ++ map Place (range_with_len 0 l.i)
