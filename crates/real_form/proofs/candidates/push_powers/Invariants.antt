use Rattle.std.proofs.Common.{◌≡◌, ◌++◌, map}
use Rattle.std.specs.List.{range_with_len}
use Rattle.real_form.specs.declared.candidate.Candidate.TheVariants.{Pair}
use Rattle.real_form.proofs.candidates.push_powers.Given as goal

abbrev pub invariant-loop-a : goal.invariant-loop-a
invariant-loop-a l = l.all.items ≡ l.fn.all.items ++ map (λ a. Pair l.i l.j a) (range_with_len 0 l.a)
