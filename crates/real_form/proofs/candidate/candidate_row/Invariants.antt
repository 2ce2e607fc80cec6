use Rattle.std.proofs.Common.{◌≡◌, ◌<◌, ℕ, length}
use Rattle.cyclo24.specs.Z24.{exact_z24}
use Rattle.cyclo24.specs.ExactZ24.{z24_laws}
use Rattle.lin_alg.specs.Rows.{vector}
use Rattle.real_form.specs.Candidates.{candidate_entry}
use Rattle.real_form.proofs.candidate.candidate_row.Given as goal

abbrev pub invariant-loop-k : goal.invariant-loop-k
invariant-loop-k l = (length l.row.items ≡ l.k) × ((i : ℕ) → i < l.k → vector z24_laws exact_z24 l.row.items i ≡ candidate_entry l.candidate i)
