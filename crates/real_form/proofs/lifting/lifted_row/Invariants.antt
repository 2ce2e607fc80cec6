use Rattle.std.proofs.Common.{◌≡◌, ◌<◌, ℕ, length}
use Rattle.cyclo24.specs.K24.{exact24}
use Rattle.cyclo24.specs.Z24.{exact_z24}
use Rattle.cyclo24.specs.ExactK24.{k24_laws}
use Rattle.cyclo24.specs.ExactZ24.{z24_laws}
use Rattle.lin_alg.specs.Rows.{vector}
use Rattle.real_form.specs.Parts.{lifted}
use Rattle.real_form.specs.Complexes.{z24_parts}
use Rattle.real_form.proofs.lifting.lifted_row.Given as goal

abbrev pub invariant-loop-j : goal.invariant-loop-j
invariant-loop-j l = (length l.entries.items ≡ l.j) × ((i : ℕ) → i < l.j → vector z24_laws exact_z24 l.entries.items i ≡ lifted z24_parts l.n (vector k24_laws exact24 l.row) i)
