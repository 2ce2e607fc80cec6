use Rattle.std.proofs.Common.{◌≡◌, ◌<◌, ℕ, vec_len}
use Rattle.cyclo24.specs.ExactK24.{k24_laws}
use Rattle.cyclo24.specs.K24.{exact24}
use Rattle.lin_alg.specs.Rows.{vector}
use Rattle.mode_project.specs.OrbitAmplitudes.{in_wholes}
use Rattle.mode_project.proofs.orbit_amplitudes.wholes.Given as goal

abbrev pub invariant-loop-column : goal.invariant-loop-column
invariant-loop-column g l = record {
  len : vec_len l.all ≡ l.column;
  done : (c : ℕ) → c < l.column → vector k24_laws exact24 l.all.items c ≡ in_wholes (g.N.AtomNumbers.number l.numbers l.orbit) c;
}
