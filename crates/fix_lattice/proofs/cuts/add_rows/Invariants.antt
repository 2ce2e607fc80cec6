use Rattle.std.proofs.Common.{◌≡◌, ℕ, ◌≤◌, length, map}
use Rattle.fix_lattice.specs.Cuts.{IsRowMade}
use Rattle.fix_lattice.proofs.cuts.add_rows.Given as goal

abbrev pub invariant-loop : goal.invariant-loop
invariant-loop l = record {
  made : IsRowMade l.n (map (λ r. r.items) l.fn.cuts.items) (map (λ r. r.items) l.cuts.items);
  few : (m : ℕ) → length l.fn.cuts.items ≤ m → l.rows ≤ m → length l.cuts.items ≤ m;
  long : length l.cuts.items ≡ l.counter;
}
