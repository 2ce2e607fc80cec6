use Rattle.std.proofs.Common.{◌≡◌, ◌*◌, drop, pos}
use Rattle.algebra.specs.Whole.{whole}
use Rattle.cyclo24.specs.Eight.{add8}
use Rattle.cyclo24.specs.Written8.{eight_of}
use Rattle.cyclo24.specs.Terms.{terms8, AreAtMost}
use Rattle.cyclo24.proofs.terms.sum_of_terms.Given as goal

-- what is held and what is left to sum make the whole sum
abbrev pub invariant-loop-term : goal.invariant-loop-term
invariant-loop-term l = record {
  value : add8 whole (eight_of l.sum) (terms8 (drop l.term-index l.terms)) ≡ terms8 l.terms;
  low : l.sum.d ≡ record { n = pos 24 };
  most : AreAtMost (30720000 * l.term-index) l.sum;
}
