use Rattle.std.proofs.Common.{◌≡◌, ℕ, ◌<◌, ◌*◌, false, length}
use Rattle.super_group.specs.Quotient.{element_of}
use Rattle.induce.specs.Induced.{is_block}
use Rattle.induce.proofs.moves.move_of.Given as goal

abbrev pub invariant-loop-j : goal.invariant-loop-j
invariant-loop-j l = (k : ℕ) → k < l.j → is_block l.quotient.parent l.star (element_of l.quotient (l.r * length l.quotient.translations)) k l.i ≡ false
