use Rattle.std.proofs.Common.{◌∙◌}
use Rattle.std.specs.Int.{bit_at}
use Rattle.std.proofs.lemmas.Nat.Bits.{shr_and_one}
use Rattle.lattice_tests.specs.FlipLaws.{flip_second}
use Rattle.lattice_tests.proofs.flips.sign.Goals as goal

pub returns-else-q-i-eq0 : goal.returns-else-q-i-eq0
returns-else-q-i-eq0 g c =
    flip_second g.F.Field.field (bit_at c.args.q c.args.i) (g.F.Field.value c.neg.result) (g.F.Field.value c.one-else-q-i-eq0.result) c.neg.ensures c.one-else-q-i-eq0.ensures
    (λ e. c.if-q-i-eq0.false (shr_and_one c.args.q c.args.i ∙ e))
