use Rattle.std.proofs.Common.{arith, ◌≤◌, ◌^◌}
use Rattle.iso_text.proofs.DigitLemmas.{ten_power}
use Rattle.iso_text.proofs.digits.digits.Goals as goal

pub returns-clause-small : goal.returns-clause-small
returns-clause-small c =
    let power : 10 ^ c.loop-byte.byte-index ≤ 1000000 = ten_power c.loop-byte.byte-index (omega arith) in omega (arith, c.loop-byte.invariant.small)
