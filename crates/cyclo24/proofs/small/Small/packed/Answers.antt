use Rattle.std.proofs.Common.{◌<◌, ◌^◌, ℤ, ap, sym, subst}
use Rattle.std.specs.Int.RustNames.{unsigned_abs}
use Rattle.cyclo24.specs.declared.packed.Packed.{Packed}
use Rattle.cyclo24.specs.LongLaws.{short_below, packed_fits, packed_is}
use Rattle.cyclo24.proofs.small.Small.packed.Goals as goal

pub overflow_cast-result : goal.overflow_cast-result
overflow_cast-result c = packed_fits c.args.self.n c.requires

pub returns-clause-value : goal.returns-clause-value
returns-clause-value c = let over : ℤ → Packed = λ z. record { n = z } in ap over (packed_is c.args.self.n c.requires)

pub returns-clause-short : goal.returns-clause-short
returns-clause-short c = subst (λ (p : Packed). unsigned_abs p.n < 2 ^ 28) (sym (returns-clause-value c)) (short_below c.args.self.n c.requires)
