use Rattle.std.proofs.Common.{◌≤◌, ◌^◌, ℤ, subst, sym, ap, lit≤}
use Rattle.std.specs.Int.RustNames.{unsigned_abs}
use Rattle.cyclo24.specs.declared.small.Small.{Small}
use Rattle.cyclo24.specs.SmallLaws.{product_kept, times_fits, times_most}
use Rattle.cyclo24.proofs.small.Small.times.Goals as goal

pub returns-clause-value : goal.returns-clause-value
returns-clause-value c =
    let over : ℤ → Small = λ z. record { n = z } in
    ap over (product_kept c.args.self.n c.args.other.n (2 ^ 28) (2 ^ 28) c.requires.left (lit≤ tt) c.requires.right (lit≤ tt) (times_fits c.args.self.n c.args.other.n c.requires.left c.requires.right))

pub returns-clause-most : goal.returns-clause-most
returns-clause-most c = subst (λ (z : Small). unsigned_abs z.n ≤ 2 ^ 56) (sym (returns-clause-value c)) (times_most c.args.self.n c.args.other.n c.requires.left c.requires.right)
