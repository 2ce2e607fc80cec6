use Rattle.std.proofs.Common.{◌∙◌, sym, refl}
use Rattle.cyclo24.specs.Short4.{numerators, wide_of}
use Rattle.cyclo24.specs.Short4Laws.{lowest_by_whole}
use Rattle.cyclo24.specs.Written4.{numbers4}
use Rattle.cyclo24.proofs.short4.Short4.reduced.Goals as goal

pub returns-then-is_one-clause-lowest : goal.returns-then-is_one-clause-lowest
returns-then-is_one-clause-lowest c =
    lowest_by_whole (numerators c.args.self) (numbers4 (wide_of c.args.self)) c.args.self.d.n c.content-all.result c.requires.positive c.content-all.ensures.value (sym c.is_one.ensures ∙ c.if-is_one.true) refl
