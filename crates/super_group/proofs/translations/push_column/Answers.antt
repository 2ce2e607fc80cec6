use Rattle.std.proofs.Common.{◌∙◌, subst, sym, List, ℤ, arith}
use Rattle.std.proofs.lemmas.Bool.{iff_false}
use Rattle.super_group.specs.TranslationsBefore.{HasColumn}
use Rattle.super_group.proofs.BeforeLemmas.{column-none, column-end}
use Rattle.super_group.proofs.translations.push_column.Goals as goal

pub returns-then-not-has_column : goal.returns-then-not-has_column
returns-then-not-has_column c =
    column-none c.args.lattice c.args.d c.args.x c.args.y c.args.list.now.items
    (λ h. iff_false c.has_column.ensures c.if-not-has_column.true
    (subst (λ (cs : List (List ℤ)). HasColumn cs c.args.x c.args.y) (sym (c.as_slice.ensures.value ∙ c.centrings.ensures)) h))
    c.requires.before

pub returns : goal.returns
returns c = column-end c.args.lattice c.args.d c.args.x c.args.y c.loop-z.z c.loop-z.list.items (omega arith) c.loop-z.invariant
