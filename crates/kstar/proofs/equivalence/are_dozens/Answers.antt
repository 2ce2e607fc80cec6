use Rattle.std.proofs.Common.{◌≡◌, ◌∙◌, sym, true, false, rules, w32}
use Rattle.space_ops.specs.Op.{number_at}
use Rattle.algebra.specs.Multiples.{IsMultiple}
use Rattle.algebra.specs.PassedLaws.{passed-from}
use Rattle.kstar.proofs.equivalence.are_dozens.Goals as goal
use Rattle.kstar.proofs.equivalence.are_dozens.Goals.{then-is_dozen, else-is_dozen}

pub returns-then-is_dozen-2-clause-yes : goal.returns-then-is_dozen-2-clause-yes
returns-then-is_dozen-2-clause-yes c e =
    elim c.if-is_dozen.branch [
      | then-is_dozen w ↦ record {
        x = passed-from w32 (IsMultiple 12) (number_at c.args.row 0) (search rules) (c.is_dozen.ensures.yes w.if-is_dozen.true);
        y = passed-from w32 (IsMultiple 12) (number_at c.args.row 1) (search rules) (w.is_dozen-then-is_dozen.ensures.yes (sym w.value-is ∙ c.if-is_dozen-2.true));
        z = passed-from w32 (IsMultiple 12) (number_at c.args.row 2) (search rules) (c.is_dozen-then-is_dozen-2.ensures.yes e);
      }
      | else-is_dozen w ↦ let d : false ≡ true = sym w.if-is_dozen.false ∙ sym w.value-is ∙ c.if-is_dozen-2.true in cc
    ]
