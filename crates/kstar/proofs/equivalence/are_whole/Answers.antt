use Rattle.std.proofs.Common.{rules, subst, sym, ℤ, List, [], below_more, w64}
use Rattle.std.proofs.lemmas.List.{get_or_default}
use Rattle.space_ops.specs.Op.{vector_of}
use Rattle.algebra.specs.Multiples.{IsMultiple}
use Rattle.kstar.specs.WaveVector.{row_value}
use Rattle.algebra.specs.PassedLaws.{passed-from, passed-to}
use Rattle.kstar.proofs.equivalence.are_whole.Goals as goal

pub loop-vector-preserved : goal.loop-vector-preserved
loop-vector-preserved c =
    below_more _ _ c.loop-vector.invariant
    (subst (λ (t : List ℤ). IsMultiple 144 (row_value (vector_of c.args.row) (vector_of t))) (get_or_default c.args.vectors.now c.loop-vector.vector-index _ [] c.loop-vector-test.true)
    (subst (IsMultiple 144) c.value.ensures.value (passed-from w64 (IsMultiple 144) c.value.result (search rules) (c.is_whole.ensures.yes c.if-not-is_whole.false))))

pub returns-then-not-is_whole-clause-no : goal.returns-then-not-is_whole-clause-no
returns-then-not-is_whole-clause-no c e = (
  c.loop-vector.vector-index,
  c.loop-vector-test.true,
  λ h.
      c.is_whole.ensures.no c.if-not-is_whole.true
      (passed-to w64 (IsMultiple 144) c.value.result (search rules)
      (subst (IsMultiple 144) (sym c.value.ensures.value)
      (subst (λ (t : List ℤ). IsMultiple 144 (row_value (vector_of c.args.row) (vector_of t))) (get_or_default c.args.vectors.now c.loop-vector.vector-index [] _ c.loop-vector-test.true) h))),
)
