use Rattle.std.proofs.Common.{rules, subst, ℤ, List, [], below_more, w32, arith}
use Rattle.std.proofs.lemmas.List.{get_or_default}
use Rattle.space_ops.specs.Op.{vector_of, IsWithin}
use Rattle.algebra.specs.Multiples.{IsMultiple}
use Rattle.kstar.specs.WaveVector.{HasPhase}
use Rattle.algebra.specs.PassedLaws.{passed-from, passed-to}
use Rattle.space_ops.specs.WithinLaws.{within_more}
use Rattle.kstar.proofs.phase.first_bad.Goals as goal

pub lowest-requires-clause-near : goal.lowest-requires-clause-near
lowest-requires-clause-near c =
    passed-to w32 (IsWithin 100000) c.short_value-x.result (search rules) (within_more 10368 100000 c.short_value-x.result (omega arith) c.short_value-x.ensures.within)

pub loop-vector-preserved : goal.loop-vector-preserved
loop-vector-preserved c =
    below_more _ _ c.loop-vector.invariant
    (subst (λ (t : List ℤ). HasPhase (vector_of c.args.row) (vector_of t)) (get_or_default c.args.vectors.now c.loop-vector.vector-index _ [] c.loop-vector-test.true)
    (subst (IsMultiple 6) c.short_value-x.ensures.value (passed-from w32 (IsMultiple 6) c.short_value-x.result (search rules) (c.is_phase.ensures.yes c.if-not-is_phase.false))))
