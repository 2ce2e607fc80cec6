use Rattle.std.proofs.Common.{◌≡◌, refl, sym, ap, ◌∙◌, subst, List, [], ◌∷◌, ◌++◌, true, false, ◌*◌, arith}
use Rattle.space_ops.specs.declared.op.Op.{Op}
use Rattle.algebra.specs.Whole.{whole}
use Rattle.space_ops.specs.Seitz.{Seitz, seitz_inverse}
use Rattle.space_ops.specs.Op.{seitz_of, inverse_of, IsSmallMatrix}
use Rattle.space_ops.specs.OpLaws.{seitz_of-inverse_of}
use Rattle.space_ops.specs.LeastShift.{IsLeastOp}
use Rattle.space_ops.specs.LeastShiftLaws.{cell-within}
use Rattle.space_ops.specs.WithinLaws.{shift_more}
use Rattle.space_ops.proofs.steps.add_steps.Goals as goal

-- what the code's inverse stands for
stands : (g h : Op) → h ≡ inverse_of g → seitz_of h ≡ seitz_inverse whole (seitz_of g)
stands g h e = ap seitz_of e ∙ seitz_of-inverse_of g

pub returns-then-not-is_small-clause-err : goal.returns-then-not-is_small-clause-err
returns-then-not-is_small-clause-err c = (
  refl,
  λ h.
      let k : c.is_small.result ≡ true =
      c.is_small.ensures.1 (subst (λ g. IsSmallMatrix g.rot) (sym (stands c.args.generator c.inverse-inverse.result c.inverse-inverse.ensures.inverse)) h) in
      let d : false ≡ true = sym c.if-not-is_small.true ∙ k in
      cc,
)

pub least_op-requires-2 : goal.least_op-requires-2
least_op-requires-2 c =
    shift_more (3 * (18 * 11)) 60000000 c.inverse-inverse.result.shift (omega arith)
    (c.inverse-inverse.ensures.near 18 11 c.inverse-inverse.ensures.entries (cell-within c.args.generator.shift c.requires.in_cell))

pub returns-clause-ok : goal.returns-clause-ok
returns-clause-ok c =
    let s = stands c.args.generator c.inverse-inverse.result c.inverse-inverse.ensures.inverse in
    record {
      first = c.least_op.result;
      second = c.least_op-2.result;
      added = c.push-2.ensures.items ∙ ap (λ (xs : List Op). xs ++ c.least_op-2.result ∷ []) c.push.ensures.items;
      is_first = c.least_op.ensures.least;
      is_second = subst (λ g. IsLeastOp c.args.lattice g c.least_op-2.result) s c.least_op-2.ensures.least;
      small = subst (λ (g : Seitz _). IsSmallMatrix g.rot) s (c.is_small.ensures.0 c.if-not-is_small.false);
    }
