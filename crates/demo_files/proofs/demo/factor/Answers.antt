use Rattle.std.proofs.Common.{◌∙◌, sym, subst, rules, w32}
use Rattle.std.proofs.lemmas.Int.{to_z-of_z}
use Rattle.algebra.specs.Whole.{whole}
use Rattle.space_ops.specs.Matrix.{determinant}
use Rattle.space_ops.specs.Op.{IsWithin, matrix_of}
use Rattle.demo_files.proofs.DemoTexts.{unit-near}
use Rattle.demo_files.proofs.demo.factor.Goals as goal

pub returns-else-number-eq0-clause-near : goal.returns-else-number-eq0-clause-near
returns-else-number-eq0-clause-near c =
    subst (IsWithin 1) (sym (to_z-of_z w32 c.det.result (search rules) ∙ c.det.ensures)) (unit-near (determinant whole (matrix_of c.args.op.rot)) c.requires.unimodular)
