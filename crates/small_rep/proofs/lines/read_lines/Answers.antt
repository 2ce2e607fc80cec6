use Rattle.std.proofs.Common.{◌≡◌, ◌∙◌, ◌<◌, ◌++◌, ◌∷◌, [], false, List, ℕ, subst, length}
use Rattle.std.proofs.lemmas.List.{get_or_default}
use Rattle.small_rep.specs.SmallRep.{is_listed}
use Rattle.small_rep.specs.Reading.{no_line}
use Rattle.small_rep.specs.LinesRead.{IsLineCause}
use Rattle.small_rep.proofs.ReadLemmas.{read-more, block_cause}
use Rattle.small_rep.proofs.lines.read_lines.Goals as goal

pub returns-in-Err-clause-cause : goal.returns-in-Err-clause-cause
returns-in-Err-clause-cause c =
    let l : c.loop-mat.mat-index < length c.args.mats.now = c.loop-mat-test.true in
    block_cause c.args.group.now c.args.star.now c.args.size c.args.mats.now c.loop-mat.mat-index c.loop-mat.rotations.items c.loop-mat.matrices.items c.loop-mat.invariant c.mat-item.result
    (c.mat-item.is ∙ get_or_default c.args.mats.now c.loop-mat.mat-index c.mat-item.result no_line l) l c.in-Err.error
    (subst (λ (xs : List ℕ). IsLineCause c.args.group.now c.args.star.now c.mat-item.result xs c.in-Err.error) c.deref.ensures.value c.in-Err.ensures.cause)

pub loop-mat-preserved : goal.loop-mat-preserved
loop-mat-preserved c =
    let l : c.loop-mat.mat-index < length c.args.mats.now = c.loop-mat-test.true in
    let pushed : c.push.new.self.items ≡ c.loop-mat.rotations.items ++ c.in-Ok.rotation ∷ [] = c.in-Ok-push.ensures.items in
    let kept : c.push-in-Ok.new.self.items ≡ c.loop-mat.matrices.items ++ c.in-Ok.matrix ∷ [] = c.in-Ok-push-2.ensures.items in
    read-more c.args.group.now c.args.star.now c.args.size c.args.mats.now c.loop-mat.mat-index c.loop-mat.rotations.items c.loop-mat.matrices.items c.loop-mat.invariant c.mat-item.result
    (c.mat-item.is ∙ get_or_default c.args.mats.now c.loop-mat.mat-index c.mat-item.result no_line l) c.in-Ok.ensures.little c.in-Ok.rotation c.in-Ok.ensures.rotation
    (subst (λ (xs : List ℕ). is_listed xs c.in-Ok.rotation ≡ false) c.deref.ensures.value c.in-Ok.ensures.apart)
    c.in-Ok.matrix c.in-Ok.ensures.rows c.in-Ok.ensures.cols c.in-Ok.ensures.entries c.push.new.self.items c.push-in-Ok.new.self.items pushed kept
