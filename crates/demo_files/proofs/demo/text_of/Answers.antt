use Rattle.demo_files.proofs.DemoTexts.{file-text}
use Rattle.demo_files.proofs.demo.text_of.Goals as goal

pub returns : goal.returns
returns c =
    file-text c.args.number c.args.group.now.ops _ _ _ _ _ _ _ c.in_ok-text.ensures c.in_ok-push_matrices.ensures c.in_ok-push.ensures.ok c.in_ok-push-2.ensures.ok c.in_ok-push-3.ensures.ok
    c.perovskite.ensures c.general.ensures
