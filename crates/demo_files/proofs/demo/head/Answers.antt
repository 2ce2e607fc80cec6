use Rattle.demo_files.proofs.DemoTexts.{head-text}
use Rattle.demo_files.proofs.demo.head.Goals as goal

pub returns : goal.returns
returns c =
    head-text c.args.number _ _ _ _ _ _ _ _ c.new-text.ensures c.in_ok-push.ensures.ok c.in_ok-push-2.ensures.ok c.in_ok-push-3.ensures.ok c.in_ok-push-4.ensures.ok c.in_ok-push-5.ensures.ok
    c.symbol.ensures c.wave_vector.ensures
