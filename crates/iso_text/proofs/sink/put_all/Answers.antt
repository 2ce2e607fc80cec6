use Rattle.std.proofs.Common.{◌≡◌, ◌-◌, length, take, drop, arith, length-drop, ap}
use Rattle.iso_text.proofs.Pieces.{grown_more, whole_end}
use Rattle.iso_text.proofs.sink.put_all.Goals as goal

pub loop-done-preserved : goal.loop-done-preserved
loop-done-preserved g c =
    let whole : take (length c.args.piece.now - c.loop-done.done) (drop c.loop-done.done c.args.piece.now) ≡ drop c.loop-done.done c.args.piece.now = whole_end c.loop-done.done c.args.piece.now in
    record {
      within = omega (arith, c.in-Ok.ensures.fits, ap length whole, length-drop c.loop-done.done c.args.piece.now);
      faults = omega (arith, c.loop-done.invariant.faults, c.write.ensures.faults);
      written = grown_more _ _ _ c.loop-done.done c.in-Ok.n c.args.piece.now _ whole c.loop-done.invariant.written c.in-Ok.ensures.bytes;
    }
