use Rattle.std.proofs.Common.{◌≤◌, length, arith, length-drop, ap}
use Rattle.iso_text.proofs.Pieces.{reads_more, reads_none, all_read, whole_end, raised_more}
use Rattle.iso_text.proofs.source.fill.Goals as goal

pub returns-then-n-eq0-clause-bytes : goal.returns-then-n-eq0-clause-bytes
returns-then-n-eq0-clause-bytes g c =
    reads_none _ _ _ c.loop-got.got c.in_ok-n.n c.loop-got.buf c.read.new.buf _ c.if-n-eq0.true c.loop-got.invariant.within (omega arith) c.loop-got.invariant.read c.in_ok-n.ensures.bytes

pub returns-then-n-eq0-clause-end : goal.returns-then-n-eq0-clause-end
returns-then-n-eq0-clause-end g c short =
    let room = ap length (whole_end c.loop-got.got c.loop-got.buf) in
    all_read _ _ c.loop-got.got c.loop-got.buf c.loop-got.invariant.read (c.in_ok-n.ensures.end c.if-n-eq0.true (omega (arith, room, length-drop c.loop-got.got c.loop-got.buf)))

pub loop-got-preserved : goal.loop-got-preserved
loop-got-preserved g c =
    let room = ap length (whole_end c.loop-got.got c.loop-got.buf) in
    let fits : c.in_ok-n.n ≤ length c.read.new.buf = omega (arith, c.in_ok-n.ensures.fits) in
    record {
      within = omega (arith, c.in_ok-n.ensures.fits, room, length-drop c.loop-got.got c.loop-got.buf);
      faults = omega (arith, c.loop-got.invariant.faults, c.read.ensures.faults);
      taken = raised_more c.loop-got.got c.in_ok-n.n _ _ _ c.loop-got.invariant.taken c.in_ok-n.ensures.counted;
      read = reads_more _ _ _ c.loop-got.got c.in_ok-n.n c.loop-got.buf c.read.new.buf _ c.loop-got.invariant.within fits c.loop-got.invariant.read c.in_ok-n.ensures.bytes;
    }
