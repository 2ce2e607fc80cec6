use Rattle.std.proofs.Common.{◌≡◌, ◌++◌, take, drop}
use Rattle.iso_text.specs.Cuts.{front, back}
use Rattle.iso_text.specs.Mark.{picks}
use Rattle.iso_text.proofs.cuts.mark_at.Given as goal

abbrev pub invariant-loop-i : goal.invariant-loop-i
invariant-loop-i l = record {
  front : front (picks l.mark) l.text ≡ take l.i l.text ++ front (picks l.mark) (drop l.i l.text);
  back : back (picks l.mark) l.text ≡ back (picks l.mark) (drop l.i l.text);
}
