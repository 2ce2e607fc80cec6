use Rattle.std.proofs.Common.{arith, ◌≡◌, ◌∙◌, length, refl, sym}
use Rattle.std.proofs.lemmas.Bool.Decides.{nat_tests}
use Rattle.iso_text.specs.Lines.{lines_of}
use Rattle.iso_text.proofs.Starts.{stands_next, stands_skipped, stands_refused, stands_short, stands_whole, at_end}
use Rattle.iso_text.proofs.reading.read_lines.Goals as goal

pub loop-rest-preserved : goal.loop-rest-preserved
loop-rest-preserved c = record {
  stands = stands_next (lines_of c.args.bytes.now) c.loop-rest.number c.loop-rest.draft c.take_line.new.draft c.first_line.result.0.now (lines_of c.loop-rest.rest.now) (lines_of c.first_line.result.1.now) c.loop-rest.invariant.stands c.first_line.ensures.line c.in-Ok.ensures.ok;
  few = omega (arith, c.first_line.ensures.shorter);
}

pub loop-rest-preserved-then-is_skipped : goal.loop-rest-preserved-then-is_skipped
loop-rest-preserved-then-is_skipped c = record {
  stands = stands_skipped (lines_of c.args.bytes.now) c.loop-rest.number c.loop-rest.draft c.first_line.result.0.now (lines_of c.loop-rest.rest.now) (lines_of c.first_line.result.1.now) c.loop-rest.invariant.stands c.first_line.ensures.line (sym c.is_skipped.ensures ∙ c.if-is_skipped.true);
  few = omega (arith, c.first_line.ensures.shorter);
}

pub returns-in-Err-clause-cause : goal.returns-in-Err-clause-cause
returns-in-Err-clause-cause c =
    stands_refused (lines_of c.args.bytes.now) c.loop-rest.number c.loop-rest.draft c.first_line.result.0.now (lines_of c.loop-rest.rest.now) (lines_of c.first_line.result.1.now) c.in-Err.error c.loop-rest.invariant.stands c.first_line.ensures.line c.in-Err.ensures.err

pub returns-in-Some-clause-file : goal.returns-in-Some-clause-file
returns-in-Some-clause-file c =
    let empty : length c.loop-rest.rest.now ≡ 0 = grind (arith, nat_tests) in
    stands_whole (lines_of c.args.bytes.now) c.loop-rest.number c.loop-rest.draft c.in-Some.document (at_end (lines_of c.args.bytes.now) c.loop-rest.number c.loop-rest.draft c.loop-rest.rest.now c.loop-rest.invariant.stands empty) (sym c.in-Some.ensures)

pub returns-in-None-clause-cause : goal.returns-in-None-clause-cause
returns-in-None-clause-cause c =
    let empty : length c.loop-rest.rest.now ≡ 0 = grind (arith, nat_tests) in
    (c.loop-rest.number, refl, stands_short (lines_of c.args.bytes.now) c.loop-rest.number c.loop-rest.draft (at_end (lines_of c.args.bytes.now) c.loop-rest.number c.loop-rest.draft c.loop-rest.rest.now c.loop-rest.invariant.stands empty) (sym c.in-None.ensures))
