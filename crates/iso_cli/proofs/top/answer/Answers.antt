use Rattle.iso_report.specs.Endings.{change}
use Rattle.iso_cli.proofs.Lines.{says_same, grew_nothing, refused_answer, broken_answer, stopped_answer, has-done, has-broken, has-stopped}
use Rattle.iso_cli.proofs.top.answer.Goals as goal

pub returns-in-Ok-clause-answers : goal.returns-in-Ok-clause-answers
returns-in-Ok-clause-answers g c = (c.requires.few, has-done _ _ _ _ (change (g.O.Sink.written c.args.out.now) (g.O.Sink.written c.run.new.out) (g.O.Sink.faults c.args.out.now) (g.O.Sink.faults c.run.new.out)) c.in-Ok.ensures.answer, grew_nothing (g.E.Sink.written c.args.err.now) (g.E.Sink.faults c.args.err.now) (g.E.Sink.faults c.args.err.now))

pub returns-in-Err-Refused-clause-answers : goal.returns-in-Err-Refused-clause-answers
returns-in-Err-Refused-clause-answers g c =
    let fails = rw c.in-Err-Refused.field-0-is at c.in-Err-Refused.ensures.answer in
    refused_answer c.args.job _ c.refuse.result c.args.bytes.now c.in-Err-Refused.refusal _ _ c.requires.few (_, fails.0) fails.1 c.refuse.ensures

pub returns-in-Err-WriteFault-clause-answers : goal.returns-in-Err-WriteFault-clause-answers
returns-in-Err-WriteFault-clause-answers g c =
    broken_answer c.args.job _ c.say.result c.args.bytes.now _ _ c.say.ensures.status c.requires.few (has-broken _ _ _ _ (change (g.O.Sink.written c.args.out.now) (g.O.Sink.written c.run.new.out) (g.O.Sink.faults c.args.out.now) (g.O.Sink.faults c.run.new.out)) (rw c.in-Err-WriteFault.field-0-is at c.in-Err-WriteFault.ensures.answer)) (says_same _ _ _ c.as_bytes.ensures.value c.say.ensures.says)

pub returns-in-Err-NoMemory-clause-answers : goal.returns-in-Err-NoMemory-clause-answers
returns-in-Err-NoMemory-clause-answers g c =
    stopped_answer c.args.job _ c.say-in-Err-NoMemory.result c.args.bytes.now _ _ c.say-in-Err-NoMemory.ensures.status c.requires.few (has-stopped _ _ _ _ (change (g.O.Sink.written c.args.out.now) (g.O.Sink.written c.run.new.out) (g.O.Sink.faults c.args.out.now) (g.O.Sink.faults c.run.new.out)) (rw c.in-Err-NoMemory.field-0-is at c.in-Err-NoMemory.ensures.answer))
    (says_same _ _ _ c.as_bytes-in-Err-NoMemory.ensures.value c.say-in-Err-NoMemory.ensures.says)
