use Rattle.std.proofs.Common.{Err, ap}
use Rattle.iso_cli.proofs.Lines.{says_same, fault_answer, memory_answer, long_answer, whole_answer}
use Rattle.iso_cli.proofs.top.answer_source.Goals as goal

pub returns-in-Ok-clause-answers : goal.returns-in-Ok-clause-answers
returns-in-Ok-clause-answers g c =
    whole_answer c.args.job _ (g.S.Source.left c.args.source.now) c.deref.result.now c.in-Ok.bytes.items c.answer.result _ _ c.in-Ok.ensures.all c.deref.ensures.value c.answer.ensures.answers

pub returns-in-Err-ReadFault-clause-answers : goal.returns-in-Err-ReadFault-clause-answers
returns-in-Err-ReadFault-clause-answers g c =
    fault_answer c.args.job _ (g.S.Source.left c.args.source.now) (g.O.Sink.written c.args.out.now) (g.O.Sink.faults c.args.out.now) c.say.result _ c.say.ensures.status
    (says_same _ _ _ c.as_bytes.ensures.value c.say.ensures.says)

pub returns-in-Err-TooLong-clause-answers : goal.returns-in-Err-TooLong-clause-answers
returns-in-Err-TooLong-clause-answers g c =
    long_answer c.args.job _ (g.S.Source.left c.args.source.now) (g.O.Sink.written c.args.out.now) (g.O.Sink.faults c.args.out.now) c.say-in-Err-TooLong.result _ c.say-in-Err-TooLong.ensures.status
    (c.in-Err-TooLong.ensures.too_long (ap (λ e. Err e) c.in-Err-TooLong.field-0-is)) (says_same _ _ _ c.as_bytes-in-Err-TooLong.ensures.value c.say-in-Err-TooLong.ensures.says)

pub returns-in-Err-NoMemory-clause-answers : goal.returns-in-Err-NoMemory-clause-answers
returns-in-Err-NoMemory-clause-answers g c =
    memory_answer c.args.job _ (g.S.Source.left c.args.source.now) (g.O.Sink.written c.args.out.now) (g.O.Sink.faults c.args.out.now) c.say-in-Err-NoMemory.result _ c.say-in-Err-NoMemory.ensures.status
    (says_same _ _ _ c.as_bytes-in-Err-NoMemory.ensures.value c.say-in-Err-NoMemory.ensures.says)
