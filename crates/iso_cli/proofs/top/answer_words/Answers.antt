use Rattle.std.proofs.Common.{sym, ◌∙◌}
use Rattle.iso_cli.specs.Reading.{taken_by}
use Rattle.iso_cli.proofs.Completeness.{complete_answer, sound_answer}
use Rattle.iso_cli.proofs.Lines.{grew_nothing, says_same}
use Rattle.iso_cli.proofs.WordsLemmas.{any_memory, usage_memory}
use Rattle.iso_cli.proofs.top.answer_words.Goals as goal

pub returns-in-Ok-Some-clause-complete : goal.returns-in-Ok-Some-clause-complete
returns-in-Ok-Some-clause-complete g c =
    let named = sym (rw c.in-Ok-Some.is at c.read_words.ensures.value) ∙ c.in-Ok-Some.field-0-is in
    complete_answer c.law_of_outcomes.ensures _ c.in-Ok-Some.job named (λ j. taken_by j (g.S.Source.left c.args.source.now)) _ _ _ _ c.answer_job.ensures.answers

pub returns-in-Ok-Some-clause-sound : goal.returns-in-Ok-Some-clause-sound
returns-in-Ok-Some-clause-sound g c =
    let named = sym (rw c.in-Ok-Some.is at c.read_words.ensures.value) ∙ c.in-Ok-Some.field-0-is in
    sound_answer c.law_of_outcomes.ensures _ c.in-Ok-Some.job named (λ j. taken_by j (g.S.Source.left c.args.source.now)) _ _ _ _ c.answer_job.ensures.answers

pub returns-in-Err-clause-usage : goal.returns-in-Err-clause-usage
returns-in-Err-clause-usage g c =
    λ _. (
      grew_nothing (g.O.Sink.written c.args.out.now) (g.O.Sink.faults c.args.out.now) (g.O.Sink.faults c.args.out.now),
      usage_memory c.say-in-Err.result _ c.say-in-Err.ensures.status (says_same _ _ _ c.as_bytes-in-Err.ensures.value c.say-in-Err.ensures.says),
    )

pub returns-in-Err-clause-job : goal.returns-in-Err-clause-job
returns-in-Err-clause-job g c =
    any_memory _ _ (g.S.Source.left c.args.source.now) (g.O.Sink.written c.args.out.now) (g.O.Sink.faults c.args.out.now) c.say-in-Err.result _ c.say-in-Err.ensures.status
    (says_same _ _ _ c.as_bytes-in-Err.ensures.value c.say-in-Err.ensures.says)
