use Rattle.std.proofs.Common.{ap, ◌≡◌, ◌∙◌}
use Rattle.std.proofs.lemmas.Result.{IfOk-weaker}
use Rattle.iso_cli.specs.CommandLine.{texts_found}
use Rattle.iso_cli.specs.Commands.{job_by}
use Rattle.iso_cli.specs.JobOf.{job_of, texts_of}
use Rattle.iso_cli.proofs.ClapJob.{meaning, found_job}
use Rattle.iso_cli.proofs.words.read_words.Goals as goal

pub returns-in-Ok : goal.returns-in-Ok
returns-in-Ok c =
    let value : c.job.result ≡ job_of (texts_of c.args.words.now) = c.job.ensures.job ∙ ap (λ rows. job_by (texts_found rows)) c.in-Ok.ensures.rows ∙ found_job (texts_of c.args.words.now) c.in-Ok.ensures.fails in
    record { value = value; means = meaning (texts_of c.args.words.now) c.job.result value; number = c.job.ensures.number }

pub returns-in-Err : goal.returns-in-Err
returns-in-Err c =
    let value = c.refused.ensures.job (texts_of c.args.words.now) c.in-Err.ensures.fails in
    record { value = value; means = IfOk-weaker c.refused.result _ _ (λ job is. meaning (texts_of c.args.words.now) job is) value; number = c.refused.ensures.number }
