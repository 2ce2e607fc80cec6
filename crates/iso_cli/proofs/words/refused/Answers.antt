use Rattle.std.proofs.Common.{sym, true, true≢false, ◌≡◌, ◌∙◌}
use Rattle.clap.specs.Values.{kind_of}
use Rattle.clap.specs.declared.error.kind.ErrorKind.TheVariants as kind
use Rattle.iso_cli.proofs.ClapJob.{usage_job}
use Rattle.iso_cli.proofs.words.refused.Goals as goal

pub returns-else-eq-clause-job : goal.returns-else-eq-clause-job
returns-else-eq-clause-job c =
    let other : kind_of c.args.error.now ≡ kind.OutOfMemory → ⊥ = λ e.
    let k : c.kind.result ≡ kind.OutOfMemory = c.kind.ensures ∙ e in
    let t : c.eq.result ≡ true = rw k at c.eq.ensures in
    absurd (true≢false (sym t ∙ c.if-eq.false)) in
    λ words h. usage_job words c.args.error.now h other
