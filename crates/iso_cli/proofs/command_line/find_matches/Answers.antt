use Rattle.std.proofs.Common.{ap, refl, subst, true, List, Result, ◌≡◌, ◌∙◌}
use Rattle.std.proofs.lemmas.Result.{IfOk-weaker}
use Rattle.clap.specs.Walk.{Row, Text}
use Rattle.clap.specs.Simple.{App, is_simple, matches_of}
use Rattle.clap.specs.Faults.{fault_of, is_simple_and_free}
use Rattle.clap.specs.Kinds.{FailsBy}
use Rattle.clap.specs.declared.error.Error.{Error}
use Rattle.clap.proofs.OnLiterals.{clap_on_literals}
use Rattle.iso_cli.specs.CommandLine.{program}
use Rattle.iso_cli.proofs.command_line.find_matches.Goals as goal

simple : is_simple program ≡ true
unfolding program clap_on_literals
simple = refl

free : is_simple_and_free program ≡ true
unfolding program clap_on_literals
free = refl

fails_at : {T : Type 0} (a b : App) (ws : List Text) (r : Result T Error) → a ≡ b → FailsBy (fault_of a ws) r → FailsBy (fault_of b ws) r
fails_at a b ws r e h = subst (λ x. FailsBy (fault_of x ws) r) e h

rows_at : (a b : App) (ws : List Text) (rows : List Row) → a ≡ b → rows ≡ matches_of a ws → rows ≡ matches_of b ws
rows_at a b ws rows e h = subst (λ x. rows ≡ matches_of x ws) e h

pub returns-clause-fails : goal.returns-clause-fails
returns-clause-fails c =
    let app_is = c.in_ok-program.ensures in
    fails_at _ _ _ _ app_is (c.try_get_matches_from.ensures.kinds (ap is_simple_and_free app_is ∙ free))

pub returns-clause-rows : goal.returns-clause-rows
returns-clause-rows c =
    let app_is = c.in_ok-program.ensures in
    IfOk-weaker c.try_get_matches_from.result _ _ (λ m h. rows_at _ _ _ _ app_is (h (ap is_simple app_is ∙ simple)).0) c.try_get_matches_from.ensures.matches
