use Rattle.std.proofs.Common.{◌≡◌, ◌∙◌, ◌<◌, ◌+◌, ℕ, List, ◌∷◌, Bor, ap, refl, sym, drop, length, slice_index_or, drop-cons, add-one, drop_of_length-le}
use Rattle.clap.specs.Simple.{App, app_of, with_rule}
use Rattle.iso_cli.specs.CommandLine.{option_rule, with_options}
use Rattle.iso_cli.specs.JobOf.{texts_of}
use Rattle.iso_cli.specs.Options.{Text}
use Rattle.iso_cli.proofs.command_line.with_options.Goals as goal

-- one more option
more : (old new : App) (names : List (Bor Text)) (i : ℕ) (d : Bor Text) → i < length names → new ≡ with_rule old (option_rule (slice_index_or names i d).now)
    → with_options new (texts_of (drop (i + 1) names)) ≡ with_options old (texts_of (drop i names))
more old new names i d inside e =
    let next : drop i names ≡ slice_index_or names i d ∷ drop (i + 1) names = drop-cons names i d inside ∙ ap (λ n. slice_index_or names i d ∷ drop n names) (sym (add-one i)) in
    ap (λ a. with_options a (texts_of (drop (i + 1) names))) e ∙ sym (ap (λ l. with_options old (texts_of l)) next)

pub loop-name-init : goal.loop-name-init
loop-name-init c = record { left = refl }

pub loop-name-preserved : goal.loop-name-preserved
loop-name-preserved c = record { left = more _ _ c.args.names.now c.loop-name.name-index _ c.loop-name-test.true c.in_ok-command.ensures ∙ c.loop-name.invariant.left }

pub returns : goal.returns
returns c = sym (ap (λ l. with_options (app_of c.loop-name.command) (texts_of l)) (drop_of_length-le c.args.names.now c.loop-name-test.false)) ∙ c.loop-name.invariant.left
