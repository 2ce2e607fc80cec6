use Rattle.std.proofs.Common.{◌∙◌, ℕ, List, Bor}
use Rattle.std.specs.Str.{bytes_eq}
use Rattle.clap.proofs.WalkLemmas.{list_any-map}
use Rattle.iso_cli.proofs.values.is_among.Goals as goal

pub returns : goal.returns
returns c = c.contains.ensures.value ∙ list_any-map (λ (t : List ℕ). bytes_eq t c.args.command.now) (λ (s : Bor (List ℕ)). s.now) c.args.commands.now
