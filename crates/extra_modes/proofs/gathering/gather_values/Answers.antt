use Rattle.std.proofs.Common.{sym, ◌∙◌, subst, List}
use Rattle.std.proofs.lemmas.List.Elements.{All-map}
use Rattle.std.specs.List.{All}
use Rattle.space_ops.specs.Op.{IsShiftWithin}
use Rattle.extra_modes.specs.declared.amount_lines.AmountLine.{AmountLine}
use Rattle.extra_modes.specs.Amounts.{value_line}
use Rattle.extra_modes.proofs.PlaceLemmas.{site_near}
use Rattle.extra_modes.proofs.gathering.gather_values.Goals as goal

pub gather-requires-clause-near : goal.gather-requires-clause-near
gather-requires-clause-near c =
    subst (λ (ls : List AmountLine). All (λ (l : AmountLine). IsShiftWithin 1200000000 l.place) ls) (sym (c.deref.ensures.value ∙ c.in-Ok.ensures))
    (All-map (λ (l : AmountLine). IsShiftWithin 1200000000 l.place) value_line c.args.lines.now
    (λ k d l. let h = c.requires.lines k d l in site_near _ _ h))
