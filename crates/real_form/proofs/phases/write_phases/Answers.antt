use Rattle.std.proofs.Common.{◌∙◌, ap}
use Rattle.cyclo24.specs.ExactZ24.{real_part, imag_part}
use Rattle.real_form.proofs.PhaseLemmas.{phases-written}
use Rattle.real_form.proofs.phases.write_phases.Goals as goal

pub returns : goal.returns
returns c =
    phases-written c.args.row.now c.in_ok-row.field-0 c.in_ok-row-2.field-0 c.in_ok-row-3.field-0 c.in_ok-row-4.field-0 c.args.p c.args.o c.requires.room
    (c.in_ok-row.ensures.exact ∙ ap real_part c.root-first.ensures) (c.in_ok-row-2.ensures.exact ∙ ap real_part c.root-second.ensures)
    (c.in_ok-row-3.ensures.exact ∙ ap imag_part c.root-first.ensures) (c.in_ok-row-4.ensures.exact ∙ ap imag_part c.root-second.ensures)
