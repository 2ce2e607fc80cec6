use Rattle.std.proofs.Common.{◌+◌}
use Rattle.cyclo24.specs.K24.{exact24}
use Rattle.cyclo24.specs.ExactK24.{k24}
use Rattle.real_form.specs.Sparse.{pair_rows}
use Rattle.real_form.proofs.CombinedLemmas.{pair-again}
use Rattle.real_form.proofs.SpannedLemmas.{part-empty, part-skip, part-next, part-member}
use Rattle.real_form.proofs.combined.is_combined.Goals as goal

pub returns-then-is_repeated-clause-held : goal.returns-then-is_repeated-clause-held
returns-then-is_repeated-clause-held c =
    let a = pair_rows c.args.phases.now c.args.count c.args.j c.args.k in
    let t = c.args.t in
    part-skip k24 exact24 4 a t c.args.form.now c.requires.held

pub returns-then-is_repeated-clause-combined : goal.returns-then-is_repeated-clause-combined
returns-then-is_repeated-clause-combined c _ = pair-again c.args.phases.now c.args.count c.args.j c.args.k c.args.t (c.is_repeated.ensures c.if-is_repeated.true)

pub returns-in-Ok-No-clause-held : goal.returns-in-Ok-No-clause-held
returns-in-Ok-No-clause-held c =
    let a = pair_rows c.args.phases.now c.args.count c.args.j c.args.k in
    let t = c.args.t in
    part-next k24 exact24 4 a t c.args.form.now c.insert_phases.new.form c.requires.held c.in-Ok-No.ensures.width c.in-Ok-No.ensures.whole c.in-Ok-No.ensures.span

pub returns-in-Ok-No-clause-combined : goal.returns-in-Ok-No-clause-combined
returns-in-Ok-No-clause-combined c _ =
    let a = pair_rows c.args.phases.now c.args.count c.args.j c.args.k in
    let t = c.args.t in
    part-member k24 exact24 4 a t c.args.form.now c.insert_phases.new.form c.requires.held (c.in-Ok-No.ensures.stays c.in-Ok-No.field-0-is) c.in-Ok-No.ensures.span

pub returns-in-Ok-Yes-clause-held : goal.returns-in-Ok-Yes-clause-held
returns-in-Ok-Yes-clause-held c =
    let a = pair_rows c.args.phases.now c.args.count c.args.j c.args.k in
    let t = c.args.t in
    part-next k24 exact24 4 a t c.args.form.now c.insert_phases.new.form c.requires.held c.in-Ok-Yes.ensures.width c.in-Ok-Yes.ensures.whole c.in-Ok-Yes.ensures.span

pub returns-in-Err-Wide-clause-held : goal.returns-in-Err-Wide-clause-held
returns-in-Err-Wide-clause-held c =
    let a = pair_rows c.args.phases.now c.args.count c.args.j c.args.k in
    let t = c.args.t in
    part-empty k24 exact24 4 a (t + 1) c.clear.new.self c.clear.ensures.width c.clear.ensures.whole c.clear.ensures.rows
