use Rattle.std.proofs.Common.{◌∙◌, sym, ap, arith}
use Rattle.iso_text.specs.declared.sections.IrrepText.{IrrepText}
use Rattle.list_report.proofs.ChoiceLemmas.{names-same, names-apart, place-named, none-named, more-none}
use Rattle.list_report.proofs.choice.place_named.Goals as goal

pub returns-then-eq : goal.returns-then-eq
returns-then-eq c =
    let same = ap (λ (z : IrrepText). z.name) c.index-irreps-i.is ∙ sym c.as_slice.ensures.value ∙ names-same c.as_slice.result.now c.as_slice-in-loop-i.result.now c.if-eq.ensures ∙ c.as_slice-in-loop-i.ensures.value in
    place-named c.args.name.now c.args.irreps.now c.loop-i.i c.index-irreps-i.result (omega arith) c.index-irreps-i.is c.loop-i.invariant same

pub loop-i-preserved : goal.loop-i-preserved
loop-i-preserved c =
    let x = c.index-irreps-i.result in
    more-none c.args.name.now c.args.irreps.now c.loop-i.i x (omega arith) c.index-irreps-i.is c.loop-i.invariant
    (λ e. names-apart c.as_slice.result.now c.as_slice-in-loop-i.result.now c.if-eq.ensures (c.as_slice.ensures.value ∙ sym (ap (λ (z : IrrepText). z.name) c.index-irreps-i.is) ∙ e ∙ sym c.as_slice-in-loop-i.ensures.value))

pub returns : goal.returns
returns c = none-named c.args.name.now c.args.irreps.now c.loop-i.i (omega arith) c.loop-i.invariant
