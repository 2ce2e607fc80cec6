use Rattle.std.proofs.Common.{◌∙◌, sym, ap, ℕ, ◌/◌, Bool, cond, nat_eq, Some, get_or, length, arith}
use Rattle.list_report.specs.StabiliserText.{earlier_op, operation_of}
use Rattle.list_report.specs.StabiliserParts.{reduced_with}
use Rattle.list_report.proofs.PieceLemmas.{reduced-more}
use Rattle.list_report.proofs.stabiliser_text.least_member.Goals as goal

pub loop-a-preserved : goal.loop-a-preserved
loop-a-preserved c =
    let s = c.args.quotient.now in
    let xs = c.args.members.now in
    let i = c.loop-a.a-index in
    let p : ℕ → Bool = λ a. nat_eq (a / length s.translations) c.args.rotation in
    let g = operation_of s in
    c.with_element-least.ensures ∙ ap (λ o. cond (p (get_or xs i 0)) (Some (reduced_with earlier_op o (g (get_or xs i 0)))) o) c.loop-a.invariant
    ∙ sym (reduced-more earlier_op g p xs i 0 (omega arith))
