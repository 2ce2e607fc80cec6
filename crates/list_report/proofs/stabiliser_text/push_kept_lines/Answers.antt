use Rattle.std.proofs.Common.{◌∙◌, sym, ap, ℕ, ◌++◌, ◌/◌, [], Bool, cond, nat_eq, get_or, take, length, filter, flat_map, arith, append_assoc}
use Rattle.list_report.specs.StabiliserText.{kept_line}
use Rattle.list_report.proofs.PieceLemmas.{pieces-more}
use Rattle.list_report.proofs.stabiliser_text.push_kept_lines.Goals as goal

pub loop-a-preserved : goal.loop-a-preserved
loop-a-preserved c =
    let s = c.args.quotient.now in
    let xs = c.args.members.now in
    let i = c.loop-a.a-index in
    let p : ℕ → Bool = λ a. nat_eq (a / length s.translations) 0 in
    let f = kept_line s in
    let piece = cond (p (get_or xs i 0)) (f (get_or xs i 0)) [] in
    c.in_ok-push_kept.ensures ∙ ap (λ t. t ++ piece) c.loop-a.invariant ∙ append_assoc c.args.text.now (flat_map f (filter p (take i xs))) piece
    ∙ ap (λ t. c.args.text.now ++ t) (sym (pieces-more f p xs i 0 (omega arith)))
