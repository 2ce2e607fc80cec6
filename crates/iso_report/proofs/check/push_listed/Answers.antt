use Rattle.std.proofs.Common.{◌∙◌, ◌++◌, ◌<◌, ◌≤◌, length, get_or, take, flat_map, sym, ap, arith, append_assoc}
use Rattle.std.proofs.lemmas.List.{take_all}
use Rattle.space_ops.specs.Op.{identity_op}
use Rattle.report_steps.specs.OpLines.{listed_line}
use Rattle.iso_report.proofs.CheckLemmas.{flat_map_more}
use Rattle.iso_report.proofs.check.push_listed.Goals as goal

pub loop-i-preserved : goal.loop-i-preserved
loop-i-preserved c =
    let ops = c.args.group.now.ops in
    let i = c.loop-i.i in
    let inside : i < length ops = omega (arith, c.loop-i.invariant.end) in
    record {
      end = c.loop-i.invariant.end;
      text = c.in_ok-push.ensures.ok ∙ ap (λ t. c.loop-i.text ++ t) (c.as_slice.ensures ∙ c.in_ok-added.ensures ∙ ap listed_line c.op.ensures.value) ∙ ap (λ t. t ++ listed_line (get_or ops i identity_op)) c.loop-i.invariant.text
          ∙ append_assoc c.args.text.now (flat_map listed_line (take i ops)) (listed_line (get_or ops i identity_op)) ∙ ap (λ t. c.args.text.now ++ t) (sym (flat_map_more listed_line ops i identity_op inside));
    }

pub returns : goal.returns
returns c =
    let ops = c.args.group.now.ops in
    let whole : length ops ≤ c.loop-i.i = omega (arith, c.loop-i.invariant.end) in
    c.loop-i.invariant.text ∙ ap (λ xs. c.args.text.now ++ flat_map listed_line xs) (take_all c.loop-i.i ops whole)
