use Rattle.std.proofs.Common.{◌∙◌, ◌++◌, ◌<◌, ◌≤◌, length, get_or, take, flat_map, sym, ap, arith, append_assoc}
use Rattle.std.proofs.lemmas.List.{take_all}
use Rattle.space_ops.specs.Op.{identity_op}
use Rattle.demo_files.specs.Demo.{matrix_line}
use Rattle.demo_files.proofs.DemoTexts.{flat_map_more}
use Rattle.demo_files.proofs.demo.push_matrices.Goals as goal

pub loop-i-preserved : goal.loop-i-preserved
loop-i-preserved c =
    let ops = c.args.group.now.ops in
    let i = c.loop-i.i in
    let text_of = matrix_line c.args.number in
    let inside : i < length ops = omega (arith, c.loop-i.invariant.end) in
    record {
      end = c.loop-i.invariant.end;
      text = c.in_ok-push.ensures.ok ∙ ap (λ t. c.loop-i.text ++ t) (c.as_slice.ensures ∙ c.in_ok-added.ensures ∙ ap text_of c.op.ensures.value) ∙ ap (λ t. t ++ text_of (get_or ops i identity_op)) c.loop-i.invariant.text
          ∙ append_assoc c.args.text.now (flat_map text_of (take i ops)) (text_of (get_or ops i identity_op)) ∙ ap (λ t. c.args.text.now ++ t) (sym (flat_map_more text_of ops i identity_op inside));
    }

pub returns : goal.returns
returns c =
    let ops = c.args.group.now.ops in
    let whole : length ops ≤ c.loop-i.i = omega (arith, c.loop-i.invariant.end) in
    c.loop-i.invariant.text ∙ ap (λ xs. c.args.text.now ++ flat_map (matrix_line c.args.number) xs) (take_all c.loop-i.i ops whole)
