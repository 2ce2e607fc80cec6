use Rattle.std.proofs.Common.{ap, ◌∙◌, [], Some, set}
use Rattle.std.proofs.lemmas.List.{get_or_default}
use Rattle.distort_match.proofs.marks.set_mark.Goals as goal

pub returns : goal.returns
returns c =
    ap (set c.args.marks.now.items c.args.o)
    (c.set.ensures ∙ ap (λ r. set r c.args.i (Some c.args.shift)) (c.index_mut.ensures.value ∙ get_or_default c.args.marks.now.items c.args.o _ [] c.requires.orbit))
