use Rattle.std.proofs.Common.{refl, ap, ◌∙◌, [], ◌∷◌, ◌++◌, Some}
use Rattle.distort_match.proofs.WrittenLemmas.{zeros, written_frame_of}
use Rattle.distort_match.proofs.cell_frame.written_frame.Goals as goal

pub returns-clause-frame : goal.returns-clause-frame
returns-clause-frame c = written_frame_of c.args.quotient.now _ refl refl (c.in-Ok.ensures.items ∙ ap (λ xs. xs ++ Some zeros ∷ []) c.new-shifts.ensures.items)
