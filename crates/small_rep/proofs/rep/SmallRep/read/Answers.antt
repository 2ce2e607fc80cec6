use Rattle.std.proofs.Common.{◌≡◌, subst, List, ℕ, rules}
use Rattle.iso_text.specs.declared.sections.MatText.{MatText}
use Rattle.small_rep.specs.Pairs.{IsFirstUnlisted, AreListed}
use Rattle.small_rep.specs.Reading.{IsMissing, AreReadFrom}
use Rattle.small_rep.specs.Rep.{matrices_of}
use Rattle.small_rep.proofs.MissingLemmas.{missing, square, read_from}
use Rattle.small_rep.proofs.rep.SmallRep.read.Goals as goal

pub returns-in-Some-clause-cause : goal.returns-in-Some-clause-cause
returns-in-Some-clause-cause c =
    subst (λ (ms : List MatText). IsMissing c.args.group.now c.args.star.now ms c.in-Some.op) c.as_slice.ensures
    (missing c.args.group.now c.args.star.now c.from-size.result c.as_slice.result.now c.in-Ok.lines.rotations.items c.in-Ok.lines.matrices.items c.in-Ok.ensures.read c.little.result.now c.little.ensures.value c.in-Some.op
    (subst (λ (rs : List ℕ). IsFirstUnlisted c.args.group.now.ops c.little.result.now rs c.in-Some.op) c.deref.ensures.value c.in-Some.ensures))

pub rep_of_lines-requires-clause-matrices : goal.rep_of_lines-requires-clause-matrices
rep_of_lines-requires-clause-matrices c =
    square c.args.group.now c.args.star.now c.from-size.result c.as_slice.result.now c.in-Ok.lines.rotations.items c.in-Ok.lines.matrices.items c.in-Ok.ensures.read

pub returns-in-Ok-rep_of_lines-clause-read : goal.returns-in-Ok-rep_of_lines-clause-read
returns-in-Ok-rep_of_lines-clause-read c =
    let size : c.from-size.result ≡ c.args.text.now.size = search rules in
    let given : AreListed c.args.star.now.little c.in-Ok.lines.rotations.items =
    subst (λ (xs : List ℕ). AreListed xs c.in-Ok.lines.rotations.items) c.little.ensures.value (subst (λ (rs : List ℕ). AreListed c.little.result.now rs) c.deref.ensures.value c.in-None.ensures) in
    subst (λ n. AreReadFrom c.args.group.now c.args.star.now n c.args.text.now.mats (matrices_of c.in-Ok-rep_of_lines.rep)) size
    (subst (λ (ms : List MatText). AreReadFrom c.args.group.now c.args.star.now c.from-size.result ms (matrices_of c.in-Ok-rep_of_lines.rep)) c.as_slice.ensures
    (read_from c.args.group.now c.args.star.now c.from-size.result c.as_slice.result.now c.in-Ok.lines.rotations.items c.in-Ok.lines.matrices.items c.in-Ok.ensures.read given c.in-Ok-rep_of_lines.rep
    c.in-Ok-rep_of_lines.ensures.rotations c.in-Ok-rep_of_lines.ensures.matrices))
