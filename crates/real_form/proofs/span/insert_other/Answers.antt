use Rattle.std.proofs.Common.{◌+◌, ◌-◌}
use Rattle.cyclo24.specs.K24.{exact24}
use Rattle.cyclo24.specs.Z24.{exact_z24}
use Rattle.cyclo24.specs.ExactK24.{k24}
use Rattle.cyclo24.specs.ExactZ24.{z24_laws}
use Rattle.lin_alg.specs.Rows.{vector}
use Rattle.induce.specs.Tables.{dimension_in, matrix_in}
use Rattle.real_form.specs.Parts.{orbit}
use Rattle.real_form.specs.Complexes.{z24_parts}
use Rattle.real_form.proofs.CombinedLemmas.{held-again}
use Rattle.real_form.proofs.span.insert_other.Goals as goal

pub returns-then-is_marked-clause-held : goal.returns-then-is_marked-clause-held
returns-then-is_marked-clause-held c =
    let n = (dimension_in c.args.induced.now.tables) in
    let a = orbit z24_parts n (matrix_in c.args.quotient.now c.args.induced.now.tables) (vector z24_laws exact_z24 c.args.w.now) in
    held-again k24 exact24 (n + n) a c.args.q (c.args.q - c.args.first) c.args.form.now c.args.combined.now c.args.from c.requires.held c.requires.again (c.is_marked.ensures c.if-is_marked.true)
