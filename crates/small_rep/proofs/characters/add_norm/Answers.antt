use Rattle.std.proofs.Common.{◌≡◌, ◌+◌}
use Rattle.cyclo24.specs.Z24.{exact_z24}
use Rattle.cyclo24.specs.ExactZ24.{z24_laws}
use Rattle.small_rep.specs.Check.{IsWideCharacter}
use Rattle.small_rep.specs.Rep.{matrices_of}
use Rattle.small_rep.proofs.CharacterLemmas.{norms, trace_wide, norm_wide, sum_wide, sum_more}
use Rattle.small_rep.proofs.ResultLemmas.{on_err, on_err_if, if_ok}
use Rattle.small_rep.proofs.characters.add_norm.Goals as goal

pub returns-in_err-character-clause-wide : goal.returns-in_err-character-clause-wide
returns-in_err-character-clause-wide c =
    on_err c.from_residual.result (IsWideCharacter c.args.rep.now.little c.args.rep.now.size (matrices_of c.args.rep.now) c.args.k)
    (trace_wide c.args.rep.now c.args.k c.matrix.result.now c.rotation.result c.rotation.ensures.value c.matrix.ensures.rows c.matrix.ensures.entries c.in_err-character.ensures.wide)

pub returns-in_err-square-clause-wide : goal.returns-in_err-square-clause-wide
returns-in_err-square-clause-wide c =
    on_err c.from_residual-in_err-square.result (IsWideCharacter c.args.rep.now.little c.args.rep.now.size (matrices_of c.args.rep.now) c.args.k)
    (norm_wide c.args.rep.now c.args.k c.matrix.result.now c.rotation.result c.rotation.ensures.value c.matrix.ensures.rows c.matrix.ensures.entries (exact_z24 c.in_ok-character.character) c.in_ok-character.ensures.exact
    c.in_err-square.ensures.wide)

pub returns-clause-exact : goal.returns-clause-exact
returns-clause-exact c =
    if_ok c.add.result (λ r. exact_z24 r ≡ z24_laws.plus (exact_z24 c.args.sum) (exact_z24 c.in_ok-square.square)) (λ r. exact_z24 r ≡ norms c.args.rep.now (c.args.k + 1))
    (λ r e.
    sum_more c.args.rep.now c.args.k c.matrix.result.now c.rotation.result c.rotation.ensures.value c.matrix.ensures.rows c.matrix.ensures.entries (exact_z24 c.in_ok-character.character) c.in_ok-character.ensures.exact
    (exact_z24 c.args.sum) (exact_z24 c.in_ok-square.square) c.requires.sum c.in_ok-square.ensures.exact (exact_z24 r) e)
    c.add.ensures.exact

pub returns-clause-wide : goal.returns-clause-wide
returns-clause-wide c =
    on_err_if c.add.result (IsWideCharacter c.args.rep.now.little c.args.rep.now.size (matrices_of c.args.rep.now) c.args.k)
    (λ w.
    sum_wide c.args.rep.now c.args.k c.matrix.result.now c.rotation.result c.rotation.ensures.value c.matrix.ensures.rows c.matrix.ensures.entries (exact_z24 c.in_ok-character.character) c.in_ok-character.ensures.exact
    (exact_z24 c.args.sum) (exact_z24 c.in_ok-square.square) c.requires.sum c.in_ok-square.ensures.exact (c.add.ensures.wide.0 w))
