use Rattle.std.proofs.Common.{◌≡◌, sym, ap, subst, arith, length}
use Rattle.std.specs.Prelude.{Err}
use Rattle.lin_alg.specs.Rows.{vector}
use Rattle.lin_alg.specs.declared.errors.LinError.TheVariants.{Wide}
use Rattle.mode_project.specs.AmplitudeLaws.{amplitudes-unique}
use Rattle.mode_project.specs.Amplitudes.{AreAmplitudes, cut_to, cut_row}
use Rattle.mode_project.specs.Joined.{joined_rows_in}
use Rattle.mode_project.specs.Modes.{all_modes, vector_at}
use Rattle.mode_project.proofs.AmplitudeLemmas.{site-inside}
use Rattle.mode_project.proofs.SolvedLemmas.{joined-length, solved-hold, wide-rest}
use Rattle.mode_project.proofs.solved.solved.Goals as goal

pub with_rest-requires-clause-inside : goal.with_rest-requires-clause-inside
with_rest-requires-clause-inside g c k l =
    let f = g.F.Field.field in
    site-inside f.laws (length c.args.target.now) (joined_rows_in f.laws g.F.Field.value c.args.rows.now) c.args.sites.now c.requires.basis k l

pub returns-in-Ok-with_rest-clause-count : goal.returns-in-Ok-with_rest-clause-count
returns-in-Ok-with_rest-clause-count g c =
    omega (arith, c.in-Ok-with_rest.ensures.count, joined-length g.F.Field.field g.F.Field.value c.args.rows.now, c.requires.basis.count)

pub returns-in-Ok-with_rest-clause-amplitudes : goal.returns-in-Ok-with_rest-clause-amplitudes
returns-in-Ok-with_rest-clause-amplitudes g c =
    let f = g.F.Field.field in
    let value = g.F.Field.value in
    let d = length c.args.target.now in
    let n = length c.args.rows.now in
    let ms = joined_rows_in f.laws value c.args.rows.now in
    let t = vector f.laws value c.args.target.now in
    let x = vector f.laws value c.as_slice.result.now in
    let columns = c.in-Ok.ensures.amplitudes.0 in
    let hx : AreAmplitudes f.laws n (cut_row f.laws columns ms) (length columns) (cut_to f.laws columns t) x =
    subst (λ ys. AreAmplitudes f.laws n (cut_row f.laws columns ms) (length columns) (cut_to f.laws columns t) (vector f.laws value ys)) (sym c.as_slice.ensures) c.in-Ok.ensures.amplitudes.2 in
    solved-hold f d ms c.args.sites.now c.requires.basis n (joined-length f value c.args.rows.now) columns c.in-Ok.ensures.amplitudes.1 t x hx (vector f.laws value c.in-Ok-with_rest.all.items)
    c.in-Ok-with_rest.ensures.front c.in-Ok-with_rest.ensures.behind

pub returns-in-Ok-with_rest-clause-only : goal.returns-in-Ok-with_rest-clause-only
returns-in-Ok-with_rest-clause-only g c b h =
    let f = g.F.Field.field in
    let value = g.F.Field.value in
    let d = length c.args.target.now in
    let n = length c.args.rows.now in
    let ms = joined_rows_in f.laws value c.args.rows.now in
    let t = vector f.laws value c.args.target.now in
    let x = vector f.laws value c.as_slice.result.now in
    let columns = c.in-Ok.ensures.amplitudes.0 in
    let a = vector f.laws value c.in-Ok-with_rest.all.items in
    let hx : AreAmplitudes f.laws n (cut_row f.laws columns ms) (length columns) (cut_to f.laws columns t) x =
    subst (λ ys. AreAmplitudes f.laws n (cut_row f.laws columns ms) (length columns) (cut_to f.laws columns t) (vector f.laws value ys)) (sym c.as_slice.ensures) c.in-Ok.ensures.amplitudes.2 in
    let own : AreAmplitudes f.laws d (vector_at f.laws (all_modes f.laws ms c.args.sites.now)) d t a =
    solved-hold f d ms c.args.sites.now c.requires.basis n (joined-length f value c.args.rows.now) columns c.in-Ok.ensures.amplitudes.1 t x hx a c.in-Ok-with_rest.ensures.front c.in-Ok-with_rest.ensures.behind in
    amplitudes-unique f.laws d ms c.args.sites.now c.requires.basis t a b own h

pub returns-clause-wide : goal.returns-clause-wide
returns-clause-wide g c w =
    let f = g.F.Field.field in
    let value = g.F.Field.value in
    let d = length c.args.target.now in
    let n = length c.args.rows.now in
    let ms = joined_rows_in f.laws value c.args.rows.now in
    let t = vector f.laws value c.args.target.now in
    let x = vector f.laws value c.as_slice.result.now in
    let columns = c.in-Ok.ensures.amplitudes.0 in
    let hx : AreAmplitudes f.laws n (cut_row f.laws columns ms) (length columns) (cut_to f.laws columns t) x =
    subst (λ ys. AreAmplitudes f.laws n (cut_row f.laws columns ms) (length columns) (cut_to f.laws columns t) (vector f.laws value ys)) (sym c.as_slice.ensures) c.in-Ok.ensures.amplitudes.2 in
    wide-rest f d ms c.args.sites.now c.requires.basis n (joined-length f value c.args.rows.now) columns c.in-Ok.ensures.amplitudes.1 t x hx (c.in-Err-with_rest.ensures.wide (ap Err (let k : c.in-Err-with_rest.error ≡ Wide = cc in k)))
