use Rattle.std.proofs.Common.{◌≡◌, sym, ◌∙◌, ap, length}
use Rattle.cyclo24.specs.Sums.{total}
use Rattle.cyclo24.specs.TotalLaws.{total-same}
use Rattle.lin_alg.specs.Rows.{vector}
use Rattle.mode_project.specs.AtomSpace.{size_of}
use Rattle.mode_project.specs.Parts.{rows_in, row_in}
use Rattle.mode_project.specs.Projection.{projection, column_of}
use Rattle.mode_project.proofs.QuickLemmas.{rank-told}
use Rattle.mode_project.proofs.VectorsLemmas.{rows-length}
use Rattle.mode_project.proofs.rank.rank_of.Goals as goal

pub returns-in-Some-times_in : goal.returns-in-Some-times_in
returns-in-Some-times_in g c =
    let s = g.S.OfSpace.space in
    let f = g.F.Field.field in
    let value = g.F.Field.value in
    let w = vector f.laws value c.args.weights.now in
    let cols = row_in f.laws value (rows_in c.args.columns.now) in
    let target = column_of f.laws (size_of s) (projection f.laws s w) in
    let count : length c.args.columns.now ≡ s.each = sym (rows-length c.args.columns.now) ∙ c.requires.columns.count in
    let atoms : c.atoms.result ≡ s.atoms = c.atoms.ensures.value ∙ c.requires.orbit.atoms in
    let first : value c.in-Ok.first ≡ total f.laws s.each (λ b. target b b) =
    c.in-Ok.ensures ∙ ap (λ n. total f.laws n (λ b. cols b b)) count ∙ total-same f.laws s.each _ _ (λ b l. ap (λ u. u b) (c.requires.columns.exact b l)) in
    rank-told f s c.requires.laws w c.requires.class (value c.in-Some.scale) c.in-Some-times_in.rank c.in-Some.ensures
    (c.in-Some-times_in.ensures ∙ c.in-Ok-multiple.ensures ∙ (λ t. total f.laws (atoms t) (λ _. first t)))
