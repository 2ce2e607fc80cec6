use Rattle.std.proofs.Common.{◌≡◌, sym, ◌∙◌, subst, Some}
use Rattle.std.specs.List.{position}
use Rattle.lin_alg.specs.Echelon.{EchelonView}
use Rattle.lin_alg.specs.RowLaws.{equality-told}
use Rattle.fix_lattice.specs.Subspaces.{same_rows}
use Rattle.fix_lattice.proofs.FormLemmas.{found-put}
use Rattle.fix_lattice.proofs.cutting.hold.Goals as goal

pub returns-in-Some-clause-put : goal.returns-in-Some-clause-put
returns-in-Some-clause-put g c =
    let f = g.F.Field.field in
    let v = g.F.Field.value in
    let tells = equality-told f v g.F.PartialEq.eq g.F.Ord.cmp g.met.F.Ord.matches_eq g.met.F.Field.value_cmp in
    let keys = c.args.held.now.keys in
    let place = c.in-Some.place in
    let form : c.new-form.result ≡ c.args.scratch.now = c.new-form.ensures ∙ c.replace.ensures.value in
    let at = subst (λ (z : EchelonView _). position (same_rows g.F.PartialEq.eq z) keys ≡ Some place) form (sym c.get_index_of.ensures.index ∙ c.in-Some.is) in
    found-put f v g.F.PartialEq.eq tells c.args.width keys c.args.scratch.now place c.requires.held.whole c.requires.form at
