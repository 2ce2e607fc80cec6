use Rattle.std.proofs.Common.{◌≡◌, sym, subst, List, Some, slice_get}
use Rattle.lin_alg.specs.Echelon.{EchelonView}
use Rattle.lin_alg.specs.Rows.{exact_rows}
use Rattle.lin_alg.specs.RowLaws.{equality-told}
use Rattle.fix_lattice.specs.Held.{IsPut}
use Rattle.fix_lattice.specs.Subspaces.{AreHeld, AreWholeForms, exact_forms, same_rows}
use Rattle.fix_lattice.proofs.FormLemmas.{whole-insert, insert-put}
use Rattle.fix_lattice.proofs.cutting.insert.Goals as goal
use Rattle.fix_lattice.proofs.cutting.insert.Goals.{in-Ok, in-Err}

pub returns-clause-held : goal.returns-clause-held
returns-clause-held g c =
    let f = g.F.Field.field in
    let v = g.F.Field.value in
    elim c.match-insert_full.branch [
      | in-Ok w ↦ record {
        whole = subst (λ (z : List (EchelonView _)). AreWholeForms f.laws v c.args.width z) (sym w.in-Ok.ensures.keys) (whole-insert f v (same_rows g.F.PartialEq.eq) c.args.width c.args.held.now.keys c.args.form c.requires.held.whole c.requires.form);
        once = w.in-Ok.ensures.unique;
      }
      | in-Err w ↦ subst (λ (z : List (EchelonView _)). AreHeld f.laws v g.F.PartialEq.eq c.args.width z) (sym w.in-Err.ensures.err) c.requires.held
    ]

pub returns-clause-put : goal.returns-clause-put
returns-clause-put g c =
    let f = g.F.Field.field in
    let v = g.F.Field.value in
    let tells = equality-told f v g.F.PartialEq.eq g.F.Ord.cmp g.met.F.Ord.matches_eq g.met.F.Field.value_cmp in
    let old = c.args.held.now.keys in
    elim c.match-insert_full.branch [
      | in-Ok w ↦
          let stored = w.in-Ok.ensures.stored in
          let put = subst (λ (z : List (EchelonView _)). IsPut (exact_forms f.laws v old) (exact_rows f.laws v c.args.form.rows) (exact_forms f.laws v z) w.in-Ok.place) (sym w.in-Ok.ensures.keys)
          (insert-put f v g.F.PartialEq.eq tells c.args.width old c.args.form stored.0 w.in-Ok.place c.requires.held.whole c.requires.form
          (subst (λ (z : List (EchelonView _)). slice_get z w.in-Ok.place ≡ Some stored.0) w.in-Ok.ensures.keys stored.1) stored.2) in
          rw w.result-is put
      | in-Err w ↦ rw w.result-is tt
    ]
