use Rattle.std.proofs.Common.{◌≡◌, ◌⊎◌, ◌<◌, ℕ, List, sym, ◌∙◌, subst, Some, None}
use Rattle.std.specs.List.{position}
use Rattle.lin_alg.specs.Echelon.{EchelonView}
use Rattle.lin_alg.specs.RowLaws.{equality-told}
use Rattle.lin_alg.specs.Rows.{exact_rows}
use Rattle.fix_lattice.specs.FormLaws.{whole-form, exact-at, exact-length}
use Rattle.fix_lattice.specs.Lattice.{form_at}
use Rattle.fix_lattice.specs.Subspaces.{AreWholeForms, IsWholeForm, exact_forms, same_rows}
use Rattle.fix_lattice.specs.Classes.{IsImageForm}
use Rattle.class_list.specs.Wide.{IsWideImageOf}
use Rattle.class_list.proofs.InsertLemmas.{same-error}
use Rattle.class_list.proofs.PlaceLemmas.{image-is, place-same, place-found}
use Rattle.class_list.proofs.arrows.image_place.Goals as goal

pub returns-in-Err-clause-wide : goal.returns-in-Err-clause-wide
returns-in-Err-clause-wide g c e =
    let f = g.F.Field.field in
    let v = g.F.Field.value in
    let act = g.G.Acts.action c.args.given.now.acts.now in
    let at : form_at (exact_forms f.laws v c.args.given.now.spaces.now.forms) c.args.i ≡ exact_rows f.laws v c.get.result.now.rows = exact-at f.laws v c.args.given.now.spaces.now.forms c.args.i c.get.result.now c.get.ensures.form in
    subst (λ us. g.G.Acts.wide c.args.given.now.acts.now ⊎ IsWideImageOf f act c.args.q us) (sym at) (c.in-Err.ensures.wide (same-error _ _ e))

pub unreachable-requires : goal.unreachable-requires
unreachable-requires g c =
    let f = g.F.Field.field in
    let v = g.F.Field.value in
    let act = g.G.Acts.action c.args.given.now.acts.now in
    let es = c.args.given.now.spaces.now.forms in
    let forms = exact_forms f.laws v es in
    let key : EchelonView _ = c.new-key.result in
    let image : EchelonView _ = c.in-Ok.image in
    let same : key ≡ image = c.new-key.ensures in
    let at : form_at forms c.args.i ≡ exact_rows f.laws v c.get.result.now.rows = exact-at f.laws v es c.args.i c.get.result.now c.get.ensures.form in
    let own : IsWholeForm f.laws v act.dim key = subst (IsWholeForm f.laws v act.dim) (sym same) c.in-Ok.ensures.form in
    let whole : AreWholeForms f.laws v act.dim es = subst (λ (n : ℕ). AreWholeForms f.laws v n es) c.requires.width (subst (λ (ks : List (EchelonView _)). AreWholeForms f.laws v c.args.given.now.spaces.now.width ks) c.set.ensures.keys c.set.ensures.whole) in
    let e : IsImageForm f.laws act c.args.q (form_at forms c.args.i) (exact_rows f.laws v key.rows) =
    subst (λ us. IsImageForm f.laws act c.args.q us (exact_rows f.laws v key.rows)) (sym at) (subst (λ (z : EchelonView _). IsImageForm f.laws act c.args.q (exact_rows f.laws v c.get.result.now.rows) (exact_rows f.laws v z.rows)) (sym same) c.in-Ok.ensures.image) in
    let k = image-is f act (g.met.G.Acts.lawful c.args.given.now.acts.now) forms c.requires.holds c.args.q c.args.i c.requires.element (subst (λ (n : ℕ). c.args.i < n) (sym (exact-length f.laws v es)) c.requires.place) (exact_rows f.laws v key.rows) (whole-form f.laws v act.dim key own) e in
    let tells = equality-told f v g.F.PartialEq.eq g.F.Ord.cmp g.met.F.Ord.matches_eq g.met.F.Field.value_cmp in
    let none : position (same_rows g.F.PartialEq.eq key) es ≡ None =
    subst (λ (ks : List (EchelonView _)). position (same_rows g.F.PartialEq.eq key) ks ≡ None) c.set.ensures.keys (sym c.get_index_of.ensures.index ∙ c.in-None.is) in
    place-found f v g.F.PartialEq.eq tells act.dim es whole key own k.0 (subst (λ (n : ℕ). k.0 < n) (exact-length f.laws v es) k.1) k.2 none

pub returns-clause-image : goal.returns-clause-image
returns-clause-image g c =
    let f = g.F.Field.field in
    let v = g.F.Field.value in
    let act = g.G.Acts.action c.args.given.now.acts.now in
    let es = c.args.given.now.spaces.now.forms in
    let forms = exact_forms f.laws v es in
    let key : EchelonView _ = c.new-key.result in
    let image : EchelonView _ = c.in-Ok.image in
    let same : key ≡ image = c.new-key.ensures in
    let at : form_at forms c.args.i ≡ exact_rows f.laws v c.get.result.now.rows = exact-at f.laws v es c.args.i c.get.result.now c.get.ensures.form in
    let own : IsWholeForm f.laws v act.dim key = subst (IsWholeForm f.laws v act.dim) (sym same) c.in-Ok.ensures.form in
    let whole : AreWholeForms f.laws v act.dim es = subst (λ (n : ℕ). AreWholeForms f.laws v n es) c.requires.width (subst (λ (ks : List (EchelonView _)). AreWholeForms f.laws v c.args.given.now.spaces.now.width ks) c.set.ensures.keys c.set.ensures.whole) in
    let e : IsImageForm f.laws act c.args.q (form_at forms c.args.i) (exact_rows f.laws v key.rows) =
    subst (λ us. IsImageForm f.laws act c.args.q us (exact_rows f.laws v key.rows)) (sym at) (subst (λ (z : EchelonView _). IsImageForm f.laws act c.args.q (exact_rows f.laws v c.get.result.now.rows) (exact_rows f.laws v z.rows)) (sym same) c.in-Ok.ensures.image) in
    let tells = equality-told f v g.F.PartialEq.eq g.F.Ord.cmp g.met.F.Ord.matches_eq g.met.F.Field.value_cmp in
    let some : position (same_rows g.F.PartialEq.eq key) es ≡ Some c.in-Some.place =
    subst (λ (ks : List (EchelonView _)). position (same_rows g.F.PartialEq.eq key) ks ≡ Some c.in-Some.place) c.set.ensures.keys (sym c.get_index_of.ensures.index ∙ c.in-Some.is) in
    subst (λ us. IsImageForm f.laws act c.args.q (form_at forms c.args.i) us) (sym (place-same f v g.F.PartialEq.eq tells act.dim es whole key own c.in-Some.place some).1) e
