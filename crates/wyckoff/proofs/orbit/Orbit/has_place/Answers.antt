use Rattle.std.proofs.Common.{◌≡◌, ◌∙◌, subst, ap, ◌<◌, ℤ, List, [], length, get_or, true, false, refl}
use Rattle.std.specs.List.{Contains}
use Rattle.std.proofs.lemmas.List.{get_or_default}
use Rattle.wyckoff.specs.Orbit.{OrbitView}
use Rattle.wyckoff.specs.OrbitParts.{IsRising, AreShaped}
use Rattle.wyckoff.proofs.SearchLemmas.{found, not_missing}
use Rattle.wyckoff.proofs.orbit.Orbit.has_place.Goals as goal

pub returns-in-Ok : goal.returns-in-Ok
returns-in-Ok c =
    let v = c.args.place in
    let i = c.in-Ok.field-0 in
    let xs = c.args.self.now.places in
    let same : c.deref.result.now ≡ xs = c.deref.ensures.value ∙ ap (λ (o : OrbitView). o.places) c.self.view_is in
    let l : i < length xs = subst (λ (u : List (List ℤ)). i < length u) same c.in-Ok.ensures.bound in
    let e : get_or xs i [] ≡ v = subst (λ (u : List (List ℤ)). get_or u i [] ≡ v) same (found c.deref.result.now v i (c.in-Ok.ensures.ok [])) in
    (λ _. (i, l, get_or_default xs i v [] l ∙ e), λ _. refl)

pub returns-in-Err : goal.returns-in-Err
returns-in-Err c =
    let v = c.args.place in
    let same : c.deref.result.now ≡ c.args.self.now.places = c.deref.ensures.value ∙ ap (λ (o : OrbitView). o.places) c.self.view_is in (
      λ e. let t : false ≡ true = e in absurd cc,
      λ h. absurd (subst (λ (u : List (List ℤ)). IsRising u → AreShaped u → Contains u v → ⊥) same
          (λ rising shaped k. not_missing c.deref.result.now v rising shaped k _ c.in-Err.ensures.position) c.requires.rising c.requires.shaped h),
    )
