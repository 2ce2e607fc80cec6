use Rattle.std.proofs.Common.{◌≡◌, ◌<◌, ℕ, List, [], ◌∷◌, length, map, refl, sym, subst}
use Rattle.std.proofs.lemmas.List.Sorted.{IsPermutation-map}
use Rattle.cyclo24.specs.ExactField.{ExactField, Value}
use Rattle.lin_alg.specs.RowLaws.{equality-told}
use Rattle.lin_alg.specs.Echelon.{EchelonView}
use Rattle.fix_lattice.specs.FormLaws.{exact-length}
use Rattle.fix_lattice.specs.Subspaces.{AreWholeForms, exact_forms}
use Rattle.class_list.specs.declared.arrows.Arrow.{Arrow}
use Rattle.class_list.specs.declared.ranked.Ranked.{Ranked}
use Rattle.class_list.specs.Arrows.{AreWithin}
use Rattle.class_list.specs.Collected.{Entry, AreCollected}
use Rattle.class_list.specs.Directions.{IsListing}
use Rattle.class_list.specs.Images.{AreArrows}
use Rattle.class_list.specs.Least.{AreLeast, AreSettled}
use Rattle.class_list.specs.Ranks.{place_cmp}
use Rattle.class_list.specs.Seen.{DirectionView, direction_of, directions_of}
use Rattle.class_list.proofs.AssembleLemmas.{listing-made, collected-sorted, forms-made, sorted-entries}
use Rattle.class_list.proofs.least.listing.Goals as goal

abbrev entry : {A : Type 0} → Ranked A → Entry A
entry r = ((r.first, r.second), r.direction)

-- an entry stands for the direction that it holds
told-map : {A : Type 0} (f : ExactField) (value : A → Value f) (xs : List (Ranked A)) →
    directions_of f.laws value (map (λ r. r.direction) xs) ≡ map (λ (e : Entry A). direction_of f.laws value e.1) (map entry xs)
told-map f value [] = refl
told-map f value (x ∷ xs) = λ i. direction_of f.laws value x.direction ∷ told-map f value xs i

forms-map : {A : Type 0} (xs : List (Ranked A)) → map (λ d. d.equations) (map (λ r. r.direction) xs) ≡ map (λ (e : Entry A). e.1.equations) (map entry xs)
forms-map [] = refl
forms-map (x ∷ xs) = λ i. x.direction.equations ∷ forms-map xs i

pub least_places-requires : goal.least_places-requires
least_places-requires g c =
    let f = g.F.Field.field in
    let v = g.F.Field.value in
    let act = g.G.Acts.action c.args.acts.now in
    let es = c.args.spaces.forms in
    let n : length (exact_forms f.laws v es) ≡ length es = exact-length f.laws v es in
    let a : AreArrows f.laws act (exact_forms f.laws v es) act.generators 0 c.in-Ok.arrows.items = c.in-Ok.ensures.arrows in
    let w : AreWithin (length es) c.in-Ok.arrows.items =
    λ s h. let t = a.sound s h in (subst (λ (k : ℕ). s.from < k) n t.from, subst (λ (k : ℕ). s.to < k) n t.to) in
    record { within = subst (AreWithin (length es)) (sym c.deref.ensures.value) w }

pub returns-clause-listing : goal.returns-clause-listing
returns-clause-listing g c =
    let A = g.row.F.Denot in
    let f = g.F.Field.field in
    let v = g.F.Field.value in
    let E = g.F.PartialEq.eq in
    let R = g.F.Ord.cmp in
    let act = g.G.Acts.action c.args.acts.now in
    let es = c.args.spaces.forms in
    let tells = equality-told f v E R g.met.F.Ord.matches_eq g.met.F.Field.value_cmp in
    let arrows : List Arrow = c.in-Ok.arrows.items in
    let least : List ℕ = c.in_ok-least.least.items in
    let same : c.deref.result.now ≡ arrows = c.deref.ensures.value in
    let held : c.deref-2.result.now ≡ least = c.deref-2.ensures.value in
    let all : AreLeast (place_cmp R es) (length es) arrows least = subst (λ (z : List Arrow). AreLeast (place_cmp R es) (length es) z least) same c.in_ok-least.ensures.least in
    let settled : AreSettled (place_cmp R es) arrows least = subst (λ (z : List Arrow). AreSettled (place_cmp R es) z least) same c.in_ok-least.ensures.settled in
    let old : List (Ranked A) = c.in-Ok-collect.entries.items in
    let new : List (Ranked A) = c.sort_unstable.new.self.items in
    let made : AreCollected f.laws v E act c.args.order es least (length es) (map entry old) =
    subst (λ (z : List ℕ). AreCollected f.laws v E act c.args.order es z (length es) (map entry old)) held c.in-Ok-collect.ensures.collected in
    let moved : AreCollected f.laws v E act c.args.order es least (length es) (map entry new) =
    collected-sorted f v E g.met.F.Eq.laws act c.args.order es least (length es) (map entry old) (map entry new) (IsPermutation-map entry old new c.sort_unstable.ensures.permutation) made in
    let whole : AreWholeForms f.laws v act.dim es = subst (λ (n : ℕ). AreWholeForms f.laws v n es) c.requires.width (subst (λ (ks : List (EchelonView _)). AreWholeForms f.laws v c.args.spaces.width ks) c.set.ensures.keys c.set.ensures.whole) in
    let r : IsListing f.laws f.cmp act c.args.order (map (λ (e : Entry A). direction_of f.laws v e.1) (map entry new)) =
    listing-made f v R g.met.F.Field.value_cmp act E tells g.met.F.Ord.total (g.met.G.Acts.lawful c.args.acts.now) es whole c.requires.holds c.requires.vectors c.requires.spaces
    arrows c.in-Ok.ensures.arrows least all settled c.args.order (map entry new) moved (sorted-entries R new c.sort_unstable.ensures.sorted) in
    (subst (λ (z : List (DirectionView A)). IsListing f.laws f.cmp act c.args.order (directions_of f.laws v z)) (sym c.new.ensures) (subst (IsListing f.laws f.cmp act c.args.order) (sym (told-map f v new)) r))

pub returns-clause-forms : goal.returns-clause-forms
returns-clause-forms g c =
    let A = g.row.F.Denot in
    let f = g.F.Field.field in
    let v = g.F.Field.value in
    let E = g.F.PartialEq.eq in
    let act = g.G.Acts.action c.args.acts.now in
    let es = c.args.spaces.forms in
    let least : List ℕ = c.deref-2.result.now in
    let old : List (Ranked A) = c.in-Ok-collect.entries.items in
    let new : List (Ranked A) = c.sort_unstable.new.self.items in
    let moved : AreCollected f.laws v E act c.args.order es least (length es) (map entry new) =
    collected-sorted f v E g.met.F.Eq.laws act c.args.order es least (length es) (map entry old) (map entry new) (IsPermutation-map entry old new c.sort_unstable.ensures.permutation) c.in-Ok-collect.ensures.collected in
    let r : AreWholeForms f.laws v act.dim (map (λ (e : Entry A). e.1.equations) (map entry new)) = forms-made f v E g.met.F.Eq.laws act c.args.order es least (length es) (map entry new) moved.from in
    let s : AreWholeForms f.laws v act.dim (map (λ (d : DirectionView A). d.equations) (map (λ (x : Ranked A). x.direction) new)) = subst (AreWholeForms f.laws v act.dim) (sym (forms-map new)) r in
    subst (λ (z : List (DirectionView A)). AreWholeForms f.laws v act.dim (map (λ (d : DirectionView A). d.equations) z)) (sym c.new.ensures) s
