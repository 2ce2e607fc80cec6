use Rattle.std.proofs.Common.{◌≡◌, Result, Err, ap, subst, map}
use Rattle.cyclo24.specs.ExactK24.{k24, k24_laws}
use Rattle.cyclo24.specs.K24.{exact24}
use Rattle.fix_lattice.specs.Lattice.{AreMoreFixes}
use Rattle.fix_lattice.specs.Subspaces.{AreWholeForms}
use Rattle.class_list.specs.Directions.{IsListing}
use Rattle.class_list.specs.Seen.{directions_of}
use Rattle.short_listing.specs.CarriedLaws.{listing_carried, forms_carried, few_carried, many_carried}
use Rattle.short_listing.proofs.runs.listing_in_short.Goals as goal

err_is : {A E : Type 0} {x y : E} → ◌≡◌ {A = Result A E} (Err x) (Err y) → x ≡ y
err_is p = cc

pub returns-in-Ok-lengthened_listing-clause-listing :
    goal.returns-in-Ok-lengthened_listing-clause-listing
returns-in-Ok-lengthened_listing-clause-listing g c =
    let f = g.S.Field.field in
    let v = g.S.Field.value in
    let act = g.G.Acts.action c.in-Ok.short.acts.now in
    let found = c.in-Ok-lengthened_listing.listing in
    let h : IsListing f.laws f.cmp act c.args.order (directions_of f.laws v c.in-Ok-listing_in.listing) = c.in-Ok-listing_in.ensures.listing in
    subst (λ a. IsListing k24_laws k24.cmp (g.G.Acts.action a) c.args.order (directions_of k24_laws exact24 found)) c.in-Ok.ensures
    (listing_carried f v g.S.Short.exact g.met.S.Short.is_short act c.args.order c.in-Ok-listing_in.listing found c.in-Ok-lengthened_listing.ensures.directions h)

pub returns-in-Ok-lengthened_listing-clause-forms :
    goal.returns-in-Ok-lengthened_listing-clause-forms
returns-in-Ok-lengthened_listing-clause-forms g c =
    let f = g.S.Field.field in
    let v = g.S.Field.value in
    let act = g.G.Acts.action c.in-Ok.short.acts.now in
    let found = c.in-Ok-lengthened_listing.listing in
    let h : AreWholeForms f.laws v act.dim (map (λ d. d.equations) c.in-Ok-listing_in.listing) = c.in-Ok-listing_in.ensures.forms in
    subst (λ a. AreWholeForms k24_laws exact24 (g.G.Acts.action a).dim (map (λ d. d.equations) found)) c.in-Ok.ensures
    (forms_carried f.laws v act.dim c.in-Ok-listing_in.listing (map (λ d. d.equations) found) h c.in-Ok-lengthened_listing.ensures.forms)

pub returns-in-Ok-lengthened_listing-clause-few : goal.returns-in-Ok-lengthened_listing-clause-few
returns-in-Ok-lengthened_listing-clause-few g c =
    let f = g.S.Field.field in
    let act = g.G.Acts.action c.in-Ok.short.acts.now in
    let h : AreMoreFixes f.laws act c.args.limit → ⊥ = c.in-Ok-listing_in.ensures.few in
    subst (λ a. AreMoreFixes k24_laws (g.G.Acts.action a) c.args.limit → ⊥) c.in-Ok.ensures
    (few_carried f g.S.Field.value g.S.Short.exact g.met.S.Short.is_short act c.args.limit h)

pub returns-clause-many : goal.returns-clause-many
returns-clause-many g c = λ p.
    let f = g.S.Field.field in
    let act = g.G.Acts.action c.in-Ok.short.acts.now in
    let h : AreMoreFixes f.laws act c.args.limit = c.in-Err.ensures.many (ap Err (err_is p)) in
    subst (λ a. AreMoreFixes k24_laws (g.G.Acts.action a) c.args.limit) c.in-Ok.ensures
    (many_carried f g.S.Field.value g.S.Short.exact g.met.S.Short.is_short act c.args.limit h)
