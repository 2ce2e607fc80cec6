use Rattle.std.proofs.Common.{[], sym, subst, ℤ, List, length}
use Rattle.space_ops.specs.Op.{vector_of}
use Rattle.wyckoff.specs.Places.{place_at}
use Rattle.wyckoff.specs.OrbitParts.{IsShifted, IsFilled, AreNear}
use Rattle.wyckoff.proofs.PlacesLemmas.{distinct-near, places-made}
use Rattle.wyckoff.proofs.places.places_of.Goals as goal

pub shifted_places-requires-clause-places : goal.shifted_places-requires-clause-places
shifted_places-requires-clause-places c =
    subst AreNear (sym c.deref.ensures.value)
    (distinct-near c.args.quotient.now c.requires.quotient (vector_of c.args.x) c.in_ok-under_listed.under_listed.items c.make_distinct.new.places.items c.in_ok-under_listed.ensures c.make_distinct.ensures)

pub returns : goal.returns
returns c =
    let s = c.args.quotient.now in
    places-made s c.requires.quotient (vector_of c.args.x) c.in_ok-under_listed.under_listed.items c.make_distinct.new.places.items c.in_ok-under_listed.ensures c.make_distinct.ensures
    c.in_ok-places.places.items c.make_distinct-2.new.places.items
    (subst (λ (v : List (List ℤ)). IsFilled (length v) (length s.translations) (λ r. IsShifted s (place_at v r)) [] c.in_ok-places.places.items) c.deref.ensures.value c.in_ok-places.ensures)
    c.make_distinct-2.ensures
