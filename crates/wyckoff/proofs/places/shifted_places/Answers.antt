use Rattle.std.proofs.Common.{◌≡◌, [], sym, subst, ℕ, ℤ, List, length, rules}
use Rattle.wyckoff.specs.Places.{place_at}
use Rattle.wyckoff.specs.OrbitParts.{IsShifted, IsFilled}
use Rattle.wyckoff.proofs.PlacesLemmas.{near-at}
use Rattle.wyckoff.proofs.TableLemmas.{filled-none, filled-more}
use Rattle.wyckoff.proofs.places.shifted_places.Goals as goal

pub loop-r-init : goal.loop-r-init
loop-r-init c =
    let P : ℕ → ℕ → List ℤ → Type 0 = λ r. IsShifted c.args.quotient.now (place_at c.args.from.now r) in
    let n = length c.args.quotient.now.translations in
    subst (λ (v : List (List ℤ)). IsFilled 0 n P [] v) (sym c.new-places.ensures.items) (filled-none n P [])

pub push_shifted-requires-clause-place : goal.push_shifted-requires-clause-place
push_shifted-requires-clause-place c = near-at c.args.from.now c.loop-r.r c.requires.places c.loop-r-test.true

pub loop-r-preserved : goal.loop-r-preserved
loop-r-preserved c =
    let s = c.args.quotient.now in
    let from = c.args.from.now in
    let r = c.loop-r.r in
    let P : ℕ → ℕ → List ℤ → Type 0 = λ r. IsShifted s (place_at from r) in
    let n = length s.translations in
    filled-more r n P [] c.loop-r.places.items c.push_shifted.new.places.items c.loop-r.invariant
    c.in-Ok.ensures

pub returns : goal.returns
returns c =
    let P : ℕ → ℕ → List ℤ → Type 0 = λ r. IsShifted c.args.quotient.now (place_at c.args.from.now r) in
    let e : c.loop-r.r ≡ length c.args.from.now = search rules in
    subst (λ (k : ℕ). IsFilled k (length c.args.quotient.now.translations) P [] c.loop-r.places.items) e c.loop-r.invariant
