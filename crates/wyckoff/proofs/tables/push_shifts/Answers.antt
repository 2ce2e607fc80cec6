use Rattle.std.proofs.Common.{◌≡◌, ◌<◌, ◌++◌, ◌∷◌, [], refl, sym, ◌∙◌, subst, ℕ, ℤ, List, length, rules}
use Rattle.std.specs.List.{Contains}
use Rattle.space_ops.specs.Op.{shift_of}
use Rattle.wyckoff.specs.Places.{place_at}
use Rattle.wyckoff.specs.OrbitParts.{shifted_at, IsRowAdded, IsNumberOf}
use Rattle.wyckoff.proofs.PlacesLemmas.{shifted_is, near-at, translation-within, positive-at, few-at}
use Rattle.wyckoff.proofs.TableLemmas.{row-none, row-more}
use Rattle.wyckoff.proofs.tables.push_shifts.Goals as goal

pub loop-i-init : goal.loop-i-init
loop-i-init c =
    row-none (λ i. IsNumberOf c.args.places.now (shift_of (shifted_at c.args.quotient.now c.args.t (place_at c.args.places.now i)))) 0 c.args.shifts.now.items

pub shifted-requires-clause-shift : goal.shifted-requires-clause-shift
shifted-requires-clause-shift c =
    let l : c.args.t < length c.translations.result.now = subst (λ (us : List (List ℤ)). c.args.t < length us) (sym c.translations.ensures) c.requires.translation in
    translation-within c.args.quotient.now c.requires.quotient c.args.t c.translations.result.now _ c.translations.ensures l refl

pub shifted-requires-clause-place : goal.shifted-requires-clause-place
shifted-requires-clause-place c = near-at c.args.places.now c.loop-i.i c.requires.near c.loop-i-test.true

pub shifted-requires-clause-positive : goal.shifted-requires-clause-positive
shifted-requires-clause-positive c = positive-at c.args.quotient.now c.requires.quotient c.d-d.result c.d-d.ensures

pub shifted-requires-clause-few : goal.shifted-requires-clause-few
shifted-requires-clause-few c = few-at c.args.quotient.now c.requires.quotient c.d-d.result c.d-d.ensures

pub number_in-requires-clause-listed : goal.number_in-requires-clause-listed
number_in-requires-clause-listed c =
    let s = c.args.quotient.now in
    let places = c.args.places.now in
    let i = c.loop-i.i in
    let f : c.shifted.result ≡ shift_of (shifted_at s c.args.t (place_at places i)) = shifted_is s c.args.t c.translations.result.now _ c.d-d.result (place_at places i) c.shifted.result c.translations.ensures
    (subst (λ (us : List (List ℤ)). c.args.t < length us) (sym c.translations.ensures) c.requires.translation) refl c.d-d.ensures c.shifted.ensures.value in
    subst (Contains places) (sym f) (c.requires.closed.shifted c.args.t i c.requires.translation c.loop-i-test.true)

pub loop-i-preserved : goal.loop-i-preserved
loop-i-preserved c =
    let s = c.args.quotient.now in
    let places = c.args.places.now in
    let i = c.loop-i.i in
    let P : ℕ → ℕ → Type 0 = λ i. IsNumberOf places (shift_of (shifted_at s c.args.t (place_at places i))) in
    let f : c.shifted.result ≡ shift_of (shifted_at s c.args.t (place_at places i)) = shifted_is s c.args.t c.translations.result.now _ c.d-d.result (place_at places i) c.shifted.result c.translations.ensures
    (subst (λ (us : List (List ℤ)). c.args.t < length us) (sym c.translations.ensures) c.requires.translation) refl c.d-d.ensures c.shifted.ensures.value in
    let pushed : c.push.new.self.items ≡ c.loop-i.shifts.items ++ c.number_in.result ∷ [] = c.in-Ok.ensures.items in
    row-more i P 0 c.args.shifts.now.items c.loop-i.shifts.items c.push.new.self.items c.number_in.result c.loop-i.invariant
    (c.number_in.ensures.0, c.number_in.ensures.1 ∙ f) pushed

pub returns : goal.returns
returns c =
    let P : ℕ → ℕ → Type 0 = λ i. IsNumberOf c.args.places.now (shift_of (shifted_at c.args.quotient.now c.args.t (place_at c.args.places.now i))) in
    let e : c.loop-i.i ≡ length c.args.places.now = search rules in
    subst (λ (n : ℕ). IsRowAdded n P 0 c.args.shifts.now.items c.loop-i.shifts.items) e c.loop-i.invariant
