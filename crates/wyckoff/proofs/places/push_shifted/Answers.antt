use Rattle.std.proofs.Common.{◌≡◌, ◌++◌, ◌∷◌, [], refl, subst, ℕ, length, rules}
use Rattle.space_ops.specs.Op.{vector_of}
use Rattle.wyckoff.specs.OrbitParts.{IsShifted, IsRowAdded}
use Rattle.wyckoff.proofs.PlacesLemmas.{shifted_is, translation-within, positive-at, few-at}
use Rattle.wyckoff.proofs.TableLemmas.{row-none, row-more}
use Rattle.wyckoff.proofs.places.push_shifted.Goals as goal

pub loop-t-init : goal.loop-t-init
loop-t-init c = row-none (IsShifted c.args.quotient.now (vector_of c.args.x)) [] c.args.places.now.items

pub shifted-requires-clause-shift : goal.shifted-requires-clause-shift
shifted-requires-clause-shift c =
    translation-within c.args.quotient.now c.requires.quotient c.loop-t.t c.translations-translations.result.now _ c.translations-translations.ensures c.loop-t-test.true refl

pub shifted-requires-clause-positive : goal.shifted-requires-clause-positive
shifted-requires-clause-positive c = positive-at c.args.quotient.now c.requires.quotient c.d-d.result c.d-d.ensures

pub shifted-requires-clause-few : goal.shifted-requires-clause-few
shifted-requires-clause-few c = few-at c.args.quotient.now c.requires.quotient c.d-d.result c.d-d.ensures

pub loop-t-preserved : goal.loop-t-preserved
loop-t-preserved c =
    let s = c.args.quotient.now in
    let x = vector_of c.args.x in
    let pushed : c.push.new.self.items ≡ c.loop-t.places.items ++ c.shifted.result ∷ [] = c.in-Ok.ensures.items in
    row-more c.loop-t.t (IsShifted s x) [] c.args.places.now.items c.loop-t.places.items c.push.new.self.items c.shifted.result c.loop-t.invariant
    (shifted_is s c.loop-t.t c.translations-translations.result.now _ c.d-d.result x c.shifted.result c.translations-translations.ensures c.loop-t-test.true refl c.d-d.ensures
    c.shifted.ensures.value)
    pushed

pub returns : goal.returns
returns c =
    let P = IsShifted c.args.quotient.now (vector_of c.args.x) in
    let e : c.loop-t.t ≡ length c.args.quotient.now.translations = search rules in
    subst (λ (n : ℕ). IsRowAdded n P [] c.args.places.now.items c.loop-t.places.items) e c.loop-t.invariant
