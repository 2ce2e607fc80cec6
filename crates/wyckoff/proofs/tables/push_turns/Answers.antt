use Rattle.std.proofs.Common.{◌≡◌, ◌++◌, ◌∷◌, [], sym, ◌∙◌, subst, ℕ, length, arith, rules}
use Rattle.std.specs.List.{Contains}
use Rattle.space_ops.specs.Op.{shift_of}
use Rattle.space_ops.specs.WithinLaws.{shift_more}
use Rattle.wyckoff.specs.Places.{place_at}
use Rattle.wyckoff.specs.OrbitParts.{turned_at, IsRowAdded, IsNumberOf}
use Rattle.wyckoff.proofs.PlacesLemmas.{turned_is, near-at, positive-at, few-at}
use Rattle.wyckoff.proofs.TableLemmas.{row-none, row-more}
use Rattle.wyckoff.proofs.tables.push_turns.Goals as goal

pub loop-i-init : goal.loop-i-init
loop-i-init c =
    row-none (λ i. IsNumberOf c.args.places.now (shift_of (turned_at c.args.quotient.now c.args.r (place_at c.args.places.now i)))) 0 c.args.turns.now.items

pub turned-requires-clause-shift : goal.turned-requires-clause-shift
turned-requires-clause-shift c = shift_more 11 144 c.op-op.result.shift (omega arith) c.op-op.ensures.near

pub turned-requires-clause-place : goal.turned-requires-clause-place
turned-requires-clause-place c = near-at c.args.places.now c.loop-i.i c.requires.near c.loop-i-test.true

pub turned-requires-clause-positive : goal.turned-requires-clause-positive
turned-requires-clause-positive c = positive-at c.args.quotient.now c.requires.quotient c.d-d.result c.d-d.ensures

pub turned-requires-clause-few : goal.turned-requires-clause-few
turned-requires-clause-few c = few-at c.args.quotient.now c.requires.quotient c.d-d.result c.d-d.ensures

pub number_in-requires-clause-listed : goal.number_in-requires-clause-listed
number_in-requires-clause-listed c =
    let s = c.args.quotient.now in
    let places = c.args.places.now in
    let i = c.loop-i.i in
    let f : c.turned.result ≡ shift_of (turned_at s c.args.r (place_at places i)) = turned_is s c.args.r c.group.result.now c.op-op.result c.d-d.result (place_at places i) c.turned.result c.group.ensures c.op-op.ensures.value c.d-d.ensures c.turned.ensures.value in
    subst (Contains places) (sym f) (c.requires.closed.turned c.args.r i c.requires.operation c.loop-i-test.true)

pub loop-i-preserved : goal.loop-i-preserved
loop-i-preserved c =
    let s = c.args.quotient.now in
    let places = c.args.places.now in
    let i = c.loop-i.i in
    let P : ℕ → ℕ → Type 0 = λ i. IsNumberOf places (shift_of (turned_at s c.args.r (place_at places i))) in
    let f : c.turned.result ≡ shift_of (turned_at s c.args.r (place_at places i)) = turned_is s c.args.r c.group.result.now c.op-op.result c.d-d.result (place_at places i) c.turned.result c.group.ensures c.op-op.ensures.value c.d-d.ensures c.turned.ensures.value in
    let pushed : c.push.new.self.items ≡ c.loop-i.turns.items ++ c.number_in.result ∷ [] = c.in-Ok.ensures.items in
    row-more i P 0 c.args.turns.now.items c.loop-i.turns.items c.push.new.self.items c.number_in.result c.loop-i.invariant
    (c.number_in.ensures.0, c.number_in.ensures.1 ∙ f) pushed

pub returns : goal.returns
returns c =
    let P : ℕ → ℕ → Type 0 = λ i. IsNumberOf c.args.places.now (shift_of (turned_at c.args.quotient.now c.args.r (place_at c.args.places.now i))) in
    let e : c.loop-i.i ≡ length c.args.places.now = search rules in
    subst (λ (n : ℕ). IsRowAdded n P 0 c.args.turns.now.items c.loop-i.turns.items) e c.loop-i.invariant
