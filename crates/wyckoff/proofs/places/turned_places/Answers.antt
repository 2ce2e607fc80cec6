use Rattle.std.proofs.Common.{◌≡◌, ◌++◌, ◌∷◌, [], sym, subst, ℕ, ℤ, List, length, arith, rules}
use Rattle.space_ops.specs.Op.{vector_of}
use Rattle.space_ops.specs.WithinLaws.{shift_more}
use Rattle.wyckoff.specs.OrbitParts.{IsTurned, IsRowAdded}
use Rattle.wyckoff.proofs.PlacesLemmas.{turned_is, positive-at, few-at}
use Rattle.wyckoff.proofs.TableLemmas.{row-none, row-more}
use Rattle.wyckoff.proofs.places.turned_places.Goals as goal

pub loop-r-init : goal.loop-r-init
loop-r-init c =
    let P = IsTurned c.args.quotient.now (vector_of c.args.x) in
    subst (λ (v : List (List ℤ)). IsRowAdded 0 P [] [] v) (sym c.new-places.ensures.items) (row-none P [] [])

pub turned-requires-clause-shift : goal.turned-requires-clause-shift
turned-requires-clause-shift c = shift_more 11 144 c.op.result.shift (omega arith) c.op.ensures.near

pub turned-requires-clause-positive : goal.turned-requires-clause-positive
turned-requires-clause-positive c = positive-at c.args.quotient.now c.requires.quotient c.d-d.result c.d-d.ensures

pub turned-requires-clause-few : goal.turned-requires-clause-few
turned-requires-clause-few c = few-at c.args.quotient.now c.requires.quotient c.d-d.result c.d-d.ensures

pub loop-r-preserved : goal.loop-r-preserved
loop-r-preserved c =
    let s = c.args.quotient.now in
    let x = vector_of c.args.x in
    let pushed : c.push.new.self.items ≡ c.loop-r.places.items ++ c.turned.result ∷ [] = c.in-Ok.ensures.items in
    row-more c.loop-r.r (IsTurned s x) [] [] c.loop-r.places.items c.push.new.self.items c.turned.result c.loop-r.invariant
    (turned_is s c.loop-r.r c.group-group.result.now c.op.result c.d-d.result x c.turned.result c.group-group.ensures c.op.ensures.value c.d-d.ensures c.turned.ensures.value)
    pushed

pub returns : goal.returns
returns c =
    let P = IsTurned c.args.quotient.now (vector_of c.args.x) in
    let e : c.loop-r.r ≡ length c.args.quotient.now.parent.ops = search rules in
    subst (λ (n : ℕ). IsRowAdded n P [] [] c.loop-r.places.items) e c.loop-r.invariant
