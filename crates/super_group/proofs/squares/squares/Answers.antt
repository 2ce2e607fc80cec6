use Rattle.std.proofs.Common.{◌≡◌, ◌++◌, ◌∷◌, [], subst, rules}
use Rattle.super_group.specs.Quotient.{order_of}
use Rattle.super_group.specs.Squares.{AreSquares}
use Rattle.super_group.proofs.SquareLemmas.{squares_none, squares_more}
use Rattle.super_group.proofs.squares.squares.Goals as goal

pub loop-q-init : goal.loop-q-init
loop-q-init c = squares_none c.args.numbering.now c.new-squares.result.items c.new-squares.ensures.items

pub loop-q-preserved : goal.loop-q-preserved
loop-q-preserved c =
    let pushed : c.push.new.self.items ≡ c.loop-q.squares.items ++ c.product.result ∷ [] = c.in-Ok.ensures.items in
    squares_more c.args.numbering.now c.loop-q.squares.items c.push.new.self.items c.product.result c.loop-q.q pushed c.loop-q.invariant c.product.ensures.product

pub returns : goal.returns
returns c =
    let e : c.loop-q.q ≡ order_of c.args.numbering.now = search rules in
    subst (AreSquares c.args.numbering.now c.loop-q.squares.items) e c.loop-q.invariant
