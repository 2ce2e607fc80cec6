use Rattle.std.proofs.Common.{◌≡◌, ◌<◌, ◌∙◌, below_more, arith, set, length, inl, inr}
use Rattle.lin_alg.specs.EquationLaws.{dec}
use Rattle.lin_alg.specs.Rows.{vector}
use Rattle.lin_alg.specs.RowLaws.{vector-past}
use Rattle.class_list.proofs.RowLemmas.{vector-set_same, vector-set_other}
use Rattle.class_list.proofs.image.clear.Goals as goal

pub loop-j-preserved : goal.loop-j-preserved
loop-j-preserved g c =
    let f = g.F.Field.field in
    let v = g.F.Field.value in
    let row = c.loop-j.row in
    let j = c.loop-j.j in
    let l : j < length row = omega arith in
    below_more (λ k. vector f.laws v (set row j c.zero.result) k ≡ f.laws.nought) j
    (λ k h. let n : k ≡ j → ⊥ = omega arith in vector-set_other f v row j k c.zero.result n ∙ c.loop-j.invariant k h)
    (vector-set_same f v row j c.zero.result l ∙ c.zero.ensures)

pub returns : goal.returns
returns g c k =
    let f = g.F.Field.field in
    let v = g.F.Field.value in
    elim (dec k (length c.loop-j.row)) [
      | inl l ↦ let m : k < c.loop-j.j = omega arith in c.loop-j.invariant k m
      | inr l ↦ vector-past f v c.loop-j.row k l
    ]
