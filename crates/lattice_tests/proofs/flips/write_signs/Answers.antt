use Rattle.std.proofs.Common.{◌≡◌, ◌<◌, ◌∙◌, below_more, arith, set, length}
use Rattle.lin_alg.specs.Rows.{vector}
use Rattle.lattice_tests.specs.Flips.{flip_entry}
use Rattle.lattice_tests.proofs.WriteLemmas.{vector-set_same, vector-set_other}
use Rattle.lattice_tests.proofs.flips.write_signs.Goals as goal

pub loop-j-preserved : goal.loop-j-preserved
loop-j-preserved g c =
    let f = g.F.Field.field in
    let v = g.F.Field.value in
    let row = c.loop-j.into in
    let j = c.loop-j.j in
    let l : j < length row = omega arith in
    below_more (λ k. vector f.laws v (set row j c.entry.result) k ≡ flip_entry f c.args.q c.args.i k) j
    (λ k h. let n : k ≡ j → ⊥ = omega arith in vector-set_other f v row j k c.entry.result n ∙ c.loop-j.invariant k h)
    (vector-set_same f v row j c.entry.result l ∙ c.entry.ensures)
