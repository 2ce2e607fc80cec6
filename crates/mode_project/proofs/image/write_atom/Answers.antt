use Rattle.std.proofs.Common.{rules, ◌≡◌, ◌<◌, ◌≤◌, ◌+◌, ◌*◌, ℕ, ◌∙◌, ap, subst, arith, length}
use Rattle.cyclo24.specs.Numerals.{of_whole}
use Rattle.cyclo24.specs.Sums.{total}
use Rattle.lin_alg.specs.Rows.{vector}
use Rattle.lin_alg.specs.Matrix.{IsWideDot}
use Rattle.mode_project.specs.Parts.{IsPut}
use Rattle.mode_project.specs.Wide.{IsWideImage}
use Rattle.mode_project.proofs.ColumnLemmas.{place-inside, block-inside}
use Rattle.mode_project.proofs.ImageLemmas.{zeros-put}
use Rattle.mode_project.proofs.PutLemmas.{put-start, put-at}
use Rattle.mode_project.proofs.TermLemmas.{on-err}
use Rattle.mode_project.proofs.image.write_atom.Goals as goal

pub loop-a-init : goal.loop-a-init
loop-a-init g c =
    let s = g.S.OfSpace.space in
    let f = g.F.Field.field in
    let value = g.F.Field.value in
    put-start f value (λ a. total f.laws s.each (λ b. f.laws.times (of_whole f.laws (s.turn c.args.q a b)) (vector f.laws value c.args.row.now (c.args.i * s.each + b)))) c.args.image.now (s.image c.args.q c.args.i * s.each)

pub turned_number-requires-clause-room : goal.turned_number-requires-clause-room
turned_number-requires-clause-room g c =
    let s = g.S.OfSpace.space in
    let k : c.args.i * s.each + s.each ≤ s.atoms * s.each = block-inside s.atoms s.each c.args.i c.requires.atom in
    let e : c.args.i * c.args.turns.now.each ≡ c.args.i * s.each = ap (λ n. c.args.i * n) c.requires.table.each in
    let r : length c.args.row.now ≡ s.atoms * s.each = c.requires.row in
    omega (arith, k, e, r)

pub offset_bounds-image-to : goal.offset_bounds-image-to
offset_bounds-image-to g c =
    let s = g.S.OfSpace.space in
    let m : c.image.result < s.atoms = subst (λ (n : ℕ). c.image.result < n) c.requires.orbit.atoms c.image.ensures.below in
    let len : length c.loop-a.image ≡ s.atoms * s.each = c.loop-a.auto.image ∙ c.requires.room in
    let k : c.image.result * c.args.turns.now.each + c.loop-a.a < length c.loop-a.image =
    place-inside s.atoms s.each c.image.result c.loop-a.a c.args.turns.now.each (length c.loop-a.image) m c.requires.table.each c.loop-a-test.true len in
    search rules

pub loop-a-preserved : goal.loop-a-preserved
loop-a-preserved g c =
    let s = g.S.OfSpace.space in
    let f = g.F.Field.field in
    let value = g.F.Field.value in
    let m : c.image.result < s.atoms = subst (λ (n : ℕ). c.image.result < n) c.requires.orbit.atoms c.image.ensures.below in
    let len : length c.loop-a.image ≡ s.atoms * s.each = c.loop-a.auto.image ∙ c.requires.room in
    let k : c.image.result * c.args.turns.now.each + c.loop-a.a < length c.loop-a.image =
    place-inside s.atoms s.each c.image.result c.loop-a.a c.args.turns.now.each (length c.loop-a.image) m c.requires.table.each c.loop-a-test.true len in
    let image : c.image.result ≡ s.image c.args.q c.args.i = c.image.ensures.value ∙ c.requires.orbit.images c.args.q c.args.i c.requires.element c.requires.atom in
    let to : c.image.result * c.args.turns.now.each ≡ s.image c.args.q c.args.i * s.each = (λ t. image t * c.requires.table.each t) in
    let from : c.args.i * c.args.turns.now.each ≡ c.args.i * s.each = ap (λ n. c.args.i * n) c.requires.table.each in
    let target = (λ (a : ℕ). total f.laws s.each (λ b. f.laws.times (of_whole f.laws (s.turn c.args.q a b)) (vector f.laws value c.args.row.now (c.args.i * s.each + b)))) in
    put-at f value (vector f.laws value c.args.image.now) target c.loop-a.image (s.image c.args.q c.args.i * s.each) (c.image.result * c.args.turns.now.each) c.loop-a.a c.in_ok-image.field-0 to k
    (c.in_ok-image.ensures.exact ∙ ap (λ n. total f.laws s.each (λ b. f.laws.times (of_whole f.laws (s.turn c.args.q c.loop-a.a b)) (vector f.laws value c.args.row.now (n + b)))) from) c.loop-a.invariant

pub returns-in_err-image-clause-wide : goal.returns-in_err-image-clause-wide
returns-in_err-image-clause-wide g c =
    let s = g.S.OfSpace.space in
    let f = g.F.Field.field in
    let value = g.F.Field.value in
    let from : c.args.i * c.args.turns.now.each ≡ c.args.i * s.each = ap (λ n. c.args.i * n) c.requires.table.each in
    let la : c.loop-a.a < s.each = subst (λ (n : ℕ). c.loop-a.a < n) c.requires.table.each c.loop-a-test.true in
    on-err c.from_residual.result (IsWideImage f s c.args.q (vector f.laws value c.args.row.now)) (
      c.args.i,
      c.loop-a.a,
      c.requires.atom,
      la,
      subst (λ (n : ℕ). IsWideDot f s.each (λ b. of_whole f.laws (s.turn c.args.q c.loop-a.a b)) (λ b. vector f.laws value c.args.row.now (n + b))) from c.in_err-image.ensures.wide,
    )

pub returns-clause-exact : goal.returns-clause-exact
returns-clause-exact g c =
    let s = g.S.OfSpace.space in
    let f = g.F.Field.field in
    let value = g.F.Field.value in
    let ends : c.loop-a.a ≡ s.each = (let e : c.loop-a.a ≡ c.args.turns.now.each = omega (arith, c.loop-a-test.false, c.loop-a.auto.a-end) in e) ∙ c.requires.table.each in
    subst (λ (n : ℕ). IsPut (vector f.laws value c.args.image.now) (s.image c.args.q c.args.i * s.each) n
    (λ a. total f.laws s.each (λ b. f.laws.times (of_whole f.laws (s.turn c.args.q a b)) (vector f.laws value c.args.row.now (c.args.i * s.each + b)))) (vector f.laws value c.loop-a.image)) ends c.loop-a.invariant

pub is_zero_block-requires : goal.is_zero_block-requires
is_zero_block-requires g c =
    let s = g.S.OfSpace.space in
    let k : c.args.i * s.each + s.each ≤ s.atoms * s.each = block-inside s.atoms s.each c.args.i c.requires.atom in
    let e : c.args.i * c.args.turns.now.each ≡ c.args.i * s.each = ap (λ n. c.args.i * n) c.requires.table.each in
    let r : length c.args.row.now ≡ s.atoms * s.each = c.requires.row in
    omega (arith, k, e, r, c.requires.table.each)

pub returns-then-is_zero_block-clause-exact : goal.returns-then-is_zero_block-clause-exact
returns-then-is_zero_block-clause-exact g c =
    let s = g.S.OfSpace.space in
    let f = g.F.Field.field.laws in
    let value = g.F.Field.value in
    zeros-put f s (vector f value c.args.row.now) (vector f value c.args.image.now) (s.image c.args.q c.args.i * s.each) c.args.q c.args.i c.requires.zero
    (λ b l. subst (λ (n : ℕ). b < n → vector f value c.args.row.now (c.args.i * n + b) ≡ f.nought) c.requires.table.each (c.is_zero_block.ensures c.if-is_zero_block.true b) l)
