use Rattle.std.proofs.Common.{◌≡◌, ◌<◌, ◌≤◌, ℕ, ◌∙◌, subst, arith}
use Rattle.lin_alg.specs.Rows.{vector}
use Rattle.mode_project.proofs.ImageLemmas.{moved-start, moved-next, moved-end}
use Rattle.mode_project.proofs.image.fill_image.Goals as goal

pub loop-i-init : goal.loop-i-init
loop-i-init g c = moved-start g.F.Field.field.laws g.S.OfSpace.space c.requires.laws c.args.q (vector g.F.Field.field.laws g.F.Field.value c.args.row.now) (vector g.F.Field.field.laws g.F.Field.value c.args.image.now) c.requires.zero

pub write_atom-requires-clause-atom : goal.write_atom-requires-clause-atom
write_atom-requires-clause-atom g c = subst (λ (n : ℕ). c.loop-i.i < n) (c.atoms-i-end.ensures.value ∙ c.requires.orbit.atoms) c.loop-i-test.true

pub write_atom-requires-clause-room : goal.write_atom-requires-clause-room
write_atom-requires-clause-room g c = c.loop-i.auto.image ∙ c.requires.room

pub loop-i-preserved : goal.loop-i-preserved
loop-i-preserved g c =
    let s = g.S.OfSpace.space in
    let f = g.F.Field.field.laws in
    let value = g.F.Field.value in
    let l : c.loop-i.i < s.atoms = subst (λ (n : ℕ). c.loop-i.i < n) (c.atoms-i-end.ensures.value ∙ c.requires.orbit.atoms) c.loop-i-test.true in
    moved-next f s c.requires.laws c.args.q c.loop-i.i (vector f value c.args.row.now) (vector f value c.loop-i.image) (vector f value c.write_atom.new.image) c.requires.element l c.loop-i.invariant c.in_ok-write_atom.ensures.exact

pub returns-clause-exact : goal.returns-clause-exact
returns-clause-exact g c =
    let s = g.S.OfSpace.space in
    let f = g.F.Field.field in
    let value = g.F.Field.value in
    let ends : c.loop-i.i ≡ c.atoms-i-end.result = omega (arith, c.loop-i-test.false, c.loop-i.auto.i-end) in
    moved-end f value s c.requires.laws c.args.q c.loop-i.i (vector f.laws value c.args.row.now) c.loop-i.image c.requires.element (c.loop-i.auto.image ∙ c.requires.room) (ends ∙ c.atoms-i-end.ensures.value ∙ c.requires.orbit.atoms) c.loop-i.invariant

pub write_atom-requires-clause-zero : goal.write_atom-requires-clause-zero
write_atom-requires-clause-zero g c a la =
    let s = g.S.OfSpace.space in
    let l : c.loop-i.i < s.atoms = subst (λ (n : ℕ). c.loop-i.i < n) (c.atoms-i-end.ensures.value ∙ c.requires.orbit.atoms) c.loop-i-test.true in
    let own : c.loop-i.i ≤ c.loop-i.i = omega arith in
    c.loop-i.invariant.rest c.loop-i.i own l a la
