use Rattle.std.proofs.Common.{◌≡◌, subst, ◌<◌, inl, inr, map, length, arith}
use Rattle.std.proofs.lemmas.List.{length-map}
use Rattle.std.proofs.lemmas.Option.{slice_get_within}
use Rattle.space_ops.specs.Op.{vector_of}
use Rattle.extra_modes.specs.Amounts.{labelled, HasAtom}
use Rattle.extra_modes.proofs.NamedLemmas.{below_or}
use Rattle.extra_modes.proofs.named_atoms.atom_at.Goals as goal

pub loop-orbit-preserved : goal.loop-orbit-preserved
loop-orbit-preserved c o i l u = elim (below_or o c.loop-orbit.orbit l) [
  | inl m ↦ c.loop-orbit.invariant o i m u
  | inr e ↦ c.in_default.ensures i (subst (λ p. HasAtom c.args.d (map labelled c.args.orbits.now) c.args.label.now (vector_of c.args.x) p i) e u)
]

pub returns : goal.returns
returns c o i u =
    let l : o < length (map labelled c.args.orbits.now) = slice_get_within (map labelled c.args.orbits.now) o u.orbit u.is_orbit in
    let e : length (map labelled c.args.orbits.now) ≡ length c.args.orbits.now = length-map c.args.orbits.now labelled in
    c.loop-orbit.invariant o i (omega (arith, l, e, c.loop-orbit-test.false, c.len-orbit-end.ensures)) u
