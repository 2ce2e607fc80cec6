use Rattle.std.proofs.Common.{◌≡◌, ℕ, List, sym, subst, arith}
use Rattle.lin_alg.specs.Action.{IsFixed}
use Rattle.lin_alg.specs.Echelon.{IsSolution}
use Rattle.lin_alg.specs.Fixed.{FixesAll}
use Rattle.algebra.specs.RisingLists.{IsRisingListOf}
use Rattle.class_list.proofs.InsertLemmas.{same-error}
use Rattle.class_list.proofs.fixing.stabiliser.Goals as goal

pub returns-in-Err-clause-wide : goal.returns-in-Err-clause-wide
returns-in-Err-clause-wide g c e = c.in-Err.ensures.wide (same-error _ _ e)

pub returns-in-Err-clause-never : goal.returns-in-Err-clause-never
returns-in-Err-clause-never g c e = c.in-Err.ensures.never (same-error _ _ e)

pub returns-clause-exact : goal.returns-clause-exact
returns-clause-exact g c =
    let act = g.G.Acts.action c.args.acts.now in
    let P : ℕ → Type 0 = FixesAll (IsFixed g.F.Field.field.laws act) (IsSolution g.F.Field.field.laws g.F.Field.value c.args.equations.now) in
    let e : c.order-q-end.result ≡ act.group.order = c.order-q-end.ensures in
    let n : c.loop-q.q ≡ act.group.order = omega (arith, e) in
    subst (λ (xs : List ℕ). IsRisingListOf act.group.order P xs) (sym c.from_vec.ensures) (subst (λ (k : ℕ). IsRisingListOf k P c.loop-q.members.items) n c.loop-q.invariant.0)
