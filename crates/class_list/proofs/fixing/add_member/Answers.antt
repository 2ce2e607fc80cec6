use Rattle.std.proofs.Common.{◌≡◌, ℕ, ◌+◌, inl, inr, true, false, List, sym, ◌∙◌, subst}
use Rattle.lin_alg.specs.Action.{IsFixed}
use Rattle.lin_alg.specs.Echelon.{IsSolution}
use Rattle.lin_alg.specs.Fixed.{FixesAll}
use Rattle.algebra.specs.RisingLists.{IsRisingListOf}
use Rattle.algebra.specs.RisingListLaws.{list-more, list-skip}
use Rattle.class_list.proofs.fixing.add_member.Goals as goal

pub returns-in-Err-clause-wide : goal.returns-in-Err-clause-wide
returns-in-Err-clause-wide g c _ =
    elim c.in-Err.ensures.wide [
      | inl h ↦ inl h
      | inr h ↦ inr (c.args.q, c.requires.element, h)
    ]

pub returns-in-Ok-false-clause-members : goal.returns-in-Ok-false-clause-members
returns-in-Ok-false-clause-members g c =
    let P : ℕ → Type 0 = FixesAll (IsFixed g.F.Field.field.laws (g.G.Acts.action c.args.acts.now)) (IsSolution g.F.Field.field.laws g.F.Field.value c.args.equations.now) in
    list-skip c.args.q P c.args.members.now.items c.requires.members (λ h. let t : false ≡ true = sym c.in-Ok-false.field-0-test ∙ c.in-Ok-false.ensures.answer.1 h in cc)

pub returns-in-Ok-clause-members : goal.returns-in-Ok-clause-members
returns-in-Ok-clause-members g c =
    let P : ℕ → Type 0 = FixesAll (IsFixed g.F.Field.field.laws (g.G.Acts.action c.args.acts.now)) (IsSolution g.F.Field.field.laws g.F.Field.value c.args.equations.now) in
    subst (λ (xs : List ℕ). IsRisingListOf (c.args.q + 1) P xs) (sym c.in-Ok.ensures.items) (list-more c.args.q P c.args.members.now.items c.requires.members (c.in-Ok-true.ensures.answer.0 c.in-Ok-true.field-0-test))
