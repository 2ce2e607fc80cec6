use Rattle.std.proofs.Common.{ℕ, inl, inr, sym, subst}
use Rattle.lin_alg.specs.Rows.{vector}
use Rattle.mode_project.specs.Scaled.{IsScaledAt}
use Rattle.mode_project.proofs.ScaleLemmas.{scaled-class}
use Rattle.mode_project.proofs.scale.is_class_scaled.Goals as goal

pub returns-clause-known : goal.returns-clause-known
returns-clause-known g c p h =
    let f = g.F.Field.field.laws in
    let w = vector f g.F.Field.value c.args.weights.now in
    let group = g.S.OfSpace.space.group in
    let x = g.F.Field.value c.args.scale in
    let own = c.is_scaled.ensures c.if-not-is_scaled.false in
    elim (c.mark_class.ensures p h) [
      | inl k ↦ c.requires.known p k
      | inr k ↦ subst (λ (z : ℕ). IsScaledAt f group w x z) (sym k.2) (scaled-class group c.requires.laws.group k.0 k.1 f w c.requires.class x c.args.q c.requires.element own)
    ]
