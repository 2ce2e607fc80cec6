use Rattle.std.proofs.Common.{◌≡◌, ℕ, List, Vec, map, sym, subst, vec_len, true}
use Rattle.lin_alg.specs.Echelon.{IsEchelon}
use Rattle.lin_alg.proofs.echelon.Echelon.clear.Goals as goal

pub invariant_of-self-2 : goal.invariant_of-self-2
invariant_of-self-2 g c =
    let kept = c.free_lines.ensures in
    let w : ℕ = c.self.inside.width in (
      kept.room,
      kept.long w c.self.invariant.2.shape c.self.invariant.1,
      subst (λ (z : List (ℕ × Vec _ _)). IsEchelon g.F.Field.field.laws g.F.Field.value (record { width = w; whole = true; rows = map (λ r. (r.0, r.1.items)) z; spare = vec_len c.free_lines.new.spare })) (sym kept.empty)
          (record { shape = tt; form = λ _. record { reduced = tt; pivots = tt; within = tt } }),
    )
