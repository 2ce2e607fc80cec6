use Rattle.std.proofs.Common.{◌≡◌, ◌∙◌, ap, sym, subst, rules, ℤ, pos, ◌*ℤ◌, to_z, of_z, w32, unsigned_abs, eqb→eq, eq-eqb}
use Rattle.std.proofs.Math.Dec.{T}
use Rattle.std.proofs.lemmas.Int.{to_z-of_z}
use Rattle.space_ops.proofs.Bounds.{unit_square, square_unit}
use Rattle.space_ops.proofs.generators.is_unimodular.Goals as goal

pub returns : goal.returns
returns c =
    let d = c.determinant_of.result in
    let k : to_z w32 (of_z w32 d) ≡ d = to_z-of_z w32 d (search rules) in
    let s : unsigned_abs d ≡ c.unsigned_abs.result = ap unsigned_abs (sym k) ∙ sym c.unsigned_abs.ensures.value in (
      λ h. subst (λ (x : ℤ). x *ℤ x ≡ pos 1) c.determinant_of.ensures (unit_square d (s ∙ eqb→eq c.unsigned_abs.result 1 (subst T (sym h) tt))),
      λ u. eq-eqb c.unsigned_abs.result 1 (sym s ∙ square_unit d (subst (λ (x : ℤ). x *ℤ x ≡ pos 1) (sym c.determinant_of.ensures) u)),
    )
