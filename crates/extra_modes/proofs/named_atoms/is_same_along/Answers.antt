use Rattle.std.proofs.Common.{◌≡◌, sym, ap, ◌∙◌, ℕ, ◌<◌, ◌*◌, pos, neg_ℤ, ◌+ℤ◌, ◌-ℤ◌, ◌*ℤ◌, to_z, of_z, w64, rules, arith}
use Rattle.std.proofs.lemmas.Bool.{eqb-true, eq-eqb}
use Rattle.std.proofs.lemmas.Int.{ints, to_z-of_z}
use Rattle.std.specs.Int.{int_rem_euclid}
use Rattle.algebra.specs.MultipleLaws.{rem-multiple, multiple-rem}
use Rattle.extra_modes.proofs.named_atoms.is_same_along.Goals as goal

pub returns : goal.returns
returns c =
    let n : ℕ = 12000000 * c.args.multiplier in
    let positive : 0 < 12000000 * c.args.multiplier = omega (arith, c.requires.positive) in
    let length : to_z w64 (of_z w64 (pos 12000000 *ℤ to_z w64 (of_z w64 c.from.result))) ≡ pos n = omega (arith, ints, c.from.ensures, c.requires.few) in
    let difference : to_z w64 (of_z w64 (to_z w64 (of_z w64 c.args.x) -ℤ to_z w64 (of_z w64 c.args.a))) ≡ c.args.x +ℤ neg_ℤ c.args.a =
    omega (arith, ints, c.requires.place.0, c.requires.place.1, c.requires.atom.0, c.requires.atom.1) in
    let e : c.rem_euclid.result ≡ int_rem_euclid (c.args.x +ℤ neg_ℤ c.args.a) (pos n) = c.rem_euclid.ensures.value ∙ (λ i. int_rem_euclid (difference i) (length i)) in (
      λ t. rem-multiple n positive (c.args.x +ℤ neg_ℤ c.args.a) (sym e ∙ sym (to_z-of_z w64 c.rem_euclid.result (search rules)) ∙ ap (to_z w64) (eqb-true (of_z w64 c.rem_euclid.result) 0 t)),
      λ m. eq-eqb (of_z w64 c.rem_euclid.result) 0 (ap (of_z w64) (e ∙ multiple-rem n positive (c.args.x +ℤ neg_ℤ c.args.a) m)),
    )
