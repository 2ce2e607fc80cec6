use Rattle.std.proofs.Common.{◌≡◌, ap, subst, ℕ, ◌≤◌, ◌*◌, length, arith}
use Rattle.space_ops.specs.declared.lattice.Lattice.{Lattice}
use Rattle.space_ops.specs.Lattice.{centrings_of}
use Rattle.space_ops.specs.Group.{IsParentGroup}
use Rattle.super_group.specs.Supercell.{multiplier}
use Rattle.super_group.specs.Quotient.{AreTranslations}
use Rattle.super_group.specs.CountLaws.{translations-count}
use Rattle.super_group.proofs.numbering.Numbering.new.Goals as goal

few_elements : (rotations centrings cells count order : ℕ) → count ≡ centrings * cells → order ≡ rotations * centrings * cells → order ≤ 6144 → rotations * count ≤ 6144
few_elements rotations centrings cells count order e f l = let k : rotations * count ≡ rotations * (centrings * cells) = ap (λ n. rotations * n) e in omega (arith, k, f, l)

pub invariant_of-result : goal.invariant_of-result
invariant_of-result c =
    let held : AreTranslations c.args.group.lattice c.args.d c.in-Ok.translations.items =
    subst (λ (lattice : Lattice). AreTranslations lattice c.args.d c.in-Ok.translations.items) c.lattice.ensures.value c.in-Ok.ensures in
    record {
      quotient = record { parent = subst IsParentGroup c.group.view_is c.group.invariant; supercell = c.requires; translations = held };
      few = few_elements (length c.args.group.ops) (length (centrings_of c.args.group.lattice)) (multiplier c.args.d 0 * multiplier c.args.d 1 * multiplier c.args.d 2)
          (length c.in-Ok.translations.items) c.order_in-order.result (translations-count c.args.group.lattice c.args.d c.in-Ok.translations.items c.requires.positive held)
          c.order_in-order.ensures c.if-order-gt-MAX_ORDER.false;
      products = c.product_table-products.ensures;
    }
