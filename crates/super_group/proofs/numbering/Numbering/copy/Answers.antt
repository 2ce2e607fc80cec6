use Rattle.std.proofs.Common.{◌≡◌, sym, ◌∙◌, subst, ◌≤◌, length}
use Rattle.space_ops.specs.Group.{Parent}
use Rattle.super_group.specs.Quotient.{SupercellGroup, IsQuotient, order_of}
use Rattle.super_group.specs.NumberingView.{view_of}
use Rattle.super_group.specs.RotationTable.{IsProductTable}
use Rattle.super_group.proofs.numbering.Numbering.copy.Goals as goal

pub invariant_of-result : goal.invariant_of-result
invariant_of-result c =
    let copied : SupercellGroup = record { parent = c.in-Ok.group; d = c.self.inside.d; translations = c.in-Ok-from_slice.translations.items } in
    let same : copied ≡ view_of c.self.inside =
    λ i. record { parent = c.in-Ok.ensures i; d = c.self.inside.d; translations = (c.in-Ok-from_slice.ensures.items ∙ c.deref.ensures.value) i } in
    record {
      quotient = subst IsQuotient (sym same) c.self.invariant.quotient;
      few = subst (λ (s : SupercellGroup). order_of s ≤ 6144) (sym same) c.self.invariant.few;
      products = subst (λ (p : Parent). IsProductTable p.ops (length p.ops) c.self.inside.products) (sym c.in-Ok.ensures) c.self.invariant.products;
    }
