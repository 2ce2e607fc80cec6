use Rattle.super_group.specs.QuotientLaws.{quotient-lawful}
use Rattle.mode_project.specs.QuantityLaws.{turn-unit, turn-product}
use Rattle.std.proofs.Common.{subst, ◌<◌, ℕ}
use Rattle.mode_project.proofs.laws.law_of_spaces.Goals as goal

pub returns : goal.returns
returns c g o k h orbit own =
    let law = c.law_of_images.ensures in
    record {
      group = quotient-lawful g h;
      images = law.action g orbit.atom o h orbit.of;
      some = law.some g orbit.atom o h orbit.of;
      reached = λ i l. let r = law.transitive g orbit.atom o h orbit.of i l in (r.0, subst (λ (n : ℕ). r.0 < n) orbit.of.order r.1, r.2);
      unit = turn-unit g h k own;
      product = turn-product g h k own;
    }
