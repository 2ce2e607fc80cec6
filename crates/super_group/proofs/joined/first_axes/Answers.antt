use Rattle.std.proofs.Common.{subst, sym, [], ◌∷◌}
use Rattle.super_group.specs.FirstAxes.{AreFirstAxes}
use Rattle.super_group.specs.FirstAxesLaws.{firsts-lawful}
use Rattle.super_group.proofs.joined.first_axes.Goals as goal

pub returns : goal.returns
returns c =
    let xy = c.are_linked-xy in
    let yz = c.are_linked-yz in
    let xz = c.are_linked-xz in
    subst (AreFirstAxes c.args.group.now.ops) (λ i. 0 ∷ sym c.first_of_y.ensures i ∷ sym c.first_of_z.ensures i ∷ [])
    (firsts-lawful c.args.group.now.ops xy.result yz.result xz.result (record { yes = xy.ensures.yes; no = xy.ensures.no })
    (record { yes = yz.ensures.yes; no = yz.ensures.no })
    (record { yes = xz.ensures.yes; no = xz.ensures.no }))
