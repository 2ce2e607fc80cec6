use Rattle.std.proofs.Common.{◌≡◌, ◌∙◌, sym, ap, subst, true}
use Rattle.small_rep.specs.SmallRep.{is_listed}
use Rattle.small_rep.specs.Rep.{RepView, IsRep}
use Rattle.small_rep.proofs.RepLemmas.{held_listed}
use Rattle.small_rep.proofs.rep.SmallRep.matrix.Goals as goal

pub place_of-requires : goal.place_of-requires
place_of-requires c =
    let held : IsRep c.args.self.now = subst IsRep c.self.view_is c.self.invariant in
    let same : c.deref.result.now ≡ c.args.self.now.rotations = c.deref.ensures.value ∙ ap (λ (z : RepView). z.rotations) c.self.view_is in
    subst (λ xs. is_listed xs c.args.rotation ≡ true) (sym same) (held_listed c.args.self.now held c.args.rotation c.requires)
