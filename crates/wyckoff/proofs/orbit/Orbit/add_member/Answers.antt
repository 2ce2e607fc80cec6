use Rattle.std.proofs.Common.{◌≡◌, ◌+◌, ℕ, List, sym, ◌∙◌, subst}
use Rattle.algebra.specs.RisingLists.{IsRisingListOf}
use Rattle.algebra.specs.RisingListLaws.{list-more, list-skip}
use Rattle.wyckoff.specs.Orbit.{image_of}
use Rattle.wyckoff.proofs.orbit.Orbit.add_member.Goals as goal

pub returns-then-image-i : goal.returns-then-image-i
returns-then-image-i c =
    let P : ℕ → Type 0 = λ p. image_of c.args.self.now p c.args.i ≡ c.args.i in
    list-skip c.args.q P c.args.members.now.items c.requires.members (λ e. c.if-image-i.true (c.image.ensures.value ∙ e))

pub returns-in-Ok : goal.returns-in-Ok
returns-in-Ok c =
    let P : ℕ → Type 0 = λ p. image_of c.args.self.now p c.args.i ≡ c.args.i in
    subst (λ (xs : List ℕ). IsRisingListOf (c.args.q + 1) P xs) (sym c.in-Ok.ensures.items)
    (list-more c.args.q P c.args.members.now.items c.requires.members (sym c.image.ensures.value ∙ c.if-image-i.false))
