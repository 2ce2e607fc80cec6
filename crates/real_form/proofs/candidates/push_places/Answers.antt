use Rattle.std.proofs.Common.{◌≡◌, [], ◌∷◌, ◌++◌, ◌+◌, sym, ◌∙◌, ap, arith, map, append-nil}
use Rattle.std.specs.List.{range_with_len}
use Rattle.real_form.specs.declared.candidate.Candidate.TheVariants.{Place}
use Rattle.real_form.proofs.CombinationLemmas.{appended-next, range-more}
use Rattle.real_form.proofs.candidates.push_places.Goals as goal

pub loop-i-init : goal.loop-i-init
loop-i-init c = sym (append-nil c.args.all.now.items)

pub loop-i-preserved : goal.loop-i-preserved
loop-i-preserved c =
    let i = c.loop-i.i in
    appended-next c.args.all.now.items (map Place (range_with_len 0 i)) (map Place (range_with_len 0 (i + 1))) c.loop-i.all.items c.push.new.self.items (Place i ∷ [])
    c.loop-i.invariant c.in-Ok.ensures.items (range-more Place i)

pub returns : goal.returns
returns c =
    let e : c.loop-i.i ≡ c.args.n = omega (arith, c.loop-i-test.false, c.loop-i.auto.i-end) in
    c.loop-i.invariant ∙ ap (λ k. c.args.all.now.items ++ map Place (range_with_len 0 k)) e
