use Rattle.std.proofs.Common.{◌≡◌, ℕ, [], ◌∷◌, ◌++◌, sym, ◌∙◌, ap, arith, map, append-nil, ◌+◌}
use Rattle.std.specs.List.{range_with_len}
use Rattle.real_form.specs.declared.candidate.Candidate.{Candidate}
use Rattle.real_form.specs.declared.candidate.Candidate.TheVariants.{Pair}
use Rattle.real_form.proofs.CombinationLemmas.{appended-next, range-more}
use Rattle.real_form.proofs.candidates.push_powers.Goals as goal

pub loop-a-init : goal.loop-a-init
loop-a-init c = sym (append-nil c.args.all.now.items)

pub loop-a-preserved : goal.loop-a-preserved
loop-a-preserved c =
    let a = c.loop-a.a in
    let P : ℕ → Candidate = λ a. Pair c.args.i c.args.j a in
    appended-next c.args.all.now.items (map P (range_with_len 0 a)) (map P (range_with_len 0 (a + 1))) c.loop-a.all.items c.push.new.self.items (P a ∷ [])
    c.loop-a.invariant c.in-Ok.ensures.items (range-more P a)

pub returns : goal.returns
returns c =
    let P : ℕ → Candidate = λ a. Pair c.args.i c.args.j a in
    let e : c.loop-a.a ≡ 24 = omega (arith, c.loop-a-test.false, c.loop-a.auto.a-end) in
    c.loop-a.invariant ∙ ap (λ k. c.args.all.now.items ++ map P (range_with_len 0 k)) e
