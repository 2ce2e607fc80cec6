use Rattle.std.proofs.Common.{rules, ◌≡◌, ◌<◌, ℕ, pos, sym, ◌∙◌, ap, subst, arith, length}
use Rattle.std.proofs.lemmas.Int.{to_z-of_z}
use Rattle.std.specs.Int.{w64}
use Rattle.cyclo24.specs.ExactK24.{k24, k24_laws}
use Rattle.cyclo24.specs.K24.{exact24}
use Rattle.mode_project.specs.OrbitAmplitudes.{quotient_of, in_wholes}
use Rattle.mode_project.proofs.OrbitLemmas.{number-next}
use Rattle.mode_project.proofs.orbit_amplitudes.wholes.Goals as goal

pub loop-column-init : goal.loop-column-init
loop-column-init g c = record {
  len = c.in_ok-all.ensures.len;
  done = λ k l. absurd (omega (arith, l));
}

pub number-requires : goal.number-requires
number-requires g c = subst (λ (n : ℕ). c.loop-column.column < n) (sym c.requires) c.loop-column-test.true

pub loop-column-preserved : goal.loop-column-preserved
loop-column-preserved g c =
    let k = c.loop-column.column in
    let len : length c.loop-column.all.items ≡ k = omega (arith, c.loop-column.invariant.len, c.loop-column.all.ok.0) in
    record {
      len = omega (arith, c.loop-column.invariant.len, c.in-Ok.ensures.len);
      done = number-next k24 exact24 c.loop-column.all.items c.push.new.self.items c.quotient.result k (in_wholes (g.N.AtomNumbers.number c.args.numbers.now c.args.orbit)) c.in-Ok.ensures.items len
          (c.quotient.ensures ∙ ap (λ n. quotient_of k24_laws n (pos 12000000)) (to_z-of_z w64 c.number.result (search rules) ∙ c.number.ensures)) c.loop-column.invariant.done;
    }

pub returns-clause-len : goal.returns-clause-len
returns-clause-len g c =
    let e : c.loop-column.column ≡ c.args.size = omega (arith, c.loop-column-test.false, c.loop-column.auto.column-end) in
    omega (arith, c.loop-column.invariant.len, c.loop-column.all.ok.0, e)

pub returns-clause-numbers : goal.returns-clause-numbers
returns-clause-numbers g c j l =
    let e : c.loop-column.column ≡ c.args.size = omega (arith, c.loop-column-test.false, c.loop-column.auto.column-end) in
    c.loop-column.invariant.done j (subst (λ (m : ℕ). j < m) (sym e) l)
