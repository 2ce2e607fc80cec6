use Rattle.std.proofs.Common.{◌≡◌, ◌≤◌, ◌<◌, ◌+◌, ◌++◌, ◌∷◌, [], ℕ, List, Vec, length, map, sym, ◌∙◌, ap, subst, arith, vec_len, vec_capacity}
use Rattle.lin_alg.specs.Rows.{HaveLength, HaveWidth}
use Rattle.lin_alg.proofs.PutLemmas.{wide-first, wide-last, long-kept}
use Rattle.lin_alg.proofs.memory.free_lines.Goals as goal
use Rattle.lin_alg.proofs.memory.free_lines.Goals.{in-Some, in_default}

pub loop-preserved : goal.loop-preserved
loop-preserved g c =
    let room = c.loop.invariant.room in
    let more = c.loop.invariant.more in
    let cap = c.pop.ensures.capacity in
    elim c.match-pop.branch [
      | in-Some w ↦
          let h : ℕ × Vec _ _ → ℕ × List _ = λ r. (r.0, r.1.items) in
          let fewer = w.in-Some.ensures.cases in
          let kept = w.keep_row.ensures.more in
          let one = w.keep_row.ensures.one in
          let same : vec_len c.match-pop.spare ≡ vec_len w.keep_row.new.spare = ap vec_len w.spare-is in
          let last = λ (x : ℕ) (a : HaveWidth x (map h c.args.lines.now.items)).
          wide-last h x c.pop.new.self.items (w.in-Some.field-0-0, w.in-Some.row) (subst (λ (z : List _). HaveWidth x (map h z)) w.in-Some.ensures.items (c.loop.invariant.wide x a)) in
          record {
            room = omega arith;
            more = omega arith;
            wide = λ x a. (last x a).0;
            long = λ x a b. subst (λ (z : Vec _ _). HaveLength x (map (λ r. r.items) z.items)) (sym w.spare-is)
                (long-kept (λ r. r.items) x c.loop.spare.items w.keep_row.new.spare.items w.in-Some.row w.keep_row.ensures.kept (c.loop.invariant.long x a b) (last x a).1);
          }
      | in_default w ↦
          let h : ℕ × Vec _ _ → ℕ × List _ = λ r. (r.0, r.1.items) in
          let none = w.in_default.ensures.cases in
          let same : vec_len c.match-pop.spare ≡ vec_len c.loop.spare = ap vec_len w.spare-is in
          record {
            room = omega arith;
            more = omega arith;
            wide = λ x a. wide-first h x c.pop.new.self.items [] (subst (λ (z : List _). HaveWidth x (map h z)) w.in_default.ensures.items (c.loop.invariant.wide x a));
            long = λ x a b. subst (λ (z : Vec _ _). HaveLength x (map (λ r. r.items) z.items)) (sym w.spare-is) (c.loop.invariant.long x a b);
          }
    ]
