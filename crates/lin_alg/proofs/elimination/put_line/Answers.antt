use Rattle.std.proofs.Common.{◌≡◌, ◌<◌, ℕ, length, map, List, Vec, vec_len, vec_capacity, ◌∙◌, ap, subst, arith, true, is_ok, if◌then◌else◌}
use Rattle.std.specs.List.{insert}
use Rattle.lin_alg.specs.Rows.{HaveLength}
use Rattle.lin_alg.proofs.PutLemmas.{long-last, map-insert}
use Rattle.lin_alg.proofs.elimination.put_line.Goals as goal

pub copy_from_slice-requires : goal.copy_from_slice-requires
copy_from_slice-requires g c =
    let k = long-last (λ (r : Vec _ _). r.items) (length c.args.row.now) c.pop.new.self.items c.in-Some.fresh
    (subst (λ (z : List _). HaveLength (length c.args.row.now) (map (λ (r : Vec _ _). r.items) z)) c.in-Some.ensures.items c.requires.long) in
    c.in-Some.fresh.ok.0 ∙ k.1

pub returns-in-Some-clause-long : goal.returns-in-Some-clause-long
returns-in-Some-clause-long g c =
    (long-last (λ (r : Vec _ _). r.items) (length c.args.row.now) c.pop.new.self.items c.in-Some.fresh
    (subst (λ (z : List _). HaveLength (length c.args.row.now) (map (λ (r : Vec _ _). r.items) z)) c.in-Some.ensures.items c.requires.long)).0

pub returns-in-Some-clause-put : goal.returns-in-Some-clause-put
returns-in-Some-clause-put g c =
    let room : vec_len c.args.lines.now < vec_capacity c.args.lines.now = omega (arith, c.requires.room, c.requires.some) in
    let ok : is_ok c.insert.result ≡ true = c.insert.ensures.succeeds room in
    let h : ℕ × Vec _ _ → ℕ × List _ = λ r. (r.0, r.1.items) in
    let y : ℕ × Vec _ _ = (c.args.p, c.copy_from_slice.new.self) in
    let e : c.insert.new.self.items ≡ insert c.args.lines.now.items c.args.at y =
    c.insert.ensures.items ∙ ap (λ b. if b then insert c.args.lines.now.items c.args.at y else c.args.lines.now.items) ok in
    ap (map h) e ∙ map-insert h c.args.lines.now.items c.args.at y ∙ (λ i. insert (map h c.args.lines.now.items) c.args.at (c.args.p, c.copy_from_slice.ensures.items i))
