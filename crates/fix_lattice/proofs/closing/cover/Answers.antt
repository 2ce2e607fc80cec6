use Rattle.std.proofs.Common.{◌≡◌, ◌<◌, ◌≤◌, ◌⊎◌, ℕ, true, false, List, [], ◌∷◌, ◌++◌, sym, ◌∙◌, subst, length, map, get_or, arith}
use Rattle.std.proofs.lemmas.List.{length-map}
use Rattle.fix_lattice.specs.Classes.{AreReached, IsReached, IsOf}
use Rattle.fix_lattice.specs.Subspaces.{exact_forms}
use Rattle.fix_lattice.proofs.ReachLemmas.{covered-after, queue-after, queue-more, row-inside}
use Rattle.fix_lattice.proofs.closing.cover.Goals as goal
use Rattle.fix_lattice.specs.FormLaws.{exact-length}
use Rattle.fix_lattice.proofs.ListLemmas.{same-default}

pub loop-t-init : goal.loop-t-init
loop-t-init g c =
    let f = g.F.Field.field in
    let v = g.F.Field.value in
    let act = g.G.Acts.action c.args.acts.now in
    let forms = exact_forms f.laws v c.args.held.now.keys in
    let n = exact-length f.laws v c.args.held.now.keys in
    let there = c.requires.there in
    let l : c.args.at < length forms = omega arith in
    record {
      covered = c.requires.covered;
      queue = subst (AreReached f.laws act forms) (sym c.in_ok-push.ensures)
          (subst (λ (z : List ℕ). AreReached f.laws act forms (z ++ c.args.at ∷ [])) (sym c.new-queue.ensures.items)
          (queue-more f act forms [] c.args.at (λ t m. absurd (omega arith)) l c.requires.reached));
    }

pub row_in-found-requires : goal.row_in-found-requires
row_in-found-requires g c =
    let f = g.F.Field.field in
    let v = g.F.Field.value in
    let act = g.G.Acts.action c.args.acts.now in
    let forms = exact_forms f.laws v c.args.held.now.keys in
    let images = map (λ r. r.items) c.args.images.now in
    let n = exact-length f.laws v c.args.held.now.keys in
    let rows = length-map c.args.images.now (λ r. r.items) in
    let all = c.requires.all in
    let x : ℕ = c.index.result.now in
    let queue = c.loop-t.queue.items in
    let t = c.loop-t.invariant in
    let tl : c.loop-t.t < length queue = omega (arith, c.loop-t.queue.ok.0, c.len.ensures, c.if-t-len.false) in
    let e : x ≡ get_or queue c.loop-t.t 0 = c.index.ensures ∙ same-default queue c.loop-t.t x 0 tl in
    let own = subst (λ (z : ℕ). (z < length forms) × IsReached f.laws act forms z) (sym e) (t.queue c.loop-t.t tl) in
    let xl = own.0 in
    omega arith

pub reach-requires : goal.reach-requires
reach-requires g c =
    let f = g.F.Field.field in
    let v = g.F.Field.value in
    let act = g.G.Acts.action c.args.acts.now in
    let forms = exact_forms f.laws v c.args.held.now.keys in
    let images = map (λ r. r.items) c.args.images.now in
    let n = exact-length f.laws v c.args.held.now.keys in
    let rows = length-map c.args.images.now (λ r. r.items) in
    let all = c.requires.all in
    let x : ℕ = c.index.result.now in
    let queue = c.loop-t.queue.items in
    let t = c.loop-t.invariant in
    let tl : c.loop-t.t < length queue = omega (arith, c.loop-t.queue.ok.0, c.len.ensures, c.if-t-len.false) in
    let e : x ≡ get_or queue c.loop-t.t 0 = c.index.ensures ∙ same-default queue c.loop-t.t x 0 tl in
    let own = subst (λ (z : ℕ). (z < length forms) × IsReached f.laws act forms z) (sym e) (t.queue c.loop-t.t tl) in
    let xl = own.0 in
    let law = g.met.G.Acts.lawful c.args.acts.now in
    let il : x < length images = omega arith in
    let inside = row-inside f act law forms images c.requires.images x il in
    let room : length forms ≤ length c.loop-t.covered = omega (arith, c.requires.marks, c.loop-t.auto.covered) in
    subst (λ (z : List ℕ). (p : ℕ) → p < length z → get_or z p 0 < length c.loop-t.covered) (sym c.row_in-found.ensures) (λ p l. let b = inside p l in omega arith)

pub returns-in_err-reach : goal.returns-in_err-reach
returns-in_err-reach g c =
    let f = g.F.Field.field in
    let v = g.F.Field.value in
    let act = g.G.Acts.action c.args.acts.now in
    let forms = exact_forms f.laws v c.args.held.now.keys in
    let images = map (λ r. r.items) c.args.images.now in
    let n = exact-length f.laws v c.args.held.now.keys in
    let rows = length-map c.args.images.now (λ r. r.items) in
    let all = c.requires.all in
    let x : ℕ = c.index.result.now in
    let queue = c.loop-t.queue.items in
    let t = c.loop-t.invariant in
    let tl : c.loop-t.t < length queue = omega (arith, c.loop-t.queue.ok.0, c.len.ensures, c.if-t-len.false) in
    let e : x ≡ get_or queue c.loop-t.t 0 = c.index.ensures ∙ same-default queue c.loop-t.t x 0 tl in
    let own = subst (λ (z : ℕ). (z < length forms) × IsReached f.laws act forms z) (sym e) (t.queue c.loop-t.t tl) in
    let xl = own.0 in
    let law = g.met.G.Acts.lawful c.args.acts.now in
    let il : x < length images = omega arith in
    record {
      covered = covered-after f act law forms images c.requires.images c.loop-t.covered c.reach.new.covered x il own.1 t.covered
          (subst (λ (z : List ℕ). (y : ℕ) → get_or c.reach.new.covered y false ≡ true → (get_or c.loop-t.covered y false ≡ true) ⊎ IsOf z y) c.row_in-found.ensures c.in_err-reach.ensures.covered);
    }

pub loop-t-preserved : goal.loop-t-preserved
loop-t-preserved g c =
    let f = g.F.Field.field in
    let v = g.F.Field.value in
    let act = g.G.Acts.action c.args.acts.now in
    let forms = exact_forms f.laws v c.args.held.now.keys in
    let images = map (λ r. r.items) c.args.images.now in
    let n = exact-length f.laws v c.args.held.now.keys in
    let rows = length-map c.args.images.now (λ r. r.items) in
    let all = c.requires.all in
    let x : ℕ = c.index.result.now in
    let queue = c.loop-t.queue.items in
    let t = c.loop-t.invariant in
    let tl : c.loop-t.t < length queue = omega (arith, c.loop-t.queue.ok.0, c.len.ensures, c.if-t-len.false) in
    let e : x ≡ get_or queue c.loop-t.t 0 = c.index.ensures ∙ same-default queue c.loop-t.t x 0 tl in
    let own = subst (λ (z : ℕ). (z < length forms) × IsReached f.laws act forms z) (sym e) (t.queue c.loop-t.t tl) in
    let xl = own.0 in
    let law = g.met.G.Acts.lawful c.args.acts.now in
    let il : x < length images = omega arith in
    record {
      covered = covered-after f act law forms images c.requires.images c.loop-t.covered c.reach.new.covered x il own.1 t.covered
          (subst (λ (z : List ℕ). (y : ℕ) → get_or c.reach.new.covered y false ≡ true → (get_or c.loop-t.covered y false ≡ true) ⊎ IsOf z y) c.row_in-found.ensures c.in_ok-reach.ensures.covered);
      queue = queue-after f act law forms images c.requires.images queue c.reach.new.queue.items x il own.1 t.queue
          (subst (λ (z : List ℕ). (s : ℕ) → s < length c.reach.new.queue.items → IsOf queue (get_or c.reach.new.queue.items s 0) ⊎ IsOf z (get_or c.reach.new.queue.items s 0)) c.row_in-found.ensures c.in_ok-reach.ensures.queue);
    }
