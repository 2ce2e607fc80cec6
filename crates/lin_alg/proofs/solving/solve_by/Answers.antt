use Rattle.std.proofs.Common.{◌≡◌, ◌+◌, ◌<◌, ℕ, sym, ◌∙◌, ap, subst, inr, IfSome}
use Rattle.lin_alg.specs.Spans.{row_vectors, less, IsInSpan}
use Rattle.lin_alg.specs.Rows.{vector, exact_rows}
use Rattle.lin_alg.specs.Matrix.{entry}
use Rattle.lin_alg.specs.Insertion.{IsWideReduce}
use Rattle.cyclo24.specs.TotalLaws.{total-same}
use Rattle.lin_alg.specs.Solving.{combination, joined}
use Rattle.lin_alg.specs.SolvingLaws.{solution, solution-only, no-solution}
use Rattle.lin_alg.proofs.solving.solve_by.Goals as goal

pub returns-in-Err-clause-wide : goal.returns-in-Err-clause-wide
returns-in-Err-clause-wide g c e =
    let f = g.F.Field.field in
    let v = g.F.Field.value in
    let m = c.args.rows.now in
    let t = vector f.laws v c.args.target.now in
    let rs = exact_rows f.laws v c.args.form.now.rows in
    let place : vector f.laws v c.place_target.new.row ≡ joined m.rows (λ _. f.laws.nought) t = c.place_target.ensures ∙ ap (λ k. joined k (λ _. f.laws.nought) t) c.rows-n.ensures.value in
    inr (rs, (c.requires.form.form c.requires.whole).reduced, c.requires.span, subst (λ (x : ℕ → _). IsWideReduce f rs x) place c.in-Err.ensures.wide)

pub returns-in-Some-clause-solution : goal.returns-in-Some-clause-solution
returns-in-Some-clause-solution g c j =
    let f = g.F.Field.field in
    let v = g.F.Field.value in
    let m = c.args.rows.now in
    let en : c.rows-n.result ≡ m.rows = c.rows-n.ensures.value in
    let t = vector f.laws v c.args.target.now in
    let r = vector f.laws v c.reduce.new.row in
    let rs = exact_rows f.laws v c.args.form.now.rows in
    let place : vector f.laws v c.place_target.new.row ≡ joined m.rows (λ _. f.laws.nought) t = c.place_target.ensures ∙ ap (λ k. joined k (λ _. f.laws.nought) t) en in
    let differs : IsInSpan f.laws (row_vectors rs) (less f.laws (joined m.rows (λ _. f.laws.nought) t) f.laws.unit r) = subst (λ (x : ℕ → _). IsInSpan f.laws (row_vectors rs) (less f.laws x f.laws.unit r)) place c.in-Ok.ensures.differs in
    let front : (i : ℕ) → i < c.rows-n.result → vector f.laws v c.in-Some.x i ≡ f.laws.neg (r i) =
    subst (λ o. IfSome o (λ x. (i : ℕ) → i < c.rows-n.result → vector f.laws v x i ≡ f.laws.neg (r i))) c.in-Some.is c.in_ok-x.ensures.front in
    let zero : (i : ℕ) → r (c.rows-n.result + i) ≡ f.laws.nought = subst (λ o. IfSome o (λ _. (i : ℕ) → r (c.rows-n.result + i) ≡ f.laws.nought)) c.in-Some.is c.in_ok-x.ensures.zero in
    total-same f.laws m.rows _ _ (λ i l. ap (λ z. f.laws.times z (entry f.laws v m i j)) (front i (subst (λ (k : ℕ). i < k) (sym en) l)))
    ∙ solution f.laws m.rows (entry f.laws v m) rs c.requires.span t r differs (λ i. ap (λ k. r (k + i)) (sym en) ∙ zero i) j

pub returns-in-Some-clause-only : goal.returns-in-Some-clause-only
returns-in-Some-clause-only g c y h i l =
    let f = g.F.Field.field in
    let v = g.F.Field.value in
    let m = c.args.rows.now in
    let en : c.rows-n.result ≡ m.rows = c.rows-n.ensures.value in
    let t = vector f.laws v c.args.target.now in
    let r = vector f.laws v c.reduce.new.row in
    let rs = exact_rows f.laws v c.args.form.now.rows in
    let place : vector f.laws v c.place_target.new.row ≡ joined m.rows (λ _. f.laws.nought) t = c.place_target.ensures ∙ ap (λ k. joined k (λ _. f.laws.nought) t) en in
    let differs : IsInSpan f.laws (row_vectors rs) (less f.laws (joined m.rows (λ _. f.laws.nought) t) f.laws.unit r) = subst (λ (x : ℕ → _). IsInSpan f.laws (row_vectors rs) (less f.laws x f.laws.unit r)) place c.in-Ok.ensures.differs in
    let front : (i : ℕ) → i < c.rows-n.result → vector f.laws v c.in-Some.x i ≡ f.laws.neg (r i) =
    subst (λ o. IfSome o (λ x. (i : ℕ) → i < c.rows-n.result → vector f.laws v x i ≡ f.laws.neg (r i))) c.in-Some.is c.in_ok-x.ensures.front in
    let zero : (i : ℕ) → r (c.rows-n.result + i) ≡ f.laws.nought = subst (λ o. IfSome o (λ _. (i : ℕ) → r (c.rows-n.result + i) ≡ f.laws.nought)) c.in-Some.is c.in_ok-x.ensures.zero in
    let own : (j : ℕ) → combination f.laws m.rows (vector f.laws v c.in-Some.x) (entry f.laws v m) j ≡ t j =
    λ j. total-same f.laws m.rows _ _ (λ k b. ap (λ z. f.laws.times z (entry f.laws v m k j)) (front k (subst (λ (n : ℕ). k < n) (sym en) b)))
    ∙ solution f.laws m.rows (entry f.laws v m) rs c.requires.span t r differs (λ k. ap (λ n. r (n + k)) (sym en) ∙ zero k) j in
    solution-only f.laws m.rows (entry f.laws v m) c.requires.independent t (vector f.laws v c.in-Some.x) y own h i l

pub returns-in-None-clause-none : goal.returns-in-None-clause-none
returns-in-None-clause-none g c _ y h =
    let f = g.F.Field.field in
    let v = g.F.Field.value in
    let m = c.args.rows.now in
    let en : c.rows-n.result ≡ m.rows = c.rows-n.ensures.value in
    let t = vector f.laws v c.args.target.now in
    let r = vector f.laws v c.reduce.new.row in
    let rs = exact_rows f.laws v c.args.form.now.rows in
    let place : vector f.laws v c.place_target.new.row ≡ joined m.rows (λ _. f.laws.nought) t = c.place_target.ensures ∙ ap (λ k. joined k (λ _. f.laws.nought) t) en in
    let differs : IsInSpan f.laws (row_vectors rs) (less f.laws (joined m.rows (λ _. f.laws.nought) t) f.laws.unit r) = subst (λ (x : ℕ → _). IsInSpan f.laws (row_vectors rs) (less f.laws x f.laws.unit r)) place c.in-Ok.ensures.differs in
    let zero : (i : ℕ) → r (m.rows + i) ≡ f.laws.nought =
    no-solution f.laws m.rows (entry f.laws v m) c.requires.independent rs (c.requires.form.form c.requires.whole).reduced c.requires.span t r differs c.in-Ok.ensures.clear y h in
    c.in_ok-x.ensures.none c.in-None.is (λ i. ap (λ k. r (k + i)) en ∙ zero i)
