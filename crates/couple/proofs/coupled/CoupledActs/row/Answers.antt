use Rattle.std.proofs.Common.{◌≡◌, ◌<◌, ◌≤◌, ◌+◌, ◌-◌, ℕ, sym, ◌∙◌, ap, subst, arith, length, OnOk, Result}
use Rattle.std.specs.Prelude.{Ok, Err}
use Rattle.lin_alg.specs.Rows.{vector}
use Rattle.lin_alg.specs.Action.{entry_of}
use Rattle.couple.specs.Coupled.{coupled}
use Rattle.couple.specs.CoupledLaws.{entry-front, entry-right, entry-under, entry-back}
use Rattle.couple.proofs.RowLemmas.{length-taken, length-rest, front-written, back-written}
use Rattle.couple.proofs.coupled.CoupledActs.row.Goals as goal

ok-on : {A E : Type 0} (r : Result A E) (P Q : Type 0) → (P → Q) → OnOk r P → OnOk r Q
ok-on (Ok x) P Q t h = t h
ok-on (Err e) P Q t h = tt

pub returns-then-i-n-clause-exact : goal.returns-then-i-n-clause-exact
returns-then-i-n-clause-exact g c =
    let f = g.F.Field.field in
    let v = g.F.Field.value in
    let a = g.G.Acts.action c.args.self.now.left in
    let b = g.H.Acts.action c.args.self.now.right in
    let q = c.args.q in
    let i = c.args.i in
    let n : c.dim-n.result ≡ a.dim = c.dim-n.ensures in
    let li : i < a.dim = subst (λ (k : ℕ). i < k) n c.if-i-n.true in
    let z : length c.fill_zero.new.row ≡ c.dim-n.result + b.dim = c.fill_zero.auto.row ∙ c.requires.room ∙ ap (λ k. k + b.dim) (sym n) in
    let e : length c.row.new.into ≡ c.dim-n.result = c.row.auto.into ∙ length-taken c.dim-n.result c.fill_zero.new.row (omega (arith, z)) in
    ok-on c.row.result
    ((j : ℕ) → j < a.dim → vector f.laws v c.row.new.into j ≡ entry_of f.laws a q i j)
    ((j : ℕ) → j < a.dim + b.dim → _)
    (λ h j l. front-written f v c.dim-n.result c.row.new.into c.fill_zero.new.row (entry_of f.laws (coupled f.laws a b) q i) e c.fill_zero.ensures
    (λ j m. let lj : j < a.dim = subst (λ (k : ℕ). j < k) n m in h j lj ∙ sym (entry-front f a b q i j li lj))
    (λ j m. entry-right f a b q i j li (subst (λ (k : ℕ). k ≤ j) n m)) j)
    c.row.ensures.exact

pub returns-else-i-n-clause-exact : goal.returns-else-i-n-clause-exact
returns-else-i-n-clause-exact g c =
    let f = g.F.Field.field in
    let v = g.F.Field.value in
    let a = g.G.Acts.action c.args.self.now.left in
    let b = g.H.Acts.action c.args.self.now.right in
    let q = c.args.q in
    let i = c.args.i in
    let n : c.dim-n.result ≡ a.dim = c.dim-n.ensures in
    let li : a.dim ≤ i = subst (λ (k : ℕ). k ≤ i) n c.if-i-n.false in
    let z : length c.fill_zero.new.row ≡ c.dim-n.result + b.dim = c.fill_zero.auto.row ∙ c.requires.room ∙ ap (λ k. k + b.dim) (sym n) in
    let e : length c.row-else-i-n.new.into ≡ b.dim = c.row-else-i-n.auto.into ∙ length-rest c.dim-n.result b.dim c.fill_zero.new.row z in
    ok-on c.row-else-i-n.result
    ((j : ℕ) → j < b.dim → vector f.laws v c.row-else-i-n.new.into j ≡ entry_of f.laws b q (i - c.dim-n.result) j)
    ((j : ℕ) → j < a.dim + b.dim → _)
    (λ h j l. back-written f v c.dim-n.result b.dim c.fill_zero.new.row c.row-else-i-n.new.into _ (entry_of f.laws (coupled f.laws a b) q i) z e c.fill_zero.ensures
    (λ j m. h j m ∙ ap (λ k. entry_of f.laws b q (i - k) j) n ∙ sym (entry-back f a b q i j li) ∙ ap (λ k. entry_of f.laws (coupled f.laws a b) q i (k + j)) (sym n))
    (λ j m. entry-under f a b q i j li (subst (λ (k : ℕ). j < k) n m)) j (subst (λ (k : ℕ). j < k + b.dim) (sym n) l))
    c.row-else-i-n.ensures.exact
