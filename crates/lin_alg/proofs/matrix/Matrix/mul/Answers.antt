use Rattle.std.proofs.Common.{◌≡◌, ◌*◌, ℕ, ap, sym, ◌∙◌, subst, length}
use Rattle.std.proofs.lemmas.List.{with_items_is}
use Rattle.std.specs.Vec.{with_items}
use Rattle.lin_alg.specs.Matrix.{MatrixView, entry}
use Rattle.lin_alg.specs.Matrices.{mul}
use Rattle.lin_alg.proofs.MatrixLemmas.{entry-filled, mul-under, mul-right}
use Rattle.lin_alg.proofs.matrix.Matrix.mul.Goals as goal

pub returns-clause-product : goal.returns-clause-product
returns-clause-product g c i j =
    let f = g.F.Field.field in
    let v = g.F.Field.value in
    let a = c.args.self.now in
    let b = c.args.other.now in
    let ws = c.fill_product.new.entries in
    let er : c.self.inside.rows ≡ a.rows = ap (λ z. z.rows) c.self.view_is in
    let ec : c.other.inside.cols ≡ b.cols = ap (λ z. z.cols) c.other.view_is in
    let same : length ws ≡ length c.in_ok-entries.entries.items = c.fill_product.auto.entries ∙ ap length c.deref_mut.ensures.value in
    let whole : (with_items c.in_ok-entries.entries ws).items ≡ ws = with_items_is c.in_ok-entries.entries ws (same ∙ sym c.in_ok-entries.entries.ok.0) in
    let size : length ws ≡ a.rows * b.cols = same ∙ c.in_ok-entries.ensures.len ∙ (λ z. er z * ec z) in
    let held : length a.entries ≡ a.rows * a.cols = subst (λ (z : MatrixView _). length z.entries ≡ z.rows * z.cols) c.self.view_is c.self.invariant.0 in
    let t : ℕ → ℕ → _ = mul f.laws a.cols (entry f.laws v a) (entry f.laws v b) in
    let first : entry f.laws v (record { rows = c.self.inside.rows; cols = c.other.inside.cols; entries = (with_items c.in_ok-entries.entries ws).items }) i j ≡ entry f.laws v (record { rows = a.rows; cols = b.cols; entries = ws }) i j =
    (λ z. entry f.laws v (record { rows = er z; cols = ec z; entries = whole z }) i j) in
    first ∙ entry-filled f v a.rows b.cols ws t size c.in_ok-fill_product.ensures.exact (λ k l h. mul-under f v a.cols a b held k l h) (λ k l h. mul-right f v a.cols a b k l h) i j
