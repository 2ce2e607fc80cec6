use Rattle.std.proofs.Common.{◌≡◌, ◌<◌, ◌+◌, ◌*◌, ℕ, ap, sym, subst, set}
use Rattle.lin_alg.specs.Matrix.{MatrixView, entry, with_entry}
use Rattle.lin_alg.proofs.MatrixLemmas.{entry-set}
use Rattle.lin_alg.proofs.matrix.Matrix.set.Goals as goal

pub returns-clause-entries : goal.returns-clause-entries
returns-clause-entries g c k l =
    let f = g.F.Field.field in
    let v = g.F.Field.value in
    let m : MatrixView _ = record { rows = c.self.inside.rows; cols = c.self.inside.cols; entries = c.self.inside.entries.items } in
    let row : c.args.i < c.self.inside.rows = subst (λ (n : ℕ). c.args.i < n) (sym (ap (λ z. z.rows) c.self.view_is)) c.requires.row in
    let column : c.args.j < c.self.inside.cols = subst (λ (n : ℕ). c.args.j < n) (sym (ap (λ z. z.cols) c.self.view_is)) c.requires.column in
    subst (λ (z : MatrixView _). entry f.laws v (record { rows = m.rows; cols = m.cols; entries = set m.entries (c.args.i * m.cols + c.args.j) c.args.value }) k l ≡ with_entry c.args.i c.args.j (v c.args.value) (entry f.laws v z) k l)
    c.self.view_is (entry-set f v m c.args.i c.args.j c.args.value row column c.self.invariant.0 k l)
