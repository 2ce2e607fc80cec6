use Rattle.std.proofs.Common.{◌≡◌, ◌<◌, ◌≤◌, ◌+◌, ◌*◌, ◌/◌, ◌%◌, ℕ, sym, ◌∙◌, ap, subst, arith, length, OnOk}
use Rattle.std.proofs.lemmas.Nat.{div_below}
use Rattle.std.specs.Prelude.{Ok, Err}
use Rattle.std.specs.declared.result.Result.{Result}
use Rattle.cyclo24.specs.K24.{exact24}
use Rattle.cyclo24.specs.ExactK24.{k24, k24_laws}
use Rattle.cyclo24.specs.Sums.{total}
use Rattle.lin_alg.specs.Rows.{vector}
use Rattle.lin_alg.specs.Action.{entry_of}
use Rattle.lin_alg.specs.Matrix.{entry, IsWideDot}
use Rattle.real_form.specs.RealForm.{action_of}
use Rattle.real_form.proofs.Factors.{some_translation}
use Rattle.real_form.proofs.ImageLemmas.{err-map}
use Rattle.real_form.proofs.RowOfFormLemmas.{left-place, right-place, factored-row, never-wide}
use Rattle.real_form.proofs.form.RealFormActsK24.row.Goals as goal

ok-on : {A E : Type 0} (r : Result A E) (P Q : Type 0) → (P → Q) → OnOk r P → OnOk r Q
ok-on (Ok x) P Q t h = t h
ok-on (Err e) P Q t h = tt

pub overflow_mul-left : goal.overflow_mul-left
overflow_mul-left c =
    let x = c.args.self.now in
    let s = x.quotient in
    let d = length x.lines.items in
    let et : length c.translations-count.result.now ≡ length s.translations = ap length c.translations-count.ensures in
    let ed : c.len-d.result ≡ d = c.len-d.ensures ∙ c.args.self.now.lines.ok.0 in
    let some = some_translation s c.order-order.ensures.quotient in
    let l : (c.args.q % length s.translations) * d + c.args.i < length s.translations * d = left-place c.args.q (length s.parent.ops) (length s.translations) d c.args.i some c.requires.element c.requires.place in
    let e : (c.args.q % length c.translations-count.result.now) * c.len-d.result + c.args.i ≡ (c.args.q % length s.translations) * d + c.args.i = λ z. (c.args.q % et z) * ed z + c.args.i in
    let rows = x.stacked.left_rows in
    let fits = c.rows-translations.type_inv in
    let at = c.rows-translations.ensures.value in
    omega (arith, l, e, rows, fits, at)

pub overflow_add-left : goal.overflow_add-left
overflow_add-left c =
    let x = c.args.self.now in
    let s = x.quotient in
    let d = length x.lines.items in
    let et : length c.translations-count.result.now ≡ length s.translations = ap length c.translations-count.ensures in
    let ed : c.len-d.result ≡ d = c.len-d.ensures ∙ c.args.self.now.lines.ok.0 in
    let some = some_translation s c.order-order.ensures.quotient in
    let l : (c.args.q % length s.translations) * d + c.args.i < length s.translations * d = left-place c.args.q (length s.parent.ops) (length s.translations) d c.args.i some c.requires.element c.requires.place in
    let e : (c.args.q % length c.translations-count.result.now) * c.len-d.result + c.args.i ≡ (c.args.q % length s.translations) * d + c.args.i = λ z. (c.args.q % et z) * ed z + c.args.i in
    let rows = x.stacked.left_rows in
    let fits = c.rows-translations.type_inv in
    let at = c.rows-translations.ensures.value in
    omega (arith, l, e, rows, fits, at)

pub overflow_mul-first : goal.overflow_mul-first
overflow_mul-first c =
    let x = c.args.self.now in
    let s = x.quotient in
    let d = length x.lines.items in
    let et : length c.translations-count.result.now ≡ length s.translations = ap length c.translations-count.ensures in
    let ed : c.len-d.result ≡ d = c.len-d.ensures ∙ c.args.self.now.lines.ok.0 in
    let some = some_translation s c.order-order.ensures.quotient in
    let l : (c.args.q / length s.translations) * d + d ≤ length s.parent.ops * d = right-place c.args.q (length s.parent.ops) (length s.translations) d some c.requires.element in
    let e : (c.args.q / length c.translations-count.result.now) * c.len-d.result ≡ (c.args.q / length s.translations) * d = λ z. (c.args.q / et z) * ed z in
    let rows = x.stacked.right_rows in
    let fits = c.rows-rotations.type_inv in
    let at = c.rows-rotations.ensures.value in
    omega (arith, l, e, rows, fits, at)

pub product_row-requires-clause-place : goal.product_row-requires-clause-place
product_row-requires-clause-place c =
    let x = c.args.self.now in
    let s = x.quotient in
    let d = length x.lines.items in
    let et : length c.translations-count.result.now ≡ length s.translations = ap length c.translations-count.ensures in
    let ed : c.len-d.result ≡ d = c.len-d.ensures ∙ c.args.self.now.lines.ok.0 in
    let some = some_translation s c.order-order.ensures.quotient in
    let l : (c.args.q % length s.translations) * d + c.args.i < length s.translations * d = left-place c.args.q (length s.parent.ops) (length s.translations) d c.args.i some c.requires.element c.requires.place in
    let e : (c.args.q % length c.translations-count.result.now) * c.len-d.result + c.args.i ≡ (c.args.q % length s.translations) * d + c.args.i = λ z. (c.args.q % et z) * ed z + c.args.i in
    let rows = x.stacked.left_rows in
    omega (arith, l, e, rows)

pub product_row-requires-clause-rows : goal.product_row-requires-clause-rows
product_row-requires-clause-rows c =
    let x = c.args.self.now in
    let s = x.quotient in
    let d = length x.lines.items in
    let et : length c.translations-count.result.now ≡ length s.translations = ap length c.translations-count.ensures in
    let ed : c.len-d.result ≡ d = c.len-d.ensures ∙ c.args.self.now.lines.ok.0 in
    let some = some_translation s c.order-order.ensures.quotient in
    let l : (c.args.q / length s.translations) * d + d ≤ length s.parent.ops * d = right-place c.args.q (length s.parent.ops) (length s.translations) d some c.requires.element in
    let e : (c.args.q / length c.translations-count.result.now) * c.len-d.result ≡ (c.args.q / length s.translations) * d = λ z. (c.args.q / et z) * ed z in
    let rows = x.stacked.right_rows in
    let cols = x.stacked.left_cols in
    omega (arith, l, e, rows, cols)

pub returns-clause-exact : goal.returns-clause-exact
returns-clause-exact c =
    let x = c.args.self.now in
    let s = x.quotient in
    let d = length x.lines.items in
    let et : length c.translations-count.result.now ≡ length s.translations = ap length c.translations-count.ensures in
    let ed : c.len-d.result ≡ d = c.len-d.ensures ∙ c.args.self.now.lines.ok.0 in
    ok-on c.product_row.result
    ((j : ℕ) → j < x.rotations.cols → vector k24_laws exact24 c.product_row.new.into j ≡ total k24_laws x.translations.cols (λ k. k24_laws.times (entry k24_laws exact24 x.translations ((c.args.q % length c.translations-count.result.now) * c.len-d.result + c.args.i) k) (entry k24_laws exact24 x.rotations ((c.args.q / length c.translations-count.result.now) * c.len-d.result + k) j)))
    ((j : ℕ) → j < d → vector k24_laws exact24 c.product_row.new.into j ≡ entry_of k24_laws (action_of x) c.args.q c.args.i j)
    (λ h j l.
    factored-row k24 exact24 x.translations x.rotations d (length s.translations) c.args.q c.args.i j x.translations.cols (length c.translations-count.result.now) c.len-d.result x.stacked.left_cols et ed
    (vector k24_laws exact24 c.product_row.new.into j) (h j (subst (λ (k : ℕ). j < k) (sym x.stacked.right_cols) l)))
    c.product_row.ensures.exact

pub returns-clause-wide : goal.returns-clause-wide
returns-clause-wide c =
    let x = c.args.self.now in
    let s = x.quotient in
    let d = length x.lines.items in
    let et : length c.translations-count.result.now ≡ length s.translations = ap length c.translations-count.ensures in
    let ed : c.len-d.result ≡ d = c.len-d.ensures ∙ c.args.self.now.lines.ok.0 in
    let some = some_translation s c.order-order.ensures.quotient in
    let p = (c.args.q % length c.translations-count.result.now) * c.len-d.result + c.args.i in
    let first = (c.args.q / length c.translations-count.result.now) * c.len-d.result in
    let l : (c.args.q % length s.translations) * d + c.args.i < length s.translations * d = left-place c.args.q (length s.parent.ops) (length s.translations) d c.args.i some c.requires.element c.requires.place in
    let e : p ≡ (c.args.q % length s.translations) * d + c.args.i = λ z. (c.args.q % et z) * ed z + c.args.i in
    let rows = x.stacked.left_rows in
    let lp : p < x.translations.rows = omega (arith, l, e, rows) in
    let ef : first ≡ (c.args.q / length s.translations) * d = λ z. (c.args.q / et z) * ed z in
    err-map c.product_row.result
    ((j : ℕ) × (j < x.rotations.cols) × IsWideDot k24 x.translations.cols (entry k24_laws exact24 x.translations p) (λ k. entry k24_laws exact24 x.rotations (first + k) j)) ⊥
    (never-wide k24 exact24 x.translations x.rotations d (length s.parent.ops) x.narrow p first (c.args.q / length s.translations) x.translations.cols x.rotations.cols lp
    (div_below c.args.q (length s.translations) (length s.parent.ops) some c.requires.element) ef x.stacked.left_cols x.stacked.right_cols)
    c.product_row.ensures.wide
