use Rattle.std.proofs.Common.{◌≡◌, ◌<◌, ◌≤◌, ◌+◌, ◌*◌, ℕ, sym, ◌∙◌, ap, subst, arith, length, true, IfOk}
use Rattle.cyclo24.specs.K24.{exact24}
use Rattle.cyclo24.specs.Z24.{exact_z24}
use Rattle.cyclo24.specs.ExactK24.{k24, k24_laws}
use Rattle.cyclo24.specs.ExactZ24.{z24_laws}
use Rattle.lin_alg.specs.Rows.{vector}
use Rattle.lin_alg.specs.Spans.{IsInSpan}
use Rattle.lin_alg.specs.Solving.{plain_rows}
use Rattle.lin_alg.specs.Matrices.{IsRepresentation}
use Rattle.super_group.specs.Quotient.{order_of, quotient_group}
use Rattle.induce.specs.Tables.{dimension_in, matrix_in}
use Rattle.real_form.specs.Parts.{orbit}
use Rattle.real_form.specs.Complexes.{z24_parts}
use Rattle.real_form.specs.Spanned.{HoldsSpan}
use Rattle.real_form.proofs.SpannedLemmas.{held-passed, held-skip}
use Rattle.real_form.proofs.Factors.{block-end, some_translation}
use Rattle.real_form.proofs.CombinedLemmas.{again-block}
use Rattle.real_form.proofs.BlockLemmas.{block-skipped, next_block}
use Rattle.real_form.proofs.span.insert_block.Goals as goal

pub returns-then-len-dim-clause-passed : goal.returns-then-len-dim-clause-passed
returns-then-len-dim-clause-passed c _ =
    let s = c.args.quotient.now in
    let n = (dimension_in c.args.induced.now.tables) in
    let a = orbit z24_parts n (matrix_in s c.args.induced.now.tables) (vector z24_laws exact_z24 c.args.w.now) in
    let more = c.if-len-dim.true in
    let en = c.dim.ensures.value in
    let el = c.len.ensures in
    let b : c.args.r * length s.translations + length s.translations ≤ order_of s = block-end s c.order-order.ensures.quotient c.args.r c.requires.rotation in
    let l : c.args.r * length s.translations ≤ order_of s = omega (arith, b) in
    let m : n < length c.args.form.now.rows = omega (arith, more, en, el) in
    held-passed k24 exact24 (n + n) a (c.args.r * length s.translations) (order_of s) n c.args.form.now c.requires.held l m

pub overflow_mul-first : goal.overflow_mul-first
overflow_mul-first c =
    let s = c.args.quotient.now in
    let b : c.args.r * length s.translations + length s.translations ≤ order_of s = block-end s c.order-order.ensures.quotient c.args.r c.requires.rotation in
    let e = ap (λ k. c.args.r * length k) c.translations-count.ensures in
    let v = c.order-order.ensures.value in
    let f = c.order-order.type_inv in
    omega (arith, b, e, v, f)

pub overflow_add-first : goal.overflow_add-first
overflow_add-first c =
    let s = c.args.quotient.now in
    let b : c.args.r * length s.translations + length s.translations ≤ order_of s = block-end s c.order-order.ensures.quotient c.args.r c.requires.rotation in
    let e = ap (λ k. c.args.r * length k) c.translations-count.ensures in
    let d = ap length c.translations-count.ensures in
    let v = c.order-order.ensures.value in
    let f = c.order-order.type_inv in
    omega (arith, b, e, d, v, f)

pub insert_image-requires-clause-element : goal.insert_image-requires-clause-element
insert_image-requires-clause-element c =
    let s = c.args.quotient.now in
    let b : c.args.r * length s.translations + length s.translations ≤ order_of s = block-end s c.order-order.ensures.quotient c.args.r c.requires.rotation in
    let some : 0 < length s.translations = some_translation s c.order-order.ensures.quotient in
    let e = ap (λ k. c.args.r * length k) c.translations-count.ensures in
    omega (arith, b, e, some)

pub insert_image-requires-clause-held : goal.insert_image-requires-clause-held
insert_image-requires-clause-held c =
    let s = c.args.quotient.now in
    let n = (dimension_in c.args.induced.now.tables) in
    let a = orbit z24_parts n (matrix_in s c.args.induced.now.tables) (vector z24_laws exact_z24 c.args.w.now) in
    let e = ap (λ k. c.args.r * length k) c.translations-count.ensures in
    subst (λ (k : ℕ). HoldsSpan k24_laws exact24 (n + n) a k c.args.form.now) (sym e) c.requires.held

pub insert_rest-requires-clause-some : goal.insert_rest-requires-clause-some
insert_rest-requires-clause-some c =
    let s = c.args.quotient.now in
    let some : 0 < length s.translations = some_translation s c.order-order.ensures.quotient in
    let d = ap length c.translations-count.ensures in
    omega (arith, some, d)

pub insert_rest-requires-clause-end : goal.insert_rest-requires-clause-end
insert_rest-requires-clause-end c =
    let s = c.args.quotient.now in
    let b : c.args.r * length s.translations + length s.translations ≤ order_of s = block-end s c.order-order.ensures.quotient c.args.r c.requires.rotation in
    let e = ap (λ k. c.args.r * length k) c.translations-count.ensures in
    let d = ap length c.translations-count.ensures in
    omega (arith, b, e, d)

pub insert_rest-requires-clause-inside : goal.insert_rest-requires-clause-inside
insert_rest-requires-clause-inside c =
    let s = c.args.quotient.now in
    let T = length s.translations in
    let n = (dimension_in c.args.induced.now.tables) in
    let a = orbit z24_parts n (matrix_in s c.args.induced.now.tables) (vector z24_laws exact_z24 c.args.w.now) in
    let count = length c.translations-count.result.now in
    let e = ap length c.translations-count.ensures in
    let both = again-block k24_laws a (c.args.r * count) count (c.args.r * T) T (length c.args.combined.now) c.args.combined.now c.combined_from-from.result (ap (λ k. c.args.r * k) e) e c.combined_from-from.ensures.inside c.combined_from-from.ensures.again in
    both.0

pub insert_rest-requires-clause-again : goal.insert_rest-requires-clause-again
insert_rest-requires-clause-again c =
    let s = c.args.quotient.now in
    let T = length s.translations in
    let n = (dimension_in c.args.induced.now.tables) in
    let a = orbit z24_parts n (matrix_in s c.args.induced.now.tables) (vector z24_laws exact_z24 c.args.w.now) in
    let count = length c.translations-count.result.now in
    let e = ap length c.translations-count.ensures in
    let both = again-block k24_laws a (c.args.r * count) count (c.args.r * T) T (length c.args.combined.now) c.args.combined.now c.combined_from-from.result (ap (λ k. c.args.r * k) e) e c.combined_from-from.ensures.inside c.combined_from-from.ensures.again in
    both.1

pub returns-in-Ok-No-clause-held : goal.returns-in-Ok-No-clause-held
returns-in-Ok-No-clause-held c _ =
    let s = c.args.quotient.now in
    let n = (dimension_in c.args.induced.now.tables) in
    let D = matrix_in s c.args.induced.now.tables in
    let w = vector z24_laws exact_z24 c.args.w.now in
    let a = orbit z24_parts n D w in
    let T = length s.translations in
    let e : c.args.r * length c.translations-count.result.now ≡ c.args.r * T = ap (λ k. c.args.r * length k) c.translations-count.ensures in
    let held : HoldsSpan k24_laws exact24 (n + n) a (c.args.r * T + 1) c.insert_image.new.form = subst (λ (k : ℕ). HoldsSpan k24_laws exact24 (n + n) a (k + 1) c.insert_image.new.form) e c.in-Ok-No.ensures.held in
    let member = subst (λ (k : ℕ). IsInSpan k24_laws (plain_rows a k) (a k)) e (c.in-Ok-No.ensures.member c.in-Ok-No.field-0-is) in
    let x = next_block c.args.r T in
    let some : 0 < T = some_translation s c.order-order.ensures.quotient in
    let l : c.args.r * T + 1 ≤ (c.args.r + 1) * T = omega (arith, x, some) in
    let rep : IsRepresentation z24_laws (quotient_group s) n D = subst (λ (k : ℕ). IsRepresentation z24_laws (quotient_group s) k D) c.dim.ensures.value (c.dim.ensures.multiplies s c.requires.of) in
    held-skip k24 exact24 (n + n) a (c.args.r * T + 1) ((c.args.r + 1) * T) c.insert_image.new.form held l
    (block-skipped z24_parts n s c.order-order.ensures.quotient D rep w c.args.r c.requires.rotation member)

pub returns-in-Ok-Yes-clause-held : goal.returns-in-Ok-Yes-clause-held
returns-in-Ok-Yes-clause-held c =
    let s = c.args.quotient.now in
    let n = (dimension_in c.args.induced.now.tables) in
    let a = orbit z24_parts n (matrix_in s c.args.induced.now.tables) (vector z24_laws exact_z24 c.args.w.now) in
    let T = length s.translations in
    let e : c.args.r * length c.translations-count.result.now + length c.translations-count.result.now ≡ (c.args.r + 1) * T =
    ap (λ ts. c.args.r * length ts + length ts) c.translations-count.ensures ∙ sym (next_block c.args.r T) in
    subst (λ (k : ℕ). IfOk c.insert_rest.result (λ few. few ≡ true → HoldsSpan k24_laws exact24 (n + n) a k c.insert_rest.new.form)) e c.insert_rest.ensures.held
