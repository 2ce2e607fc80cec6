use Rattle.std.proofs.Common.{◌∙◌, subst, ℤ, pos, neg_ℤ, ◌+ℤ◌, w64, rules}
use Rattle.std.proofs.lemmas.Int.{to_z-of_z}
use Rattle.distort_match.specs.WindowParts.{IsFirstFrom}
use Rattle.distort_match.proofs.windows.windows_at.Goals as goal

pub returns-clause-low : goal.returns-clause-low
returns-clause-low c =
    let t = to_z-of_z w64 c.args.tolerance c.ranges.tolerance in
    let r = to_z-of_z w64 c.args.rest c.ranges.rest in
    let n = to_z-of_z w64 c.args.length c.ranges.length in
    subst (λ (v : ℤ). IsFirstFrom c.args.orbit.now.places v c.first_from.result)
    (to_z-of_z w64 c.low_end.result (search rules) ∙ c.low_end.ensures ∙ (λ i. ((r i +ℤ t i) +ℤ neg_ℤ (n i)) +ℤ pos 1)) c.first_from.ensures

pub returns-clause-start : goal.returns-clause-start
returns-clause-start c =
    let t = to_z-of_z w64 c.args.tolerance c.ranges.tolerance in
    let r = to_z-of_z w64 c.args.rest c.ranges.rest in
    subst (λ (v : ℤ). IsFirstFrom c.args.orbit.now.places v c.first_from-2.result)
    (to_z-of_z w64 c.middle_start.result (search rules) ∙ c.middle_start.ensures ∙ (λ i. r i +ℤ neg_ℤ (t i))) c.first_from-2.ensures

pub returns-clause-end : goal.returns-clause-end
returns-clause-end c =
    let t = to_z-of_z w64 c.args.tolerance c.ranges.tolerance in
    let r = to_z-of_z w64 c.args.rest c.ranges.rest in
    subst (λ (v : ℤ). IsFirstFrom c.args.orbit.now.places v c.first_from-3.result)
    (to_z-of_z w64 c.middle_end.result (search rules) ∙ c.middle_end.ensures ∙ (λ i. (r i +ℤ t i) +ℤ pos 1)) c.first_from-3.ensures

pub returns-clause-high : goal.returns-clause-high
returns-clause-high c =
    let t = to_z-of_z w64 c.args.tolerance c.ranges.tolerance in
    let r = to_z-of_z w64 c.args.rest c.ranges.rest in
    let n = to_z-of_z w64 c.args.length c.ranges.length in
    subst (λ (v : ℤ). IsFirstFrom c.args.orbit.now.places v c.first_from-4.result)
    (to_z-of_z w64 c.high_start.result (search rules) ∙ c.high_start.ensures ∙ (λ i. (r i +ℤ neg_ℤ (t i)) +ℤ n i)) c.first_from-4.ensures
