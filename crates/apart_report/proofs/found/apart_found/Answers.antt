use Rattle.std.proofs.Common.{◌≡◌, ◌∙◌, ℕ, List, inr, refl, subst, length, arith}
use Rattle.report_steps.specs.EachLaws.{each-length}
use Rattle.report_steps.specs.FindingLaws.{found-wide}
use Rattle.report_steps.specs.Held.{IsInducedHeld}
use Rattle.report_steps.specs.IrrepSteps.{Each}
use Rattle.report_steps.specs.Steps.{OrWide}
use Rattle.mode_report.specs.Held.{RefusesNothing}
use Rattle.apart_report.specs.ApartFound.{RefusesNone, AreWidePairs, ArePairsTold, IsReported}
use Rattle.apart_report.specs.FoundPairs.{apart_of, ArePairsHeld}
use Rattle.apart_report.specs.Held.{number_pairs, held_weights, IsAnswer, IsWideSomePair, told_in}
use Rattle.apart_report.proofs.AnswerLemmas.{weights-are, pairs-told, pairs-wide, answers-count}
use Rattle.apart_report.proofs.TextLemmas.{below-found, pairs-are}
use Rattle.apart_report.proofs.found.apart_found.Goals as goal

pub all_answers-requires-clause-below : goal.all_answers-requires-clause-below
all_answers-requires-clause-below c =
    let f = c.args.file in
    let n : c.len.result ≡ length f.irreps.items = omega (arith, c.len.ensures, f.irreps.ok.0) in
    below-found (length f.irreps.items) c.len.result c.deref.result.now (c.deref.ensures.value ∙ c.in_ok-pairs.ensures) n

pub returns-in-Passed : goal.returns-in-Passed
returns-in-Passed c =
    let f = c.args.file in
    let d = f.divided in
    let ws = held_weights f in
    let answers = c.in-Passed.answers.items in
    let same = each-length (IsInducedHeld d.quotient) d.file.irreps f.irreps.items c.requires in
    let n : c.len.result ≡ length d.file.irreps = omega (arith, c.len.ensures, f.irreps.ok.0, same) in
    let P : List (ℕ × ℕ) → Type 0 = λ ps. Each (IsAnswer d.quotient ws) ps answers in
    let h = subst P (pairs-are c.len.result (length d.file.irreps) c.deref.result.now (c.deref.ensures.value ∙ c.in_ok-pairs.ensures) n) (rw c.in-Passed.is at c.in_ok-answers.ensures) in (
      inr (inr (told_in d.file.irreps (number_pairs (length d.file.irreps)) answers, pairs-told d ws answers (weights-are d.quotient d.file.irreps f.irreps.items c.requires) h, refl)),
      answers-count d.quotient ws (number_pairs (length d.file.irreps)) answers h,
    )

pub returns-in-Refused : goal.returns-in-Refused
returns-in-Refused c =
    let f = c.args.file in
    let d = f.divided in
    let ws = held_weights f in
    let r = c.in-Refused.refusal in
    let same = each-length (IsInducedHeld d.quotient) d.file.irreps f.irreps.items c.requires in
    let n : c.len.result ≡ length d.file.irreps = omega (arith, c.len.ensures, f.irreps.ok.0, same) in
    let P : List (ℕ × ℕ) → Type 0 = λ ps. OrWide RefusesNothing (IsWideSomePair d.quotient ws) ps r in
    let h = subst P (pairs-are c.len.result (length d.file.irreps) c.deref.result.now (c.deref.ensures.value ∙ c.in_ok-pairs.ensures) n) (rw c.in-Refused.is at c.in_ok-answers.ensures) in
    found-wide apart_of ArePairsHeld RefusesNone AreWidePairs ArePairsTold (IsReported d.file.format) d r (pairs-wide d ws r (weights-are d.quotient d.file.irreps f.irreps.items c.requires) h)
