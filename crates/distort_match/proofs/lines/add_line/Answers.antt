use Rattle.std.proofs.Common.{◌≡◌, refl, sym, subst, ℕ, ◌<◌, ℤ, pos, List, Some, length, get_or, slice_get, w64, rules, arith}
use Rattle.std.proofs.lemmas.Option.{slice_get_read}
use Rattle.std.specs.List.{All}
use Rattle.std.specs.Prelude.{MatchOption, ⊤}
use Rattle.algebra.specs.PassedLaws.{passed, passed-to}
use Rattle.iso_text.specs.Ranges.{IsSite}
use Rattle.iso_text.specs.declared.sections.AtomText.{AtomText}
use Rattle.space_ops.specs.Op.{IsShiftWithin}
use Rattle.space_ops.specs.WithinLaws.{shift_more}
use Rattle.distort_match.specs.FrameParts.{IsMatchingIn}
use Rattle.distort_match.specs.MarkParts.{AreMarked}
use Rattle.distort_match.proofs.NumberLemmas.{line_off, numbers_taken, number_taken, number_refused}
use Rattle.distort_match.proofs.lines.add_line.Goals as goal

near_line : (listed : List AtomText) (n : ℕ) (line : AtomText) → line ≡ get_or listed n line → n < length listed → All (λ (a : AtomText). IsSite a.label a.place) listed → IsShiftWithin 1200000000 line.place
near_line listed n line e l all =
    let h : IsSite line.label line.place = subst (λ (a : AtomText). IsSite a.label a.place) (sym e) (all n line l) in
    let below : (i : ℕ) → i < 3 → i < length line.place = λ i m. subst (λ k. i < k) (sym h.place_is.count) m in
    shift_more 1199999988 1200000000 line.place (omega arith)
    (h.place_is.each 0 (pos 0) (below 0 (omega arith)), h.place_is.each 1 (pos 0) (below 1 (omega arith)), h.place_is.each 2 (pos 0) (below 2 (omega arith)))

pub carried-requires-clause-place : goal.carried-requires-clause-place
carried-requires-clause-place c = near_line c.args.listed.now c.args.n c.index-listed-n.result c.index-listed-n.is c.requires.line c.requires.listed

pub add_number-requires-clause-shift : goal.add_number-requires-clause-shift
add_number-requires-clause-shift c =
    let l : c.loop-t.t < length c.args.frame.now.shifts.items = search rules in
    subst (λ shift. MatchOption shift ⊤ (IsShiftWithin 144000000)) (sym c.index.ensures) (c.requires.frame.shifts c.loop-t.t c.index.result.now l)

pub loop-t-init : goal.loop-t-init
loop-t-init c = (c.requires.marks, λ m w a. a)

pub loop-t-preserved : goal.loop-t-preserved
loop-t-preserved c =
    let line = c.index-listed-n.result in
    let at : slice_get c.args.listed.now c.args.n ≡ Some line = slice_get_read c.args.listed.now (length c.args.listed.now) c.args.n line refl c.requires.line c.index-listed-n.is in
    let l : c.loop-t.t < length c.args.frame.now.shifts.items = search rules in
    let shift : slice_get c.args.frame.now.shifts.items c.loop-t.t ≡ Some c.index.result.now =
    slice_get_read c.args.frame.now.shifts.items (length c.args.frame.now.shifts.items) c.loop-t.t c.index.result.now refl l c.index.ensures in (
      c.in-Ok.ensures.marks,
      λ m w a. number_taken c.args.d c.args.orbits.now c.args.listed.now (passed w64 c.args.tolerance) c.args.frame.now m w c.args.n line at c.in-Some.x c.in-Some.ensures.value c.loop-t.t c.index.result.now shift c.loop-t.marks.items
          c.add_number.new.marks.items c.in-Ok.ensures.taken c.loop-t.invariant.0 (c.loop-t.invariant.1 m w a),
    )

pub returns-in-None-clause-cause : goal.returns-in-None-clause-cause
returns-in-None-clause-cause c m w a =
    let line = c.index-listed-n.result in
    let at : slice_get c.args.listed.now c.args.n ≡ Some line = slice_get_read c.args.listed.now (length c.args.listed.now) c.args.n line refl c.requires.line c.index-listed-n.is in
    line_off c.args.d c.args.orbits.now c.args.listed.now c.args.tolerance c.args.frame.now m w c.args.n line at c.args.marks.now.items c.in-None.ensures.value a

pub returns-in-Err-clause-cause : goal.returns-in-Err-clause-cause
returns-in-Err-clause-cause c m w a =
    let line = c.index-listed-n.result in
    let at : slice_get c.args.listed.now c.args.n ≡ Some line = slice_get_read c.args.listed.now (length c.args.listed.now) c.args.n line refl c.requires.line c.index-listed-n.is in
    let l : c.loop-t.t < length c.args.frame.now.shifts.items = search rules in
    let shift : slice_get c.args.frame.now.shifts.items c.loop-t.t ≡ Some c.index.result.now =
    slice_get_read c.args.frame.now.shifts.items (length c.args.frame.now.shifts.items) c.loop-t.t c.index.result.now refl l c.index.ensures in
    let w' = passed-to w64 (λ (t : ℤ). IsMatchingIn c.args.d c.args.orbits.now c.args.listed.now t c.args.frame.now m) c.args.tolerance c.ranges.tolerance w in
    number_refused c.args.d c.args.orbits.now c.args.listed.now (passed w64 c.args.tolerance) c.args.frame.now m w' c.args.n line at c.in-Some.x c.in-Some.ensures.value c.loop-t.t c.index.result.now shift c.loop-t.marks.items c.in-Err.error
    c.in-Err.ensures.cause (c.loop-t.invariant.1 m w' a)

pub returns-clause-marks : goal.returns-clause-marks
returns-clause-marks c = c.loop-t.invariant.0

pub returns-clause-marked : goal.returns-clause-marked
returns-clause-marked c m w a =
    let line = c.index-listed-n.result in
    let at : slice_get c.args.listed.now c.args.n ≡ Some line = slice_get_read c.args.listed.now (length c.args.listed.now) c.args.n line refl c.requires.line c.index-listed-n.is in
    let w' = passed-to w64 (λ (t : ℤ). IsMatchingIn c.args.d c.args.orbits.now c.args.listed.now t c.args.frame.now m) c.args.tolerance c.ranges.tolerance w in
    let e : c.loop-t.t ≡ length c.args.frame.now.shifts.items = search rules in
    numbers_taken c.args.d c.args.orbits.now c.args.listed.now (passed w64 c.args.tolerance) c.args.frame.now m w' c.args.n line at c.in-Some.x c.in-Some.ensures.value c.loop-t.marks.items
    (subst (λ (t : ℕ). AreMarked m c.args.n t c.loop-t.marks.items) e (c.loop-t.invariant.1 m w' a))
