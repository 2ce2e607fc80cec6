use Rattle.std.proofs.Common.{◌≡◌, ◌<◌, ◌≤◌, ◌+◌, ◌*◌, ◌⊎◌, ℕ, [], inl, inr, refl, sym, ◌∙◌, ap, subst, arith, add-one, List, length, map, take}
use Rattle.std.proofs.lemmas.List.{take_all}
use Rattle.std.specs.Prelude.{slice_index_or}
use Rattle.cyclo24.specs.ExactField.{Value}
use Rattle.lin_alg.specs.Matrices.{IsClassFunction}
use Rattle.lin_alg.specs.Rows.{vector}
use Rattle.mode_project.specs.AtomSpace.{size_of}
use Rattle.mode_project.specs.Joined.{joined_rows_in}
use Rattle.mode_project.specs.Modes.{marked, AreKept, AreIrrepModes}
use Rattle.mode_project.specs.Parts.{rows_in}
use Rattle.mode_project.specs.Projection.{projection, IsInRange, IsReducedFormOf}
use Rattle.mode_project.specs.Wide.{IsWideRange}
use Rattle.mode_project.specs.WideParts.{IsWideRows}
use Rattle.mode_project.proofs.JointLemmas.{joined-start, modes-next, rows-wide, list-at, lists-length, lists-take, lists-front}
use Rattle.mode_project.proofs.VectorsLemmas.{item-is, rows-length}
use Rattle.mode_project.proofs.irreps.irrep_modes.Goals as goal

pub with_irrep-requires-clause-weights : goal.with_irrep-requires-clause-weights
with_irrep-requires-clause-weights g c =
    let e = item-is c.args.lists.now c.loop-j.j c.index-lists-j.result c.loop-j-test.true c.index-lists-j.is in
    ap length c.deref.ensures.value ∙ ap length (sym e) ∙ c.requires.weights c.loop-j.j c.loop-j-test.true

pub with_irrep-requires-clause-class : goal.with_irrep-requires-clause-class
with_irrep-requires-clause-class g c =
    let e = item-is c.args.lists.now c.loop-j.j c.index-lists-j.result c.loop-j-test.true c.index-lists-j.is in
    subst (λ xs. IsClassFunction g.S.OfSpace.space.group (vector g.F.Field.field.laws g.F.Field.value xs)) (e ∙ sym c.deref.ensures.value) (c.requires.class c.loop-j.j c.loop-j-test.true)

pub loop-j-init : goal.loop-j-init
loop-j-init g c =
    let f = g.F.Field.field.laws in
    let value = g.F.Field.value in
    record {
      joined = joined-start f value c.new.result c.new-2.result.items c.new.ensures.whole c.new.ensures.form c.new.ensures.rows c.new-2.ensures.items;
      width = c.new.ensures.width ∙ (λ z. (c.atoms.ensures.value ∙ c.requires.orbit.atoms) z * c.requires.table.each z);
      modes = ([], refl, ap (joined_rows_in f value) c.new-2.ensures.items);
    }

pub loop-j-preserved : goal.loop-j-preserved
loop-j-preserved g c =
    let f = g.F.Field.field in
    let s = g.S.OfSpace.space in
    let value = g.F.Field.value in
    let lists = rows_in c.args.lists.now in
    let j = c.loop-j.j in
    let all = map (vector f.laws value) lists in
    let l : j < length lists = subst (λ (n : ℕ). j < n) (sym (rows-length c.args.lists.now)) c.loop-j-test.true in
    let e = item-is c.args.lists.now j c.index-lists-j.result c.loop-j-test.true c.index-lists-j.is in
    let w = vector f.laws value (slice_index_or lists j []) in
    let more = joined_rows_in f.laws value c.in-Ok.more.rows.items in
    let ms = joined_rows_in f.laws value c.loop-j.joint.rows.items in
    let kept : (rs : List (ℕ × (ℕ → Value f))) × IsReducedFormOf f.laws (size_of s) (IsInRange f.laws (size_of s) (projection f.laws s w)) rs × AreKept f.laws ms (marked j rs) more =
    subst (λ xs. (rs : List (ℕ × (ℕ → Value f))) × IsReducedFormOf f.laws (size_of s) (IsInRange f.laws (size_of s) (projection f.laws s (vector f.laws value xs))) rs × AreKept f.laws ms (marked j rs) more) (c.deref.ensures.value ∙ sym e) c.in-Ok.ensures.kept in
    record {
      joined = c.in-Ok.ensures.joined;
      width = c.in-Ok.ensures.width;
      modes = modes-next f s j (take j all) (take (j + 1) all) w ms more (lists-front f value lists j l) (ap (λ n. take n all) (add-one j) ∙ lists-take f value lists j l) c.loop-j.invariant.modes kept;
    }

pub returns-in-Err-clause-wide : goal.returns-in-Err-clause-wide
returns-in-Err-clause-wide g c h =
    let f = g.F.Field.field in
    let s = g.S.OfSpace.space in
    let value = g.F.Field.value in
    let lists = rows_in c.args.lists.now in
    let j = c.loop-j.j in
    let all = map (vector f.laws value) lists in
    let l : j < length lists = subst (λ (n : ℕ). j < n) (sym (rows-length c.args.lists.now)) c.loop-j-test.true in
    let la : j < length all = subst (λ (n : ℕ). j < n) (sym (lists-length f value lists)) l in
    let e = item-is c.args.lists.now j c.index-lists-j.result c.loop-j-test.true c.index-lists-j.is in
    let w = vector f.laws value (slice_index_or lists j []) in
    let ms = joined_rows_in f.laws value c.loop-j.joint.rows.items in
    let bad : IsWideRange f s w ⊎ ((rs : List (ℕ × (ℕ → Value f))) × IsReducedFormOf f.laws (size_of s) (IsInRange f.laws (size_of s) (projection f.laws s w)) rs × IsWideRows f ms (marked j rs)) =
    subst (λ xs. IsWideRange f s (vector f.laws value xs) ⊎ ((rs : List (ℕ × (ℕ → Value f))) × IsReducedFormOf f.laws (size_of s) (IsInRange f.laws (size_of s) (projection f.laws s (vector f.laws value xs))) rs × IsWideRows f ms (marked j rs)))
    (c.deref.ensures.value ∙ sym e) (c.in-Err.ensures.wide h) in
    elim bad [
      | inl k ↦ inl (j, la, subst (λ (v : ℕ → Value f). IsWideRange f s v) (sym (list-at f value lists j l)) k)
      | inr k ↦ rows-wide f s j (take j all) all w ms (lists-front f value lists j l) la (lists-take f value lists j l) c.loop-j.invariant.modes k
    ]

pub returns-clause-modes : goal.returns-clause-modes
returns-clause-modes g c =
    let f = g.F.Field.field in
    let s = g.S.OfSpace.space in
    let value = g.F.Field.value in
    let lists = rows_in c.args.lists.now in
    let all = map (vector f.laws value) lists in
    let m : length all ≡ length c.args.lists.now = lists-length f value lists ∙ rows-length c.args.lists.now in
    let ends : length all ≤ c.loop-j.j = omega (arith, m, c.loop-j-test.false) in
    subst (λ ws. AreIrrepModes f.laws s ws (joined_rows_in f.laws value c.loop-j.joint.rows.items)) (take_all c.loop-j.j all ends) c.loop-j.invariant.modes
