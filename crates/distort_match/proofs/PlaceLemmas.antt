-- What a place has found, among the marks.
use Rattle.std.proofs.Common.{◌≡◌, sym, ap, ◌∙◌, subst, ℕ, ◌<◌, inl, inr, ◌⊎◌, ℤ, List, [], length, Option, Some, get_or, set, Result, Ok, Err, OnOk, IfOk, IfErr, arith}
use Rattle.std.proofs.lemmas.Bool.{cases_order}
use Rattle.std.proofs.lemmas.List.{get_or-set_same, get_or-set_other, length-set}
use Rattle.space_ops.specs.Matrix.{Vector}
use Rattle.space_ops.specs.Op.{vector_of}
use Rattle.wyckoff.specs.Orbit.{OrbitView}
use Rattle.distort_match.specs.declared.errors.MatchError.{MatchError}
use Rattle.distort_match.specs.declared.errors.MatchError.TheVariants.{Unmatched, Ambiguous, MissingAtom, BadCell, OffGrid, NoMemory}
use Rattle.distort_match.specs.declared.found.Found.{Found}
use Rattle.distort_match.specs.declared.found.Found.TheVariants.{Nothing, One, Many}
use Rattle.distort_match.specs.FoundParts.{IsFound, IsAtomOf}
use Rattle.distort_match.specs.MarkParts.{set_mark, AreMarksFor, IsPlaced, IsPlaceCause, IsFoundInside, IsFoundTaken, IsFoundRefused}

abbrev Marks : Type 0
Marks = List (List (Option (List ℤ)))

-- writing a mark keeps the shape
pub marks_kept : (orbits : List OrbitView) (marks : Marks) (o i : ℕ) (v : List ℤ) → o < length marks → AreMarksFor orbits marks → AreMarksFor orbits (set_mark marks o i v)
marks_kept orbits marks o i v l h = record {
  count = length-set marks o (set (get_or marks o []) i (Some v)) ∙ h.count;
  atoms = λ p orbit e. elim (cases_order p o) [
    | inl q ↦ ap (λ k. length (get_or (set_mark marks o i v) k [])) q ∙ ap length (get_or-set_same marks o (set (get_or marks o []) i (Some v)) [] l) ∙ length-set (get_or marks o []) i (Some v)
        ∙ ap (λ k. length (get_or marks k [])) (sym q) ∙ h.atoms p orbit e
    | inr q ↦ ap length (get_or-set_other marks o p (set (get_or marks o []) i (Some v)) [] (unequal p o q)) ∙ h.atoms p orbit e
  ];
}
  where
    unequal : (i j : ℕ) → (i < j) ⊎ (j < i) → i ≡ j → ⊥
    unequal i j (inl l) e = omega (arith, l, e)
    unequal i j (inr l) e = omega (arith, l, e)

module _ (d : List ℕ) (tolerance : ℤ) (x : Vector ℤ) (label : List ℕ) (orbits : List OrbitView) where
  abbrev P : ℕ → ℕ → Vector ℤ → Type 0
  P = IsAtomOf d tolerance x label orbits (length orbits)

  pub found_inside : (marks : Marks) → AreMarksFor orbits marks → (f : Found) → IsFound P f → IsFoundInside f marks
  found_inside marks h Nothing k = tt
  found_inside marks h (One o i v) k =
      let l : o < length orbits = k.is.0 in
      let e : length marks ≡ length orbits = h.count in
      let b : i < length k.is.1.orbit.places = k.is.1.below in
      let g : length (get_or marks o []) ≡ length k.is.1.orbit.places = h.atoms o k.is.1.orbit k.is.1.is_orbit in
      (omega (arith, l, e), omega (arith, b, g))
  found_inside marks h Many k = tt

  pub taken_kept : (marks marks' : Marks) → AreMarksFor orbits marks → (f : Found) → IsFound P f → IsFoundTaken f marks marks' → AreMarksFor orbits marks'
  taken_kept marks marks' h (One o i v) k t = subst (AreMarksFor orbits) (sym t.1) (marks_kept orbits marks o i v (found_inside marks h (One o i v) k).0 h)
  taken_kept marks marks' h Nothing k t = absurd t
  taken_kept marks marks' h Many k t = absurd t

  pub taken_placed : (marks marks' : Marks) (f : Found) → IsFound P f → IsFoundTaken f marks marks' → IsPlaced P marks marks'
  taken_placed marks marks' (One o i v) k t = record { o = o; i = i; v = v; only = k; free = t.0; is = t.1 }
  taken_placed marks marks' Nothing k t = absurd t
  taken_placed marks marks' Many k t = absurd t

  pub refused_cause : (marks : Marks) (line : ℕ) (f : Found) (error : MatchError) → IsFound P f → IsFoundRefused f marks line error → IsPlaceCause P marks line error
  refused_cause marks line Nothing (Unmatched n) k r = (r, k)
  refused_cause marks line (One o i v) (Ambiguous n) k r = (r.0, inr (record { o = o; i = i; v = vector_of v; is = k.is; w = r.1.0; taken = r.1.1 }))
  refused_cause marks line Many (Ambiguous n) k r = (r, inl k)
  refused_cause marks line Nothing (Ambiguous n) k r = absurd r
  refused_cause marks line Nothing (MissingAtom n v) k r = absurd r
  refused_cause marks line Nothing (BadCell n) k r = absurd r
  refused_cause marks line Nothing (OffGrid n) k r = absurd r
  refused_cause marks line Nothing NoMemory k r = absurd r
  refused_cause marks line (One o i v) (Unmatched n) k r = absurd r
  refused_cause marks line (One o i v) (MissingAtom n w) k r = absurd r
  refused_cause marks line (One o i v) (BadCell n) k r = absurd r
  refused_cause marks line (One o i v) (OffGrid n) k r = absurd r
  refused_cause marks line (One o i v) NoMemory k r = absurd r
  refused_cause marks line Many (Unmatched n) k r = absurd r
  refused_cause marks line Many (MissingAtom n v) k r = absurd r
  refused_cause marks line Many (BadCell n) k r = absurd r
  refused_cause marks line Many (OffGrid n) k r = absurd r
  refused_cause marks line Many NoMemory k r = absurd r

-- what holds on success, and of an error
pub ok_map : {T E : Type 0} (r : Result T E) (A B : Type 0) → (A → B) → OnOk r A → OnOk r B
ok_map (Ok x) A B f h = f h
ok_map (Err e) A B f h = h

pub err_map : {T E : Type 0} (r : Result T E) (A B : E → Type 0) → ((e : E) → A e → B e) → IfErr r A → IfErr r B
err_map (Ok x) A B f h = h
err_map (Err e) A B f h = f e h

pub value_map : {T E : Type 0} (r : Result T E) (A B : T → Type 0) → ((t : T) → A t → B t) → IfOk r A → IfOk r B
value_map (Ok x) A B f h = f x h
value_map (Err e) A B f h = h
