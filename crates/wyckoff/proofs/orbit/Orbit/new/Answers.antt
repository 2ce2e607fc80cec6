use Rattle.std.proofs.Common.{◌≡◌, refl, sym, ap, ◌∙◌, subst, ℕ, ◌<◌, ◌≤◌, ◌*◌, ℤ, List, length}
use Rattle.space_ops.specs.Group.{Parent}
use Rattle.space_ops.specs.Op.{vector_of, shift_of}
use Rattle.super_group.specs.Quotient.{SupercellGroup}
use Rattle.wyckoff.specs.Places.{place_at}
use Rattle.wyckoff.specs.OrbitParts.{turned_at, shifted_at, IsFilled, IsNumberOf, AreNear, AreClosedPlaces}
use Rattle.wyckoff.specs.OrbitTables.{IsTable}
use Rattle.wyckoff.proofs.OrbitLemmas.{table-filled, some-translation, orbit-made}
use Rattle.wyckoff.proofs.PlacesLemmas.{places-near, near-more, places-closed_under}
use Rattle.wyckoff.proofs.orbit.Orbit.new.Goals as goal

abbrev AreTurns : SupercellGroup → List (List ℤ) → List ℕ → Type 0
AreTurns s places = IsFilled (length s.parent.ops) (length places) (λ r i. IsNumberOf places (shift_of (turned_at s r (place_at places i)))) 0

abbrev AreShifts : SupercellGroup → List (List ℤ) → List ℕ → Type 0
AreShifts s places = IsFilled (length s.translations) (length places) (λ t i. IsNumberOf places (shift_of (shifted_at s t (place_at places i)))) 0

pub turns_of-requires-clause-near : goal.turns_of-requires-clause-near
turns_of-requires-clause-near c =
    subst AreNear (sym c.deref.ensures.value)
    (near-more c.args.quotient.now c.requires.quotient c.args.places.items (places-near c.args.quotient.now c.requires.quotient (vector_of c.args.atom.now.place) c.args.places.items c.requires.places))

pub turns_of-requires-clause-closed : goal.turns_of-requires-clause-closed
turns_of-requires-clause-closed c =
    subst (AreClosedPlaces c.args.quotient.now) (sym c.deref.ensures.value)
    (places-closed_under c.args.quotient.now c.requires.quotient (vector_of c.args.atom.now.place) c.args.places.items c.requires.places)

pub shifts_of-requires-clause-near : goal.shifts_of-requires-clause-near
shifts_of-requires-clause-near c =
    subst AreNear (sym c.deref-2.ensures.value)
    (near-more c.args.quotient.now c.requires.quotient c.args.places.items (places-near c.args.quotient.now c.requires.quotient (vector_of c.args.atom.now.place) c.args.places.items c.requires.places))

pub shifts_of-requires-clause-closed : goal.shifts_of-requires-clause-closed
shifts_of-requires-clause-closed c =
    subst (AreClosedPlaces c.args.quotient.now) (sym c.deref-2.ensures.value)
    (places-closed_under c.args.quotient.now c.requires.quotient (vector_of c.args.atom.now.place) c.args.places.items c.requires.places)

pub invariant_of-result : goal.invariant_of-result
invariant_of-result c =
    let s = c.args.quotient.now in
    let v = c.args.places.items in
    let rotations : c.len.result ≡ length s.parent.ops = c.len.ensures.value ∙ ap (λ (p : Parent). length p.ops) c.group.ensures in
    let translations : length c.translations.result.now ≡ length s.translations = ap (λ (ts : List (List ℤ)). length ts) c.translations.ensures in
    record {
      few = c.requires.few;
      some = subst (λ n. 0 < n) (sym translations) (some-translation s c.requires.quotient);
      fits = subst (λ n. n ≤ 6144) (c.order.ensures.value ∙ (λ i. sym rotations i * sym translations i)) c.order.ensures.few;
      near = places-near s c.requires.quotient (vector_of c.args.atom.now.place) v c.requires.places;
      turns = subst (λ n. IsTable n (length v) c.in_ok-turns.turns.items) (sym rotations)
          (table-filled (length s.parent.ops) v (λ r i. shift_of (turned_at s r (place_at v i))) c.in_ok-turns.turns.items
          (subst (λ (u : List (List ℤ)). AreTurns s u c.in_ok-turns.turns.items) c.deref.ensures.value c.in_ok-turns.ensures));
      shifts = subst (λ n. IsTable n (length v) c.in_ok-shifts.shifts.items) (sym translations)
          (table-filled (length s.translations) v (λ t i. shift_of (shifted_at s t (place_at v i))) c.in_ok-shifts.shifts.items
          (subst (λ (u : List (List ℤ)). AreShifts s u c.in_ok-shifts.shifts.items) c.deref-2.ensures.value c.in_ok-shifts.ensures));
    }

pub returns : goal.returns
returns c =
    let s = c.args.quotient.now in
    let v = c.args.places.items in
    let rotations : c.len.result ≡ length s.parent.ops = c.len.ensures.value ∙ ap (λ (p : Parent). length p.ops) c.group.ensures in
    let translations : length c.translations.result.now ≡ length s.translations = ap (λ (ts : List (List ℤ)). length ts) c.translations.ensures in
    orbit-made s c.requires.quotient v c.in_ok-turns.turns.items c.in_ok-shifts.shifts.items
    (subst (λ (u : List (List ℤ)). AreTurns s u c.in_ok-turns.turns.items) c.deref.ensures.value c.in_ok-turns.ensures)
    (subst (λ (u : List (List ℤ)). AreShifts s u c.in_ok-shifts.shifts.items) c.deref-2.ensures.value c.in_ok-shifts.ensures)
    c.args.atom.now c.requires.places _ refl refl refl (λ i. rotations i * translations i) translations refl refl
