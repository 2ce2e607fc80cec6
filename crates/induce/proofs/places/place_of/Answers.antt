use Rattle.std.proofs.Common.{◌≡◌, ◌<◌, ◌≤◌, ◌+◌, ◌*◌, ◌/◌, ◌%◌, ap, ◌∙◌, sym, subst, ℕ, List, length, get_or, rules, arith}
use Rattle.std.specs.Prelude.{slice_index_or}
use Rattle.std.proofs.lemmas.List.{get_or_default}
use Rattle.induce.specs.Tables.{no_move, IsPlaceOf}
use Rattle.induce.proofs.PlaceLemmas.{found_below, phase_place_below, found_power_below, found_phase_below, found_little_below, small_place, place_is}
use Rattle.induce.proofs.places.place_of.Goals as goal

pub index-found-requires : goal.index-found-requires
index-found-requires c =
    let l : c.args.q / length c.translations-count.result.now * c.arms.result + c.args.i < length c.args.tables.now.moves.items = found_below c.args.quotient.now c.args.tables.now c.requires.tables c.args.q c.args.i c.requires.element c.requires.column c.arms.result (length c.translations-count.result.now) c.arms.ensures.value (ap length c.translations-count.ensures) in
    search rules

pub overflow_mul-found : goal.overflow_mul-found
overflow_mul-found c =
    let l : c.args.q / length c.translations-count.result.now * c.arms.result + c.args.i < length c.args.tables.now.moves.items = found_below c.args.quotient.now c.args.tables.now c.requires.tables c.args.q c.args.i c.requires.element c.requires.column c.arms.result (length c.translations-count.result.now) c.arms.ensures.value (ap length c.translations-count.ensures) in
    let f : c.index-found.result.now ≡ slice_index_or c.args.tables.now.moves.items (c.args.q / length c.translations-count.result.now * c.arms.result + c.args.i) no_move =
    c.index-found.ensures ∙ get_or_default c.args.tables.now.moves.items (c.args.q / length c.translations-count.result.now * c.arms.result + c.args.i) c.index-found.result.now no_move l in
    let m : c.index-found.result.now.row * length c.translations-count.result.now + c.args.q % length c.translations-count.result.now < length c.args.tables.now.phases.items = phase_place_below c.args.quotient.now c.args.tables.now c.requires.tables c.args.q c.args.i c.requires.element c.requires.column c.index-found.result.now c.arms.result (length c.translations-count.result.now) c.arms.ensures.value (ap length c.translations-count.ensures) f in
    search rules

pub overflow_add-found : goal.overflow_add-found
overflow_add-found c =
    let l : c.args.q / length c.translations-count.result.now * c.arms.result + c.args.i < length c.args.tables.now.moves.items = found_below c.args.quotient.now c.args.tables.now c.requires.tables c.args.q c.args.i c.requires.element c.requires.column c.arms.result (length c.translations-count.result.now) c.arms.ensures.value (ap length c.translations-count.ensures) in
    let f : c.index-found.result.now ≡ slice_index_or c.args.tables.now.moves.items (c.args.q / length c.translations-count.result.now * c.arms.result + c.args.i) no_move =
    c.index-found.ensures ∙ get_or_default c.args.tables.now.moves.items (c.args.q / length c.translations-count.result.now * c.arms.result + c.args.i) c.index-found.result.now no_move l in
    let m : c.index-found.result.now.row * length c.translations-count.result.now + c.args.q % length c.translations-count.result.now < length c.args.tables.now.phases.items = phase_place_below c.args.quotient.now c.args.tables.now c.requires.tables c.args.q c.args.i c.requires.element c.requires.column c.index-found.result.now c.arms.result (length c.translations-count.result.now) c.arms.ensures.value (ap length c.translations-count.ensures) f in
    search rules

pub index-phase-requires : goal.index-phase-requires
index-phase-requires c =
    let l : c.args.q / length c.translations-count.result.now * c.arms.result + c.args.i < length c.args.tables.now.moves.items = found_below c.args.quotient.now c.args.tables.now c.requires.tables c.args.q c.args.i c.requires.element c.requires.column c.arms.result (length c.translations-count.result.now) c.arms.ensures.value (ap length c.translations-count.ensures) in
    let f : c.index-found.result.now ≡ slice_index_or c.args.tables.now.moves.items (c.args.q / length c.translations-count.result.now * c.arms.result + c.args.i) no_move =
    c.index-found.ensures ∙ get_or_default c.args.tables.now.moves.items (c.args.q / length c.translations-count.result.now * c.arms.result + c.args.i) c.index-found.result.now no_move l in
    let m : c.index-found.result.now.row * length c.translations-count.result.now + c.args.q % length c.translations-count.result.now < length c.args.tables.now.phases.items = phase_place_below c.args.quotient.now c.args.tables.now c.requires.tables c.args.q c.args.i c.requires.element c.requires.column c.index-found.result.now c.arms.result (length c.translations-count.result.now) c.arms.ensures.value (ap length c.translations-count.ensures) f in
    search rules

pub overflow_add-phase : goal.overflow_add-phase
overflow_add-phase c =
    let l : c.args.q / length c.translations-count.result.now * c.arms.result + c.args.i < length c.args.tables.now.moves.items = found_below c.args.quotient.now c.args.tables.now c.requires.tables c.args.q c.args.i c.requires.element c.requires.column c.arms.result (length c.translations-count.result.now) c.arms.ensures.value (ap length c.translations-count.ensures) in
    let f : c.index-found.result.now ≡ slice_index_or c.args.tables.now.moves.items (c.args.q / length c.translations-count.result.now * c.arms.result + c.args.i) no_move =
    c.index-found.ensures ∙ get_or_default c.args.tables.now.moves.items (c.args.q / length c.translations-count.result.now * c.arms.result + c.args.i) c.index-found.result.now no_move l in
    let m : c.index-found.result.now.row * length c.translations-count.result.now + c.args.q % length c.translations-count.result.now < length c.args.tables.now.phases.items = phase_place_below c.args.quotient.now c.args.tables.now c.requires.tables c.args.q c.args.i c.requires.element c.requires.column c.index-found.result.now c.arms.result (length c.translations-count.result.now) c.arms.ensures.value (ap length c.translations-count.ensures) f in
    let g : c.index-phase.result.now ≡ get_or c.args.tables.now.phases.items (c.index-found.result.now.row * length c.translations-count.result.now + c.args.q % length c.translations-count.result.now) 0 =
    c.index-phase.ensures ∙ get_or_default c.args.tables.now.phases.items (c.index-found.result.now.row * length c.translations-count.result.now + c.args.q % length c.translations-count.result.now) c.index-phase.result.now 0 m in
    let x : c.index-phase.result.now < 24 = found_phase_below c.args.quotient.now c.args.tables.now c.requires.tables c.args.q c.args.i c.requires.element c.requires.column c.index-found.result.now c.arms.result (length c.translations-count.result.now) c.arms.ensures.value (ap length c.translations-count.ensures) f c.index-phase.result.now g in
    let y : c.index-found.result.now.power < 24 = found_power_below c.args.quotient.now c.args.tables.now c.requires.tables c.args.q c.args.i c.requires.element c.requires.column c.index-found.result.now c.arms.result (length c.translations-count.result.now) c.arms.ensures.value (ap length c.translations-count.ensures) f in
    search rules

pub overflow_add-result : goal.overflow_add-result
overflow_add-result c =
    let l : c.args.q / length c.translations-count.result.now * c.arms.result + c.args.i < length c.args.tables.now.moves.items = found_below c.args.quotient.now c.args.tables.now c.requires.tables c.args.q c.args.i c.requires.element c.requires.column c.arms.result (length c.translations-count.result.now) c.arms.ensures.value (ap length c.translations-count.ensures) in
    let f : c.index-found.result.now ≡ slice_index_or c.args.tables.now.moves.items (c.args.q / length c.translations-count.result.now * c.arms.result + c.args.i) no_move =
    c.index-found.ensures ∙ get_or_default c.args.tables.now.moves.items (c.args.q / length c.translations-count.result.now * c.arms.result + c.args.i) c.index-found.result.now no_move l in
    let k : c.index-found.result.now.little < length c.args.tables.now.star.little = found_little_below c.args.quotient.now c.args.tables.now c.requires.tables c.args.q c.args.i c.requires.element c.requires.column c.index-found.result.now c.arms.result (length c.translations-count.result.now) c.arms.ensures.value (ap length c.translations-count.ensures) f in
    let e : c.from-power.result ≡ (c.index-phase.result.now + c.index-found.result.now.power) % 24 = search rules in
    let x : c.from-power.result < 24 = omega (arith, e) in
    let y : c.index-found.result.now.little < length c.little.result.now = subst (λ (xs : List ℕ). c.index-found.result.now.little < length xs) (sym c.little.ensures.value) k in
    let z : c.from-power.result * length c.little.result.now + c.index-found.result.now.little ≤ 1152 = small_place c.from-power.result (length c.little.result.now) c.index-found.result.now.little x c.little.ensures.few y in
    search rules

pub returns : goal.returns
returns c =
    let l : c.args.q / length c.translations-count.result.now * c.arms.result + c.args.i < length c.args.tables.now.moves.items = found_below c.args.quotient.now c.args.tables.now c.requires.tables c.args.q c.args.i c.requires.element c.requires.column c.arms.result (length c.translations-count.result.now) c.arms.ensures.value (ap length c.translations-count.ensures) in
    let f : c.index-found.result.now ≡ slice_index_or c.args.tables.now.moves.items (c.args.q / length c.translations-count.result.now * c.arms.result + c.args.i) no_move =
    c.index-found.ensures ∙ get_or_default c.args.tables.now.moves.items (c.args.q / length c.translations-count.result.now * c.arms.result + c.args.i) c.index-found.result.now no_move l in
    let m : c.index-found.result.now.row * length c.translations-count.result.now + c.args.q % length c.translations-count.result.now < length c.args.tables.now.phases.items = phase_place_below c.args.quotient.now c.args.tables.now c.requires.tables c.args.q c.args.i c.requires.element c.requires.column c.index-found.result.now c.arms.result (length c.translations-count.result.now) c.arms.ensures.value (ap length c.translations-count.ensures) f in
    let g : c.index-phase.result.now ≡ get_or c.args.tables.now.phases.items (c.index-found.result.now.row * length c.translations-count.result.now + c.args.q % length c.translations-count.result.now) 0 =
    c.index-phase.ensures ∙ get_or_default c.args.tables.now.phases.items (c.index-found.result.now.row * length c.translations-count.result.now + c.args.q % length c.translations-count.result.now) c.index-phase.result.now 0 m in
    let e : c.from-power.result ≡ (c.index-phase.result.now + c.index-found.result.now.power) % 24 = search rules in
    subst (λ (k : ℕ). IsPlaceOf c.args.quotient.now c.args.tables.now c.args.q c.args.i (record { row = c.index-found.result.now.row; matrix = k * length c.little.result.now + c.index-found.result.now.little })) (sym e)
    (place_is c.args.quotient.now c.args.tables.now c.requires.tables c.args.q c.args.i c.requires.element c.requires.column c.index-found.result.now c.index-phase.result.now c.arms.result (length c.translations-count.result.now) (length c.little.result.now) c.arms.ensures.value (ap length c.translations-count.ensures) (ap length c.little.ensures.value) f g)
