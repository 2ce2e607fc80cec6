use Rattle.std.proofs.Common.{◌≡◌, ◌<◌, ◌+◌, ◌^◌, ℕ, sym, ◌∙◌, ap, subst, List, length}
use Rattle.std.specs.List.{Contains}
use Rattle.std.specs.Prelude.{Err}
use Rattle.lin_alg.specs.declared.errors.LinError.TheVariants.{Wide}
use Rattle.cyclo24.specs.declared.k24.K24.{K24}
use Rattle.cyclo24.specs.ExactK24.{Exact24, k24, k24_laws}
use Rattle.cyclo24.specs.K24.{exact24}
use Rattle.lin_alg.specs.Rows.{vector}
use Rattle.mode_project.specs.AmplitudeLaws.{modes-basis}
use Rattle.mode_project.specs.Amplitudes.{AreAmplitudes, IsModeBasis}
use Rattle.mode_project.specs.Joined.{lines_in, AreLong}
use Rattle.mode_project.specs.ModesView.{ModesView, irrep_modes_in, count_in, mode_in}
use Rattle.mode_project.specs.OrbitAmplitudes.{in_wholes, AreModesOfSome}
use Rattle.mode_project.proofs.FinalLemmas.{same-error}
use Rattle.mode_project.proofs.JointLemmas.{exact-length}
use Rattle.mode_project.proofs.OrbitLemmas.{held-basis, seen-amplitudes, held-amplitudes, seen-wide, site-below, wide-below}
use Rattle.mode_project.proofs.orbit_amplitudes.amplitudes_in.Goals as goal

basis-of : (v : ModesView) → AreModesOfSome v → IsModeBasis k24_laws v.size (irrep_modes_in v) v.sites
basis-of v h = subst (λ (n : ℕ). IsModeBasis k24_laws n (irrep_modes_in v) v.sites) h.size (modes-basis k24_laws h.space h.weights (irrep_modes_in v) v.sites h.modes)

count-of : (v : ModesView) → AreModesOfSome v → count_in v ≡ v.size
count-of v h = ap (λ k. k + length v.sites) (sym (exact-length k24_laws exact24 v.rows)) ∙ (basis-of v h).count

sites-of : (v : ModesView) → AreModesOfSome v → (c : ℕ) → Contains v.sites c → c < v.size
sites-of v h = subst (λ (n : ℕ). (c : ℕ) → Contains v.sites c → c < n) h.size (site-below k24_laws h.space h.weights (irrep_modes_in v) v.sites h.modes)

-- the numbers that are held
seen-numbers : (size : ℕ) (all now : List K24) (t : ℕ → Exact24) → now ≡ all → (n : ℕ) → n ≡ size → ((c : ℕ) → c < n → vector k24_laws exact24 all c ≡ t c) → (c : ℕ) → c < size → vector k24_laws exact24 now c ≡ t c
seen-numbers size all now t e n en h c l = ap (λ xs. vector k24_laws exact24 xs c) e ∙ h c (subst (λ (k : ℕ). c < k) (sym en) l)

pub wholes-requires : goal.wholes-requires
wholes-requires g c = c.requires.columns ∙ sym c.size.ensures.value

pub solved_rows-requires-clause-small : goal.solved_rows-requires-clause-small
solved_rows-requires-clause-small g c =
    let e : length c.deref.result.now ≡ c.args.modes.now.size = ap length c.deref.ensures.value ∙ c.in-Ok.ensures.len ∙ c.size.ensures.value in
    subst (λ (n : ℕ). n < 2 ^ 16) (sym e) c.size.ensures.small

pub solved_rows-requires-clause-long : goal.solved_rows-requires-clause-long
solved_rows-requires-clause-long g c =
    let e : length c.deref.result.now ≡ c.args.modes.now.size = ap length c.deref.ensures.value ∙ c.in-Ok.ensures.len ∙ c.size.ensures.value in
    subst (λ (n : ℕ). AreLong n (lines_in c.rows.result.now)) (sym e) c.rows.ensures.long

pub solved_rows-requires-clause-basis : goal.solved_rows-requires-clause-basis
solved_rows-requires-clause-basis g c =
    let v = c.args.modes.now in
    let e : length c.deref.result.now ≡ v.size = ap length c.deref.ensures.value ∙ c.in-Ok.ensures.len ∙ c.size.ensures.value in
    let t = vector k24_laws exact24 c.deref.result.now in
    held-basis k24 exact24 v.size v.rows v.sites (basis-of v c.requires.modes) c.rows.result.now c.rows.ensures.rows c.sites.result.now c.sites.ensures (length c.deref.result.now) e t

pub returns-in-Ok-solved_rows-clause-count : goal.returns-in-Ok-solved_rows-clause-count
returns-in-Ok-solved_rows-clause-count g c =
    let v = c.args.modes.now in
    let e : length c.deref.result.now ≡ v.size = ap length c.deref.ensures.value ∙ c.in-Ok.ensures.len ∙ c.size.ensures.value in
    ap length c.from_vec.ensures ∙ c.in-Ok-solved_rows.ensures.count ∙ e ∙ sym (count-of v c.requires.modes)

pub returns-in-Ok-solved_rows-clause-amplitudes : goal.returns-in-Ok-solved_rows-clause-amplitudes
returns-in-Ok-solved_rows-clause-amplitudes g c =
    let v = c.args.modes.now in
    let e : length c.deref.result.now ≡ v.size = ap length c.deref.ensures.value ∙ c.in-Ok.ensures.len ∙ c.size.ensures.value in
    let t = vector k24_laws exact24 c.deref.result.now in
    let same = seen-numbers v.size c.in-Ok.target.items c.deref.result.now (in_wholes (g.N.AtomNumbers.number c.args.numbers.now c.args.orbit)) c.deref.ensures.value c.size.result c.size.ensures.value c.in-Ok.ensures.numbers in
    let all = vector k24_laws exact24 c.in-Ok-solved_rows.all.items in
    let own = seen-amplitudes k24 exact24 v.size v.rows v.sites (basis-of v c.requires.modes) c.rows.result.now c.rows.ensures.rows c.sites.result.now c.sites.ensures (length c.deref.result.now) e t all c.in-Ok-solved_rows.ensures.amplitudes in
    subst (λ (xs : List K24). AreAmplitudes k24_laws (count_in v) (mode_in v) v.size (in_wholes (g.N.AtomNumbers.number c.args.numbers.now c.args.orbit)) (vector k24_laws exact24 xs)) (sym c.from_vec.ensures)
    (λ j l. own j l ∙ same j l)

pub returns-in-Ok-solved_rows-clause-only : goal.returns-in-Ok-solved_rows-clause-only
returns-in-Ok-solved_rows-clause-only g c b h m l =
    let v = c.args.modes.now in
    let e : length c.deref.result.now ≡ v.size = ap length c.deref.ensures.value ∙ c.in-Ok.ensures.len ∙ c.size.ensures.value in
    let t = vector k24_laws exact24 c.deref.result.now in
    let same = seen-numbers v.size c.in-Ok.target.items c.deref.result.now (in_wholes (g.N.AtomNumbers.number c.args.numbers.now c.args.orbit)) c.deref.ensures.value c.size.result c.size.ensures.value c.in-Ok.ensures.numbers in
    let k = held-amplitudes k24 exact24 v.size v.rows v.sites (basis-of v c.requires.modes) c.rows.result.now c.rows.ensures.rows c.sites.result.now c.sites.ensures (length c.deref.result.now) e t b (λ j i. h j i ∙ sym (same j i)) in
    c.in-Ok-solved_rows.ensures.only b k m (subst (λ (i : ℕ). m < i) (count-of v c.requires.modes ∙ sym e) l) ∙ ap (λ xs. vector k24_laws exact24 xs m) (sym c.from_vec.ensures)

pub returns-clause-wide : goal.returns-clause-wide
returns-clause-wide g c w =
    let v = c.args.modes.now in
    let e : length c.deref.result.now ≡ v.size = ap length c.deref.ensures.value ∙ c.in-Ok.ensures.len ∙ c.size.ensures.value in
    let t = vector k24_laws exact24 c.deref.result.now in
    let same = seen-numbers v.size c.in-Ok.target.items c.deref.result.now (in_wholes (g.N.AtomNumbers.number c.args.numbers.now c.args.orbit)) c.deref.ensures.value c.size.result c.size.ensures.value c.in-Ok.ensures.numbers in
    let own = seen-wide k24 exact24 v.size v.rows v.sites (basis-of v c.requires.modes) c.rows.result.now c.rows.ensures.rows c.sites.result.now c.sites.ensures (length c.deref.result.now) e t (c.in-Err-solved_rows.ensures.wide (ap Err (same-error c.in-Err-solved_rows.error Wide w))) in
    wide-below k24 v.size (irrep_modes_in v) v.sites (sites-of v c.requires.modes) t (in_wholes (g.N.AtomNumbers.number c.args.numbers.now c.args.orbit)) same own
