use Rattle.std.proofs.Common.{◌≡◌, sym, subst, ℕ, List, length, rules}
use Rattle.space_ops.specs.Op.{shift_of}
use Rattle.wyckoff.specs.Places.{place_at}
use Rattle.wyckoff.specs.OrbitParts.{shifted_at, IsFilled, IsNumberOf}
use Rattle.wyckoff.proofs.TableLemmas.{filled-none, filled-more}
use Rattle.wyckoff.proofs.tables.shifts_of.Goals as goal

pub loop-t-init : goal.loop-t-init
loop-t-init c =
    let n = length c.args.places.now in
    let P : ℕ → ℕ → ℕ → Type 0 = λ r i. IsNumberOf c.args.places.now (shift_of (shifted_at c.args.quotient.now r (place_at c.args.places.now i))) in
    subst (λ (v : List ℕ). IsFilled 0 n P 0 v) (sym c.new-shifts.ensures.items) (filled-none n P 0)

pub loop-t-preserved : goal.loop-t-preserved
loop-t-preserved c =
    let P : ℕ → ℕ → ℕ → Type 0 = λ r i. IsNumberOf c.args.places.now (shift_of (shifted_at c.args.quotient.now r (place_at c.args.places.now i))) in
    filled-more c.loop-t.t (length c.args.places.now) P 0 c.loop-t.shifts.items c.push_shifts.new.shifts.items c.loop-t.invariant c.in-Ok.ensures

pub returns : goal.returns
returns c =
    let P : ℕ → ℕ → ℕ → Type 0 = λ r i. IsNumberOf c.args.places.now (shift_of (shifted_at c.args.quotient.now r (place_at c.args.places.now i))) in
    let e : c.loop-t.t ≡ length c.args.quotient.now.translations = search rules in
    subst (λ (k : ℕ). IsFilled k (length c.args.places.now) P 0 c.loop-t.shifts.items) e c.loop-t.invariant
