use Rattle.std.proofs.Common.{◌≡◌, sym, subst, ℕ, List, length, rules}
use Rattle.space_ops.specs.Op.{shift_of}
use Rattle.wyckoff.specs.Places.{place_at}
use Rattle.wyckoff.specs.OrbitParts.{turned_at, IsFilled, IsNumberOf}
use Rattle.wyckoff.proofs.TableLemmas.{filled-none, filled-more}
use Rattle.wyckoff.proofs.tables.turns_of.Goals as goal

pub loop-r-init : goal.loop-r-init
loop-r-init c =
    let n = length c.args.places.now in
    let P : ℕ → ℕ → ℕ → Type 0 = λ r i. IsNumberOf c.args.places.now (shift_of (turned_at c.args.quotient.now r (place_at c.args.places.now i))) in
    subst (λ (v : List ℕ). IsFilled 0 n P 0 v) (sym c.new-turns.ensures.items) (filled-none n P 0)

pub loop-r-preserved : goal.loop-r-preserved
loop-r-preserved c =
    let P : ℕ → ℕ → ℕ → Type 0 = λ r i. IsNumberOf c.args.places.now (shift_of (turned_at c.args.quotient.now r (place_at c.args.places.now i))) in
    filled-more c.loop-r.r (length c.args.places.now) P 0 c.loop-r.turns.items c.push_turns.new.turns.items c.loop-r.invariant c.in-Ok.ensures

pub returns : goal.returns
returns c =
    let P : ℕ → ℕ → ℕ → Type 0 = λ r i. IsNumberOf c.args.places.now (shift_of (turned_at c.args.quotient.now r (place_at c.args.places.now i))) in
    let e : c.loop-r.r ≡ length c.args.quotient.now.parent.ops = search rules in
    subst (λ (k : ℕ). IsFilled k (length c.args.places.now) P 0 c.loop-r.turns.items) e c.loop-r.invariant
