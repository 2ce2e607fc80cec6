use Rattle.fix_lattice.specs.Cuts.{cut_count, AreFewCuts}
use Rattle.std.proofs.Common.{◌≡◌, ◌<◌, ◌≤◌, ◌+◌, ◌*◌, ℕ, length, map}
use Rattle.fix_lattice.specs.Classes.{IsClosing, IsReached, AreImages, AreCovered}
use Rattle.fix_lattice.specs.Subspaces.{AreHeld, exact_forms}
use Rattle.fix_lattice.proofs.closing.close_classes.Given as goal

abbrev pub invariant-loop-at : goal.invariant-loop-at
invariant-loop-at g l =
    let f = g.F.Field.field in
    let v = g.F.Field.value in
    let act = g.G.Acts.action l.given.acts.now in
    record {
      held : AreHeld f.laws v g.F.PartialEq.eq act.dim l.tables.held.keys;
      closing : IsClosing f.laws act (exact_forms f.laws v l.tables.held.keys) l.given.singles.now.places.items l.given.singles.now.elements.items (map (λ r. r.items) l.tables.cuts.items) l.tables.sources.items;
      images : AreImages f.laws act (exact_forms f.laws v l.tables.held.keys) (map (λ r. r.items) l.images.items);
      all : length l.images.items ≡ length l.tables.held.keys;
      covered : AreCovered f.laws act (exact_forms f.laws v l.tables.held.keys) l.covered;
      marks : length l.covered ≡ l.given.limit;
      reached : (i : ℕ) → i < l.at → (i < length (exact_forms f.laws v l.tables.held.keys)) × IsReached f.laws act (exact_forms f.laws v l.tables.held.keys) i;
      within : length l.tables.held.keys ≤ l.given.limit;
      few : AreFewCuts f.laws act l.given.limit (length l.given.singles.now.elements.items) (map (λ r. r.items) l.tables.cuts.items);
      cost : l.steps + act.dim * cut_count (map (λ r. r.items) l.fn.tables.cuts.items) ≤ l.fn.steps + act.dim * cut_count (map (λ r. r.items) l.tables.cuts.items);
    }
