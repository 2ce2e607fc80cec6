use Rattle.fix_lattice.specs.Cuts.{cut_count, AreFewCuts}
use Rattle.std.proofs.Common.{◌≤◌, ◌+◌, ◌*◌, length, map}
use Rattle.fix_lattice.specs.Classes.{IsClosing, IsImageRow, AreImages}
use Rattle.fix_lattice.specs.Held.{IsGrown}
use Rattle.fix_lattice.specs.Subspaces.{AreHeld, exact_forms}
use Rattle.fix_lattice.proofs.images.image_row.Given as goal

abbrev pub invariant-loop-p : goal.invariant-loop-p
invariant-loop-p g l =
    let f = g.F.Field.field in
    let v = g.F.Field.value in
    let act = g.G.Acts.action l.given.acts.now in
    record {
      held : AreHeld f.laws v g.F.PartialEq.eq act.dim l.tables.held.keys;
      closing : IsClosing f.laws act (exact_forms f.laws v l.tables.held.keys) l.given.singles.now.places.items l.given.singles.now.elements.items (map (λ r. r.items) l.tables.cuts.items) l.tables.sources.items;
      grown : IsGrown (exact_forms f.laws v l.fn.tables.held.keys) (exact_forms f.laws v l.tables.held.keys);
      images : AreImages f.laws act (exact_forms f.laws v l.tables.held.keys) (map (λ r. r.items) l.images);
      found : IsImageRow f.laws act (exact_forms f.laws v l.tables.held.keys) l.i l.p l.found.items;
      within : length l.tables.held.keys ≤ l.given.limit;
      few : AreFewCuts f.laws act l.given.limit (length l.given.singles.now.elements.items) (map (λ r. r.items) l.tables.cuts.items);
      cost : l.steps + act.dim * cut_count (map (λ r. r.items) l.fn.tables.cuts.items) ≤ l.fn.steps + act.dim * cut_count (map (λ r. r.items) l.tables.cuts.items);
    }
