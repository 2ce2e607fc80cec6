use Rattle.std.proofs.Common.{inl, inr, ℕ, List, [], ◌∷◌, map, sym, ◌∙◌, ap, subst}
use Rattle.std.proofs.lemmas.List.{map-append}
use Rattle.fix_lattice.specs.FormLaws.{exact-at}
use Rattle.class_list.specs.declared.ranked.Ranked.{Ranked}
use Rattle.class_list.specs.Collected.{Entry, IsPushed}
use Rattle.class_list.specs.Entries.{IsEntryOf}
use Rattle.class_list.specs.Ranks.{rows_at}
use Rattle.class_list.specs.Wide.{IsWideStabiliser}
use Rattle.class_list.proofs.CollectLemmas.{rows-found, wide-fixes}
use Rattle.class_list.proofs.InsertLemmas.{same-error}
use Rattle.class_list.proofs.least.push_ranked.Goals as goal
use Rattle.class_list.proofs.least.push_ranked.Goals.{in-Ok-push, in-Err-push}

pub returns-in-Err-clause-wide : goal.returns-in-Err-clause-wide
returns-in-Err-clause-wide g c e =
    let f = g.F.Field.field in
    let v = g.F.Field.value in
    let act = g.G.Acts.action c.args.acts.now in
    let es = c.args.spaces.now.forms in
    elim (c.in-Err.ensures.wide (same-error _ _ e)) [
      | inl w ↦ inl w
      | inr w ↦ inr (wide-fixes f v act es c.requires.holds c.args.i c.requires.place (subst (IsWideStabiliser f act) (sym (exact-at f.laws v es c.args.i c.get.result.now c.get.ensures.form)) w))
    ]

pub returns-clause-pushed : goal.returns-clause-pushed
returns-clause-pushed g c =
    let f = g.F.Field.field in
    let v = g.F.Field.value in
    let act = g.G.Acts.action c.args.acts.now in
    let es = c.args.spaces.now.forms in
    let x : Ranked g.row.F.Denot = c.in-Ok.entry in
    let to : Ranked g.row.F.Denot → Entry g.row.F.Denot = λ r. ((r.first, r.second), r.direction) in
    let old : List (Ranked g.row.F.Denot) = c.args.entries.now.items in
    let new : List (Ranked g.row.F.Denot) = c.push.new.self.items in
    elim c.match-push.branch [
      | in-Ok-push w ↦
          let p : IsPushed f.laws v act c.args.order (rows_at es c.args.i) (map to old) (map to new) = record {
            entry = to x;
            is = ap (map to) w.in-Ok-push.ensures.items ∙ map-append to old (x ∷ []);
            made = subst (λ (lines : List (ℕ × List g.row.F.Denot)). IsEntryOf f.laws v act c.args.order lines (x.first, x.second) x.direction) (rows-found es c.args.i c.get.result.now c.get.ensures.form) c.in-Ok.ensures.entry;
          } in
          rw w.result-is p
      | in-Err-push w ↦ rw w.result-is tt
    ]
