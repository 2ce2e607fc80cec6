use Rattle.std.proofs.Common.{◌∙◌, sym, ap, subst, map, ◌++◌}
use Rattle.std.specs.List.{range_with_len}
use Rattle.real_form.specs.declared.candidate.Candidate.TheVariants.{Place}
use Rattle.real_form.specs.Candidates.{ArePowers}
use Rattle.real_form.proofs.CombinationLemmas.{all-candidates, all-powers}
use Rattle.real_form.proofs.candidates.candidates.Goals as goal

pub returns-clause-list : goal.returns-clause-list
returns-clause-list c =
    let n = c.args.n in
    all-candidates n c.push_places.new.all.items c.push_pairs.new.all.items (c.in_ok-push_places.ensures ∙ ap (λ z. z ++ map Place (range_with_len 0 n)) c.new-all.ensures.items) c.in_ok-push_pairs.ensures

pub returns-clause-powers : goal.returns-clause-powers
returns-clause-powers c =
    let n = c.args.n in
    subst ArePowers (sym (all-candidates n c.push_places.new.all.items c.push_pairs.new.all.items (c.in_ok-push_places.ensures ∙ ap (λ z. z ++ map Place (range_with_len 0 n)) c.new-all.ensures.items) c.in_ok-push_pairs.ensures)) (all-powers n)
