use Rattle.std.proofs.Common.{◌≡◌, ◌∙◌, ◌++◌, length, flat_map, ap}
use Rattle.iso_text.specs.Lines.{line}
use Rattle.space_ops.specs.Group.{Parent}
use Rattle.space_ops.specs.Lattice.{centrings_of}
use Rattle.super_group.specs.Quotient.{order_of}
use Rattle.iso_report.specs.Check.{first_line, lattice_line, supercell_line}
use Rattle.report_steps.specs.OpLines.{listed_line}
use Rattle.iso_report.proofs.CheckLemmas.{lines-joined}
use Rattle.iso_report.proofs.check.front_text.Goals as goal

pub returns : goal.returns
returns c =
    let q = c.args.quotient.now in
    let first = first_line c.args.format in
    let cell = supercell_line q.d (order_of q) in
    let p = c.group-group.result.now in
    let second = lattice_line p.lattice (length (centrings_of p.lattice)) (length p.ops) in
    let listed : c.push_listed.new.text ≡ c.in_ok-text.text ++ flat_map listed_line p.ops = c.in_ok-push_listed.ensures in
    let celled : c.push.new.self ≡ c.push_listed.new.text ++ cell =
    c.in_ok-push.ensures.ok ∙ ap (λ t. c.push_listed.new.text ++ t) (c.as_slice.ensures ∙ c.in_ok-supercell_text.ensures ∙ (λ j. supercell_line (c.d.ensures j) (c.order.ensures.value j))) in
    celled ∙ ap (λ t. t ++ cell) (listed ∙ ap (λ t. t ++ flat_map listed_line p.ops) c.in_ok-text.ensures) ∙ lines-joined first second (flat_map listed_line p.ops) cell
    ∙ ap (λ (g : Parent). line first (line (lattice_line g.lattice (length (centrings_of g.lattice)) (length g.ops)) (flat_map listed_line g.ops ++ cell))) c.group-group.ensures
