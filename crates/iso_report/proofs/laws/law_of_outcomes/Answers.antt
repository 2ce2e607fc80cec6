use Rattle.iso_text.specs.Lines.{lines_of}
use Rattle.iso_report.proofs.OutcomeLemmas.{outcome-one, small-tolerance}
use Rattle.iso_report.proofs.laws.law_of_outcomes.Goals as goal

pub returns : goal.returns
returns c =
    let s = c.law_of_steps.ensures in
    let i = c.law_of_irreps.ensures in
    λ j ws. outcome-one (record {
      text = s.text;
      parent = s.parent;
      phases = s.phases;
      order = s.order;
      reps = s.reps;
      dimensions = s.dimensions;
      facts = i.facts;
      list = c.law_of_list_told.ensures;
      modes = c.law_of_modes_found.ensures;
      along = c.law_of_modes_along.ensures;
      tolerance = λ bytes file h. small-tolerance file (c.law_of_ranges.ensures.files (lines_of bytes) file h);
      amps = c.law_of_amps_found.ensures;
      couple = c.law_of_couple_found.ensures;
      link = c.law_of_link_found.ensures;
      extra = c.law_of_extra_found.ensures;
      extra_amps = c.law_of_extra_amps_found.ensures;
      apart = c.law_of_apart_found.ensures;
      demo = c.law_of_demo_found.ensures;
      file = c.law_of_demo_files.ensures.one;
    }) j ws
