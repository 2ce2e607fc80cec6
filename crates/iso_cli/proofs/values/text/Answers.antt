use Rattle.std.proofs.Common.{ap, Some, ◌∙◌}
use Rattle.clap.specs.Matches.{found_of}
use Rattle.clap.specs.declared.parser.matches.ValueSource.{ValueSource}
use Rattle.iso_cli.proofs.Texts.{text_given_by, text_by_default, text_unknown}
use Rattle.iso_cli.proofs.values.text.Goals as goal

pub returns-in-Some-CommandLine : goal.returns-in-Some-CommandLine
returns-in-Some-CommandLine c = text_given_by (found_of c.args.found.now) c.args.name.now _ _ c.value_source.ensures (c.in-Some-CommandLine.is ∙ ap (λ (s : ValueSource). Some s) c.in-Some-CommandLine.field-0-is) c.get_str.ensures

pub returns-in-Some-DefaultValue : goal.returns-in-Some-DefaultValue
returns-in-Some-DefaultValue c = text_by_default (found_of c.args.found.now) c.args.name.now _ c.value_source.ensures (c.in-Some-DefaultValue.is ∙ ap (λ (s : ValueSource). Some s) c.in-Some-DefaultValue.field-0-is)

pub returns-in-None : goal.returns-in-None
returns-in-None c = text_unknown (found_of c.args.found.now) c.args.name.now _ c.value_source.ensures c.in-None.is
