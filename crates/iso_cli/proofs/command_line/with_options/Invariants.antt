use Rattle.std.proofs.Common.{◌≡◌, drop}
use Rattle.clap.specs.Simple.{app_of}
use Rattle.iso_cli.specs.CommandLine.{with_options}
use Rattle.iso_cli.specs.JobOf.{texts_of}
use Rattle.iso_cli.proofs.command_line.with_options.Given as goal

abbrev pub invariant-loop-name : goal.invariant-loop-name
invariant-loop-name l = record { left : with_options (app_of l.command) (texts_of (drop l.name-index l.names)) ≡ with_options (app_of l.fn.command) (texts_of l.names) }
