use Rattle.std.proofs.Common.{◌≡◌, take, map}
use Rattle.std.specs.Prelude.{string_bytes}
use Rattle.iso_cli.specs.JobOf.{texts_of}
use Rattle.iso_cli.proofs.program.as_words.Given as goal

abbrev pub invariant-loop-argument : goal.invariant-loop-argument
invariant-loop-argument l = texts_of l.words.items ≡ map string_bytes (take l.argument-index l.arguments)
