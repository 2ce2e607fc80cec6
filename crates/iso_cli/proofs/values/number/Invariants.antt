use Rattle.std.proofs.Common.{◌≡◌, ◌<◌, ◌^◌, take, true}
use Rattle.std.specs.List.{list_all}
use Rattle.std.specs.Char.{is_ascii_digit}
use Rattle.iso_text.specs.Digits.{decimal}
use Rattle.iso_cli.proofs.values.number.Given as goal

abbrev pub invariant-loop-byte : goal.invariant-loop-byte
invariant-loop-byte l = record {
  number : l.number ≡ decimal (take l.byte-index l.digits);
  all : list_all is_ascii_digit (take l.byte-index l.digits) ≡ true;
  small : l.number < 10 ^ l.byte-index;
}
