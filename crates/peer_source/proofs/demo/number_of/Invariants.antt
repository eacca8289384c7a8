use Rattle.std.proofs.Common.{◌≡◌, ◌<◌, ◌^◌, drop}
use Rattle.std.specs.Char.{is_ascii_digit}
use Rattle.std.specs.List.{list_all}
use Rattle.peer_source.specs.Demo.{number_after}
use Rattle.peer_source.proofs.demo.number_of.Given as goal

abbrev pub invariant-loop-digit : goal.invariant-loop-digit
invariant-loop-digit l = record {
  small : l.number < 10 ^ l.digit-index;
  value : number_after l.number (drop l.digit-index l.text) ≡ number_after 0 l.text;
  digits : list_all is_ascii_digit (drop l.digit-index l.text) ≡ list_all is_ascii_digit l.text;
}
