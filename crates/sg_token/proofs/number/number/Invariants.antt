use Rattle.std.proofs.Common.{◌≡◌, ◌^◌, ◌-◌, take, min, true}
use Rattle.std.specs.List.{list_all}
use Rattle.std.specs.Char.{is_ascii_digit}
use Rattle.sg_token.specs.Runs.{value_of}
use Rattle.sg_token.proofs.number.number.Given as goal

-- all were digits so far, and their value is kept as far as it fits
abbrev pub invariant-loop-digit : goal.invariant-loop-digit
invariant-loop-digit l = record {
  digits : list_all is_ascii_digit (take l.digit-index l.run) ≡ true;
  value : l.value ≡ min (value_of (take l.digit-index l.run)) (2 ^ 64 - 1);
}
