use Rattle.std.proofs.Common.{◌≡◌, ◌-◌, ◌<◌, ◌≤◌, ◌^◌, take, true}
use Rattle.std.specs.List.{list_all}
use Rattle.std.specs.Char.{is_ascii_digit}
use Rattle.std.specs.Str.Parse.{digits_value}
use Rattle.lsp_frames.proofs.usual_head.usual_head.Given as goal

abbrev pub invariant-loop-digits : goal.invariant-loop-digits
invariant-loop-digits l = record {
  few : l.digits ≤ l.most;
  number : l.size ≡ digits_value 10 (take l.digits l.value);
  small : l.size < 10 ^ l.digits;
  all : list_all is_ascii_digit (take l.digits l.value) ≡ true;
}

abbrev pub decreases-loop-digits : goal.decreases-loop-digits
decreases-loop-digits l = l.most - l.digits
