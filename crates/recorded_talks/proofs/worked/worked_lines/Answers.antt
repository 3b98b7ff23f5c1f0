-- Each is worked out.
use Rattle.std.proofs.Common.{refl}
use Rattle.std.specs.Str.{is_utf8, chars}
use Rattle.recorded_talks.proofs.worked.worked_lines.Goals as goal

pub returns : goal.returns
unfolding is_utf8 chars lib.Utf8.encode
returns c = record {
  bytes = refl;
  time = refl;
  closed = refl;
  failed = refl;
  no_bytes = refl;
  empty = refl;
  remark = refl;
  digit_too_few = refl;
  no_digit = refl;
  no_blank = refl;
  no_side = refl;
  other_end = refl;
  no_time = refl;
  long_time = refl;
  no_text = refl;
}
