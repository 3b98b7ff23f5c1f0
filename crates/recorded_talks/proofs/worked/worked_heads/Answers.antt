-- Each is worked out.
use Rattle.std.proofs.Common.{refl}
use Rattle.std.specs.Str.{is_utf8, chars}
use Rattle.recorded_talks.proofs.worked.worked_heads.Goals as goal

pub returns : goal.returns
unfolding is_utf8 chars lib.Utf8.encode
returns c = record { usual = refl; blanks = refl; newest = refl; other_version = refl; other_rules = refl; other_framing = refl; remark = refl }
