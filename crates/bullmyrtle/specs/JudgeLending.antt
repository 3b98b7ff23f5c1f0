-- A handle whose value is lent.
use Rattle.std.specs.Borrow.{Lends, MutBor, Fml}
use Rattle.bullmyrtle.specs.JudgeHeld.{held_row, Held}
use Rattle.bullmyrtle.specs.declared.judge_handle.JudgeHandle.{JudgeHandle}
use Rattle.bullmyrtle.specs.contracts.judge_handle.JudgeHandle.{the_row}

-- the handle with this value
abbrev pub with_value : JudgeHandle → Held → JudgeHandle
with_value h w = record h { value = w }

-- once the borrow r ends, the handle holds the last value behind it
abbrev pub LendsValue : MutBor JudgeHandle → MutBor Held → Fml
LendsValue h r = Lends the_row held_row h r (with_value h.now)
