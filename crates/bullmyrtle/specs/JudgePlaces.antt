-- What lies where the host wants a handle.
use Rattle.std.specs.Prelude.{Option, Some, None}
use Rattle.std.specs.Borrow.{full_share}
use Rattle.std.specs.Ptr.{lies_at, room_at}
use base.Fml.{Fml, fsep, fex, feq}
use denote.RawPtr.{Ptr}
use Rattle.bullmyrtle.specs.JudgeHeld.{Held}
use Rattle.bullmyrtle.specs.declared.judge_handle.JudgeHandle.{JudgeHandle}
use Rattle.bullmyrtle.specs.contracts.judge_handle.JudgeHandle.{the_row}

-- at p lies a handle whose value is v, or where there is none, p is room for a handle
abbrev pub held_at : Ptr → Option Held → Fml
held_at p None = room_at the_row p
held_at p (Some v) = fex JudgeHandle (λ h. fsep (feq Held h.value v) (lies_at the_row full_share p h))
