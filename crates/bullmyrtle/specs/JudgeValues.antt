-- What lies behind a handle.
use Rattle.judge_calls.specs.declared.hosted.HostedJudge.{HostedJudge}
use Rattle.bullmyrtle.specs.declared.judge_handle.JudgeHandle.{JudgeHandle}

-- the value behind the handle's pointer
abbrev pub value_of : JudgeHandle → HostedJudge
value_of h = h.value
