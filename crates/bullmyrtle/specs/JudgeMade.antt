-- What is answered where a new judge is asked for.
use Rattle.std.specs.Prelude.{◌≡◌, ◌⊎◌, ℤ, pos, negsuc, zero, suc, [], Option, Some, None, ⊤}
use Rattle.conversation_judge.specs.Judged.{Stands, new_judge}
use Rattle.judge_calls.specs.declared.hosted.HostedJudge.{HostedJudge}
use Rattle.judge_calls.specs.declared.options.Asked.{Asked}
use Rattle.bullmyrtle.specs.JudgeHeld.{Held}

-- it is what was asked for, and has seen nothing
abbrev pub IsFresh : Option Asked → HostedJudge → Type 0
IsFresh asked h = (it : Asked) × (asked ≡ Some it) × (h.judge ≡ new_judge it.protocol it.framing it.limits) × Stands it.protocol it.framing it.limits h.judge [] []

-- BM_SETTINGS where there is no such judge, and else BM_OK or BM_NO_MEMORY
abbrev pub IsMade : Option Asked → ℤ → Type 0
IsMade asked code = ((it : Asked) × (asked ≡ Some it) × ((code ≡ pos 0) ⊎ (code ≡ pos 1))) ⊎ ((asked ≡ None) × (code ≡ pos 7))

-- what there is after an answer: at BM_OK a fresh value
abbrev pub IsGivenBy : Option Asked → ℤ → Option Held → Type 0
IsGivenBy asked (pos zero) None = ⊥
IsGivenBy asked (pos zero) (Some v) = IsFresh asked v
IsGivenBy asked (pos (suc n)) None = ⊤
IsGivenBy asked (pos (suc n)) (Some v) = ⊥
IsGivenBy asked (negsuc n) None = ⊤
IsGivenBy asked (negsuc n) (Some v) = ⊥

abbrev pub Given : Option Asked → ℤ → Type 0
Given asked code = (m : Option Held) × IsGivenBy asked code m
