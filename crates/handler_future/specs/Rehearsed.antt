-- What a rehearsal answers: replies are known beforehand, some heard already and the others listed.
use Rattle.std.specs.Prelude.{◌≡◌, ◌++◌, ⊤}
use Rattle.handler_future.specs.declared.outcome.Outcome.{Outcome}
use Rattle.handler_future.specs.declared.outcome.Outcome.TheVariants.{Answer, Failed}
use Rattle.handler_future.specs.Evaluation.{Replies, evaluation}
use Rattle.handler_future.specs.Front.{Heard, heard_replies}
use Rattle.handler_future.specs.State.{HandlerState}

-- the answer is that of the evaluation with these replies
abbrev pub AnswersBy : Replies → HandlerState → Outcome → Type 0
AnswersBy R s (Answer a) = a ≡ (evaluation R s.program).answer
AnswersBy R s Failed = ⊤

-- The reply to each call is the one that was heard, else the first listed for its turn, else `No reply`.
abbrev pub IsRehearsed : HandlerState → Heard → Outcome → Type 0
IsRehearsed s listed outcome = AnswersBy (heard_replies (s.heard ++ listed)) s outcome
