-- The answer that was read is the one that goes out.
use Rattle.std.proofs.Common.{refl}
use Rattle.host_calls.proofs.outlet.Outlet.answer.Goals as goal

pub returns : goal.returns
returns c = (refl, (c.in_ok-answer.answer, c.in_ok-answer.ensures.ok, ((c.in_ok-answer-2.ensures.settings, c.in_ok-answer-2.ensures.stream, c.in_ok-answer-2.ensures.taken), c.in_ok-answer-2.ensures.ok)))
