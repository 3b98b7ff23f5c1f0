use Rattle.std.proofs.Common.{ap, sym, ◌∙◌}
use Rattle.peer_events.specs.Core.{stage_at}
use Rattle.session_runs.proofs.runs.Runs.are_done.Goals as goal

pub returns-else-are_gone : goal.returns-else-are_gone
returns-else-are_gone c = (
  λ gone. let never = sym gone ∙ c.if-are_gone.false in cc,
  λ both. c.are_gone.ensures.1 (λ n. ap (λ s. stage_at s n) c.self.view_is ∙ both.0 n),
)
