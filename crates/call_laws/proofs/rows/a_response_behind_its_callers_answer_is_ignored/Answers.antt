use Rattle.std.proofs.Common.{[], ◌∷◌, None, Some, refl}
use Rattle.connection_history.specs.History.{came, called, answered}
use Rattle.call_laws.specs.Rows.{question, reply, request, response}
use Rattle.call_laws.proofs.rows.a_response_behind_its_callers_answer_is_ignored.Goals as goal

pub returns-clause-ended : goal.returns-clause-ended
returns-clause-ended c = record { more = came None response ∷ []; happening = answered 1 (Some reply); past = called 1 question ∷ came None request ∷ []; whole = refl; waited = refl; caller = 1; made = refl; is = refl }
