use Rattle.std.proofs.Common.{[], ◌∷◌, None, Some, refl}
use Rattle.message_ids.specs.declared.id.Id.TheVariants.{Unsigned}
use Rattle.connection.specs.BackToBack.{call, answer, messages_of}
use Rattle.connection_history.specs.History.{came, called, answered}
use Rattle.connection_history.specs.declared.order.Order.TheVariants.{AsAnswered}
use Rattle.call_laws.specs.Rows.{question, reply, request, response, asks, answers}
use Rattle.call_laws.specs.Talks.{IsHeard, begin, at_first, at_second}
use Rattle.call_laws.proofs.rows.a_request_and_its_response.Goals as goal

nothing_came : IsHeard (messages_of AsAnswered []) asks
nothing_came = record { front = []; rest = []; whole = refl; heard = refl }

request_came : IsHeard (messages_of AsAnswered asks) (came None request ∷ [])
request_came = record { front = call 1 question ∷ []; rest = []; whole = refl; heard = refl }

still_came : IsHeard (messages_of AsAnswered asks) answers
still_came = record { front = call 1 question ∷ []; rest = []; whole = refl; heard = refl }

response_came : IsHeard (messages_of AsAnswered answers) (came None response ∷ asks)
response_came = record { front = answer (Unsigned 1) reply ∷ []; rest = []; whole = refl; heard = refl }

pub returns-clause-talk : goal.returns-clause-talk
returns-clause-talk c =
    at_first (came None response) asks answers
    (at_second (answered 1 (Some reply)) asks (came None request ∷ []) (at_second (came None request) asks [] (at_first (called 0 question) [] [] begin nothing_came) request_came) still_came) response_came

pub returns-clause-ended : goal.returns-clause-ended
returns-clause-ended c = record { more = []; happening = came None response; past = asks; whole = refl; waited = refl; caller = 0; made = refl; is = refl }
