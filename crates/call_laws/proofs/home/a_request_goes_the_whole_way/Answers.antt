use Rattle.std.proofs.Common.{◌≡◌, ◌<◌, ℕ, zero, suc, Some, arith}
use Rattle.message_ids.specs.declared.id.Id.TheVariants.{Unsigned}
use Rattle.connection_history.specs.History.{History, stream}
use Rattle.connection_history.specs.Stream.{request_id}
use Rattle.call_laws.proofs.Talking.{both_hear}
use Rattle.call_laws.proofs.WholeWay.{request_came, whole_way}
use Rattle.call_laws.proofs.home.a_request_goes_the_whole_way.Goals as goal

-- a request has a number from 1 on
numbered : (history : History) (key number : ℕ) → request_id number (stream history) ≡ Some (Unsigned key) → 0 < number
numbered history key zero is = absurd (cc)
numbered history key (suc number) is = omega arith

pub returns : goal.returns
returns c = λ cancels first second ours theirs key caller talk lawful their_lawful made all_theirs all_ours closed.
    let came = request_came first ours theirs key caller all_theirs made in
    whole_way cancels first ours theirs key came.0 lawful (both_hear first second ours theirs talk).0 came.1
    (c.each_request_is_answered_or_was_cancelled.ensures.request cancels theirs came.0 (Unsigned key) their_lawful came.1 (closed came.0 (numbered theirs key came.0 came.1)))
    (λ given it. c.a_call_comes_home.ensures.home cancels first second ours theirs key caller given talk lawful made all_ours (c.each_answer_goes_out.ensures second theirs (Unsigned key) given closed it))
