-- The responses that come are the answers of the other host, each after its request.
use Rattle.std.proofs.Common.{◌≡◌, ℕ, List, [], ◌∷◌, ◌++◌, cond, Option, Some, None, refl, sym, ap, subst, ◌∙◌}
use Rattle.std.specs.Prelude.{is_some}
use Rattle.message_ids.specs.declared.id.Id.TheVariants.{Unsigned}
use Rattle.connection_messages.specs.ReadBack.{reply_as_read}
use Rattle.connection_messages.specs.declared.answer.Answer.{Answer}
use Rattle.connection_messages.specs.declared.reply.Reply.{Reply as Replied}
use Rattle.connection_history.specs.declared.order.Order.{Order}
use Rattle.connection_history.specs.Events.{events_of}
use Rattle.connection_history.specs.History.{History, or_else, units_at, stream, caller_of, answer_to, reply_to}
use Rattle.connection_history.specs.Stream.{entries_along, first_reply}
use Rattle.connection_history.specs.Told.{AtMost, replies_told}
use Rattle.connection.specs.BackToBack.{messages_of}
use Rattle.call_laws.specs.Calls as home
use Rattle.call_laws.specs.Calls.{answers_said, IsAnswered}
use Rattle.call_laws.specs.Talks.{IsHeard, Talk, begin, at_first, at_second}
use Rattle.call_laws.proofs.Asked.{request_made, request_once}
use Rattle.call_laws.proofs.Given.{AllGiven, IsGiven, Answers, all_given, from_messages, first_reply-append}
use Rattle.call_laws.proofs.Histories.{stream-more}
use Rattle.call_laws.proofs.Lists.{AllOf, all-front, flat-append}
use Rattle.call_laws.proofs.Talking.{both_hear}

-- a response that came is the answer of the other host
pub came_answered : (second : Order) (ours theirs : History) (k : ℕ) (reply : Replied) → IsHeard (messages_of second theirs) ours → first_reply k (stream ours) ≡ Some reply → Answers k theirs reply
came_answered second ours theirs k reply heard is =
    let all : AllGiven theirs (messages_of second theirs) = all_given second theirs in
    let parts : AllOf (IsGiven theirs) (answers_said heard.front ++ answers_said heard.rest) =
    subst (AllOf (IsGiven theirs)) (flat-append home.answers_in heard.front heard.rest) (subst (AllGiven theirs) heard.whole all) in
    from_messages theirs k reply heard.front (all-front (IsGiven theirs) (answers_said heard.front) (answers_said heard.rest) parts)
    (ap (λ us. first_reply k (entries_along us)) (sym heard.heard) ∙ is)

pub one_answer : (first : Order) (ours theirs : History) (k : ℕ) (given other : Answer) → IsHeard (messages_of first ours) theirs → IsAnswered (Unsigned k) theirs given → IsAnswered (Unsigned k) theirs other → given ≡ other
one_answer first ours theirs k given other heard it that =
    let same_number = request_once first ours theirs k it.number that.number heard it.request that.request in
    let first_answer = it.response in
    let second_answer : answer_to it.number theirs ≡ Some (Some other) = ap (λ n. answer_to n theirs) same_number ∙ that.response in
    cc

-- ---- after its request

no_first : (o p : Option Replied) → or_else o p ≡ None → o ≡ None
no_first None p h = refl
no_first (Some r) p h = h

pub in_time : (first second : Order) (ours theirs : History) (k : ℕ) → Talk first second ours theirs → reply_to k ours ≡ first_reply k (stream ours)
in_time first second ours theirs k begin = refl
in_time first second ours theirs k (at_second h others past talk heard) = in_time first second others past k talk
in_time first second ours theirs k (at_first h past others talk heard) = from (in_time first second past others k talk) (caller_of k past) refl (first_reply k (stream (h ∷ past))) refl
  where
    new : Option Replied
    new = first_reply k (entries_along (units_at h))

    whole : first_reply k (stream (h ∷ past)) ≡ or_else (first_reply k (stream past)) (first_reply k (entries_along (units_at h)))
    whole = ap (first_reply k) (stream-more past h) ∙ first_reply-append k (stream past) (entries_along (units_at h))

    from : reply_to k past ≡ first_reply k (stream past) → (c : Option ℕ) → caller_of k past ≡ c → (r : Option Replied) → first_reply k (stream (h ∷ past)) ≡ r → reply_to k (h ∷ past) ≡ first_reply k (stream (h ∷ past))
    from before (Some n) made r is = (λ i. or_else (before i) (cond (is_some (made i)) (first_reply k (entries_along (units_at h))) None)) ∙ sym whole
    from before None unmade None is =
        let earlier : first_reply k (stream past) ≡ None = no_first (first_reply k (stream past)) (first_reply k (entries_along (units_at h))) (sym whole ∙ is) in
        (λ i. or_else ((before ∙ earlier) i) (cond (is_some (unmade i)) (first_reply k (entries_along (units_at h))) None)) ∙ sym is
    from before None unmade (Some r) is = absurd
        (let it = came_answered second (h ∷ past) others k r heard is in
        let made = request_made first past others k it.answered.number (both_hear first second past others talk).0 it.answered.request in
        let is_made = made.1 in
        cc)

-- ---- what is told

only : (reply : Replied) (more : List Replied) (o : Option Replied) → AtMost (reply ∷ more) o → (o ≡ Some reply) × (more ≡ [])
only reply [] o h = (h, refl)
only reply (x ∷ more) o h = absurd h

pub told_answered : (first second : Order) (ours theirs : History) (k : ℕ) (reply : Replied) (more : List Replied) → AtMost (replies_told k (events_of ours)) (reply_to k ours) → Talk first second ours theirs
    → replies_told k (events_of ours) ≡ reply ∷ more → (given : Answer) × IsAnswered (Unsigned k) theirs given × (reply ≡ reply_as_read given) × (more ≡ [])
told_answered first second ours theirs k reply more at_most talk told =
    let one = only reply more (reply_to k ours) (subst (λ l. AtMost l (reply_to k ours)) told at_most) in
    let it = came_answered second ours theirs k reply (both_hear first second ours theirs talk).1 (sym (in_time first second ours theirs k talk) ∙ one.0) in
    (it.given, it.answered, it.is, one.1)
