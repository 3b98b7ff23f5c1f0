-- A call comes home.
use Rattle.std.proofs.Common.{◌≡◌, ◌⊎◌, inl, inr, ℕ, zero, suc, ◌==◌, ◌||◌, ◌&&◌, List, [], ◌∷◌, ◌++◌, map, Bool, true, false, cond, Option, Some, None, refl, sym, ap, subst, ◌∙◌, append-nil, arith}
use Rattle.std.proofs.lemmas.Bool.Decides.{nat_tests}
use Rattle.std.specs.Prelude.{slice_get}
use Rattle.message_ids.specs.declared.id.Id.{Id}
use Rattle.message_ids.specs.declared.id.Id.TheVariants.{Unsigned}
use Rattle.connection_messages.specs.Reading.{own_key, reply_entry}
use Rattle.connection_messages.specs.ReadBack.{reply_as_read, answer_as_read, answers_as_read}
use Rattle.connection_messages.specs.declared.answer.Answer.{Answer}
use Rattle.connection_messages.specs.declared.cancels.Cancels.{Cancels}
use Rattle.connection_messages.specs.declared.reply.Reply.{Reply as Replied}
use Rattle.connection_history.specs.declared.order.Order.{Order}
use Rattle.connection_history.specs.Refusals.{IsLawful}
use Rattle.connection_history.specs.Stream.{entries_in, entries_along, first_reply}
use Rattle.connection_history.specs.History.{Happening, came, called, called_all, noticed, withdrew, answered, ended, History, or_else, ends, is_over, ends_wait, stream, caller_of, reply_to, is_waiting}
use Rattle.connection.specs.BackToBack.{Message, call, calls, notice, withdrawal, answer, answers, as_read, messages_of}
use Rattle.call_laws.specs.Calls as home
use Rattle.call_laws.specs.Calls.{answers_said, IsAnswered, IsSaid}
use Rattle.call_laws.specs.Endings.{Ending, replied, unanswered, given_up, caller_closed, ending_at, IsEnded}
use Rattle.call_laws.specs.Talks.{HasHeardAll, Talk}
use Rattle.call_laws.proofs.Given.{IsGiven, all_given, first_reply-append}
use Rattle.call_laws.proofs.Histories.{reply_to-kept, reply_to-none, reply_to-some}
use Rattle.call_laws.proofs.Lists.{all-at}
use Rattle.call_laws.proofs.CameAnswered.{came_answered, one_answer}
use Rattle.call_laws.proofs.Talking.{both_hear}
use Rattle.call_laws.proofs.Tests.{same_test}
use Rattle.call_laws.proofs.Waits.{Waits, waits, value_of, replies_by, came_before_end}

-- ---- the response that ended it

replied_by : (k n : ℕ) (past : History) (h : Happening) (r : Replied) → Waits k past → caller_of k past ≡ Some n → ending_at k n h ≡ Some (replied r) → reply_to k (h ∷ past) ≡ Some r
replied_by k n past (came o u) r w made is =
    let reply = replies_by (first_reply k (entries_in u)) (replied r) is in
    let same_reply : replied r ≡ replied reply.0 = reply.2 in
    let it : reply.0 ≡ r = cc in
    reply_to-some k past (came o u) n r made w.none (ap (first_reply k) (append-nil (entries_in u)) ∙ reply.1 ∙ ap Some it)
replied_by k n past (called m o) r w made is = absurd (cc)
replied_by k n past (called_all m os) r w made is = absurd (cc)
replied_by k n past (noticed o) r w made is = absurd (cc)
replied_by k n past (withdrew by j) r w made is = absurd (let other : given_up ≡ replied r = value_of (ends_wait by && (j == k)) given_up (replied r) is in cc)
replied_by k n past (answered m a) r w made is = absurd (let other : caller_closed ≡ replied r = value_of (m == n) caller_closed (replied r) is in cc)
replied_by k n past (ended close) r w made is = absurd (cc)

reply_since : (k : ℕ) (more : List Happening) (past : History) (r : Replied) → reply_to k past ≡ Some r → reply_to k (more ++ past) ≡ Some r
reply_since k [] past r is = is
reply_since k (h ∷ more) past r is = reply_to-kept k (more ++ past) h r (reply_since k more past r is)

pub replied_to : (history : History) (k : ℕ) (r : Replied) → IsEnded k history (replied r) → reply_to k history ≡ Some r
replied_to history k r it =
    ap (reply_to k) it.whole ∙ reply_since k it.more (it.happening ∷ it.past) r (replied_by k it.caller it.past it.happening r (waits k it.past it.waited) it.made it.is)

-- ---- the end

ends_input : (k n : ℕ) (past : History) (h : Happening) → Waits k past → ending_at k n h ≡ Some unanswered → (is_over (h ∷ past) ≡ true) × (reply_to k (h ∷ past) ≡ None)
ends_input k n past (came o u) w is = absurd (let reply = replies_by (first_reply k (entries_in u)) unanswered is in let other = reply.2 in cc)
ends_input k n past (called m o) w is = absurd (cc)
ends_input k n past (called_all m os) w is = absurd (cc)
ends_input k n past (noticed o) w is = absurd (cc)
ends_input k n past (withdrew by j) w is = absurd (let other : given_up ≡ unanswered = value_of (ends_wait by && (j == k)) given_up unanswered is in cc)
ends_input k n past (answered m a) w is = absurd (let other : caller_closed ≡ unanswered = value_of (m == n) caller_closed unanswered is in cc)
ends_input k n past (ended close) w is = (refl, reply_to-none k past (ended close) w.none refl)

or-true : (b : Bool) → (b || true) ≡ true
or-true true = refl
or-true false = refl

over_since : (more : List Happening) (past : History) → is_over past ≡ true → is_over (more ++ past) ≡ true
over_since [] past over = over
over_since (h ∷ more) past over = ap (λ b. ends h || b) (over_since more past over) ∙ or-true (ends h)

none_since : (cancels : Option Cancels) (k : ℕ) (more : List Happening) (past : History) → IsLawful cancels (more ++ past) → is_over past ≡ true → reply_to k past ≡ None → reply_to k (more ++ past) ≡ None
none_since cancels k [] past lawful over none = none
none_since cancels k (h ∷ more) past lawful over none = from h lawful (none_since cancels k more past lawful.1 over none)
  where
    from : (h : Happening) → IsLawful cancels (h ∷ (more ++ past)) → reply_to k (more ++ past) ≡ None → reply_to k (h ∷ (more ++ past)) ≡ None
    from (came o u) lawful before = absurd (let on = came_before_end cancels (more ++ past) o u lawful.0 in let still_over = over_since more past over in cc)
    from (called m o) lawful before = reply_to-none k (more ++ past) (called m o) before refl
    from (called_all m os) lawful before = reply_to-none k (more ++ past) (called_all m os) before refl
    from (noticed o) lawful before = reply_to-none k (more ++ past) (noticed o) before refl
    from (withdrew by j) lawful before = reply_to-none k (more ++ past) (withdrew by j) before refl
    from (answered m a) lawful before = reply_to-none k (more ++ past) (answered m a) before refl
    from (ended close) lawful before = reply_to-none k (more ++ past) (ended close) before refl

pub none_to : (cancels : Option Cancels) (history : History) (k : ℕ) → IsLawful cancels history → IsEnded k history unanswered → reply_to k history ≡ None
none_to cancels history k lawful it =
    let at_end = ends_input k it.caller it.past it.happening (waits k it.past it.waited) it.is in
    ap (reply_to k) it.whole ∙ none_since cancels k it.more (it.happening ∷ it.past) (subst (IsLawful cancels) it.whole lawful) at_end.0 at_end.1

-- ---- what was said comes

own : (k : ℕ) → own_key (Some (suc k)) ≡ Some (suc k)
own k = ap (λ b. cond b None (Some (suc k))) (no k)
  where
    no : (n : ℕ) → (suc n == 0) ≡ false
    no n = grind (arith, nat_tests)

response_comes : (k : ℕ) (a : Answer) → first_reply (suc k) (answer_as_read (Unsigned (suc k)) a ∷ []) ≡ Some (reply_as_read a)
response_comes k a = ap (λ o. first_reply (suc k) (reply_entry o (reply_as_read a) ∷ [])) (own k) ∙ ap (λ b. cond b (Some (reply_as_read a)) None) (same_test (suc k) (suc k) refl)

abbrev Comes : ℕ → Option Replied → Type 0
Comes k o = (r : Replied) × (o ≡ Some r)

comes_first : (k : ℕ) (o p : Option Replied) → Comes k o → Comes k (or_else o p)
comes_first k o p it = (it.0, ap (λ q. or_else q p) it.1)

comes_later : (k : ℕ) (o p : Option Replied) → Comes k p → Comes k (or_else o p)
comes_later k None p it = it
comes_later k (Some r) p it = (r, refl)

either_part : {X : Type 0} (xs ys : List X) (i : ℕ) (x : X) → slice_get (xs ++ ys) i ≡ Some x → ((j : ℕ) × (slice_get xs j ≡ Some x)) ⊎ ((j : ℕ) × (slice_get ys j ≡ Some x))
either_part [] ys i x at = inr (i, at)
either_part (y ∷ xs) ys zero x at = inl (zero, at)
either_part (y ∷ xs) ys (suc i) x at = from (either_part xs ys i x at)
  where
    from : ((j : ℕ) × (slice_get xs j ≡ Some x)) ⊎ ((j : ℕ) × (slice_get ys j ≡ Some x)) → ((j : ℕ) × (slice_get (y ∷ xs) j ≡ Some x)) ⊎ ((j : ℕ) × (slice_get ys j ≡ Some x))
    from (inl it) = inl (suc it.0, it.1)
    from (inr it) = inr it

module _ (k : ℕ) (a : Answer) where
  one_comes : (x : Id × Answer) → x ≡ (Unsigned (suc k), a) → Comes (suc k) (first_reply (suc k) (answer_as_read x.0 x.1 ∷ []))
  one_comes x is = (reply_as_read a, ap (λ (y : Id × Answer). first_reply (suc k) (answer_as_read y.0 y.1 ∷ [])) is ∙ response_comes k a)

  among : (xs : List (Id × Answer)) (i : ℕ) → slice_get xs i ≡ Some (Unsigned (suc k), a) → Comes (suc k) (first_reply (suc k) (answers_as_read xs))
  among [] i at = absurd (cc)
  among (x ∷ xs) zero at =
      subst (Comes (suc k)) (sym (first_reply-append (suc k) (answer_as_read x.0 x.1 ∷ []) (answers_as_read xs)))
      (comes_first (suc k) (first_reply (suc k) (answer_as_read x.0 x.1 ∷ [])) (first_reply (suc k) (answers_as_read xs)) (one_comes x (cc)))
  among (x ∷ xs) (suc i) at =
      subst (Comes (suc k)) (sym (first_reply-append (suc k) (answer_as_read x.0 x.1 ∷ []) (answers_as_read xs)))
      (comes_later (suc k) (first_reply (suc k) (answer_as_read x.0 x.1 ∷ [])) (first_reply (suc k) (answers_as_read xs)) (among xs i at))

  message_comes : (m : Message) (i : ℕ) → slice_get (home.answers_in m) i ≡ Some (Unsigned (suc k), a) → Comes (suc k) (first_reply (suc k) (entries_in (as_read m)))
  message_comes (call key o) i at = absurd (cc)
  message_comes (calls key os) i at = absurd (cc)
  message_comes (notice o) i at = absurd (cc)
  message_comes (withdrawal by key) i at = absurd (cc)
  message_comes (answer id b) i at = among ((id, b) ∷ []) i at
  message_comes (answers all) i at = among all i at

  said_comes : (ms : List Message) (i : ℕ) → slice_get (answers_said ms) i ≡ Some (Unsigned (suc k), a) → Comes (suc k) (first_reply (suc k) (entries_along (map as_read ms)))
  said_comes [] i at = absurd (cc)
  said_comes (m ∷ ms) i at =
      subst (Comes (suc k)) (sym (first_reply-append (suc k) (entries_in (as_read m)) (entries_along (map as_read ms)))) (from (said_comes ms) (either_part (home.answers_in m) (answers_said ms) i (Unsigned (suc k), a) at))
    where
      from : ((j : ℕ) → slice_get (answers_said ms) j ≡ Some (Unsigned (suc k), a) → Comes (suc k) (first_reply (suc k) (entries_along (map as_read ms))))
          → ((j : ℕ) × (slice_get (home.answers_in m) j ≡ Some (Unsigned (suc k), a))) ⊎ ((j : ℕ) × (slice_get (answers_said ms) j ≡ Some (Unsigned (suc k), a)))
          → Comes (suc k) (or_else (first_reply (suc k) (entries_in (as_read m))) (first_reply (suc k) (entries_along (map as_read ms))))
      from rest (inl it) = comes_first (suc k) (first_reply (suc k) (entries_in (as_read m))) (first_reply (suc k) (entries_along (map as_read ms))) (message_comes m it.0 it.1)
      from rest (inr it) = comes_later (suc k) (first_reply (suc k) (entries_in (as_read m))) (first_reply (suc k) (entries_along (map as_read ms))) (rest it.0 it.1)

-- ---- home

-- the response that came is the answer that was said
response_is : (first second : Order) (ours theirs : History) (k : ℕ) (given : Answer) → Talk first second ours theirs → HasHeardAll (messages_of second theirs) ours → IsSaid (Unsigned (suc k)) given (messages_of second theirs)
    → first_reply (suc k) (stream ours) ≡ Some (reply_as_read given)
response_is first second ours theirs k given talk heard said =
    let comes = said_comes k given (messages_of second theirs) said.0 said.1 in
    let is : first_reply (suc k) (stream ours) ≡ Some comes.0 = ap (λ us. first_reply (suc k) (entries_along us)) heard ∙ comes.1 in
    let it = came_answered second ours theirs (suc k) comes.0 (both_hear first second ours theirs talk).1 is in
    is ∙ ap Some (it.is ∙ ap reply_as_read (same_answer it.given it.answered (all-at (IsGiven theirs) (answers_said (messages_of second theirs)) said.0 (Unsigned (suc k), given) (all_given second theirs) said.1)))
  where
    same_answer : (other : Answer) → IsAnswered (Unsigned (suc k)) theirs other → IsGiven theirs (Unsigned (suc k), given) → other ≡ given
    same_answer other it (inl none) = absurd (let owned = own k in cc)
    same_answer other it (inr that) = one_answer first ours theirs (suc k) other given (both_hear first second ours theirs talk).0 it that

abbrev pub ComesHome : ℕ → History → Answer → Type 0
ComesHome k ours given = IsEnded k ours (replied (reply_as_read given)) ⊎ IsEnded k ours given_up ⊎ IsEnded k ours caller_closed

comes_home_from : (cancels : Option Cancels) (first second : Order) (ours theirs : History) (k : ℕ) (given : Answer) → Talk first second ours theirs → IsLawful cancels ours → reply_to (suc k) ours ≡ first_reply (suc k) (stream ours)
    → (is_waiting (suc k) ours ≡ true) ⊎ ((ending : Ending) × IsEnded (suc k) ours ending) → HasHeardAll (messages_of second theirs) ours → IsSaid (Unsigned (suc k)) given (messages_of second theirs) → ComesHome (suc k) ours given
comes_home_from cancels first second ours theirs k given talk lawful in_time ends_so heard said = from ends_so
  where
    reply : reply_to (suc k) ours ≡ Some (reply_as_read given)
    reply = in_time ∙ response_is first second ours theirs k given talk heard said

    by : (ending : Ending) → IsEnded (suc k) ours ending → ComesHome (suc k) ours given
    by (replied r) it =
        let other = replied_to ours (suc k) r it in
        let this = reply in
        let same_reply : r ≡ reply_as_read given = cc in
        inl (subst (λ s. IsEnded (suc k) ours (replied s)) same_reply it)
    by unanswered it = absurd (let none = none_to cancels ours (suc k) lawful it in let some = reply in cc)
    by given_up it = inr (inl it)
    by caller_closed it = inr (inr it)

    from : (is_waiting (suc k) ours ≡ true) ⊎ ((ending : Ending) × IsEnded (suc k) ours ending) → ComesHome (suc k) ours given
    from (inl waiting_now) = absurd (let none = (waits (suc k) ours waiting_now).none in let some = reply in cc)
    from (inr it) = by it.0 it.1

pub comes_home : (cancels : Option Cancels) (first second : Order) (ours theirs : History) (k : ℕ) (given : Answer) (caller : ℕ) → Talk first second ours theirs → IsLawful cancels ours → caller_of k ours ≡ Some caller
    → reply_to k ours ≡ first_reply k (stream ours) → (is_waiting k ours ≡ true) ⊎ ((ending : Ending) × IsEnded k ours ending) → HasHeardAll (messages_of second theirs) ours → IsSaid (Unsigned k) given (messages_of second theirs)
    → ComesHome k ours given
comes_home cancels first second ours theirs zero given caller talk lawful made in_time ends_so heard said = absurd (cc)
comes_home cancels first second ours theirs (suc k) given caller talk lawful made in_time ends_so heard said = comes_home_from cancels first second ours theirs k given talk lawful in_time ends_so heard said
