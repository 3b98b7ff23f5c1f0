-- A request whose cancel came to the other side was withdrawn by its host.
use Rattle.std.proofs.Common.{◌≡◌, ◌⊎◌, inl, inr, ℕ, zero, suc, ◌+◌, ◌-◌, ◌==◌, ◌||◌, ◌&&◌, not, List, [], ◌∷◌, ◌++◌, length, map, Bool, true, false, cond, Option, Some, None, refl, sym, ap, subst, ◌∙◌}
use Rattle.std.specs.Prelude.{flat_map, get_or}
use Rattle.message_ids.specs.Ids.{has_id}
use Rattle.message_ids.specs.declared.id.Id.{Id}
use Rattle.message_ids.specs.declared.id.Id.TheVariants.{Unsigned}
use Rattle.connection_messages.specs.ReadBack.{own_id, reply_as_read, answers_as_read, calls_as_read}
use Rattle.connection_messages.specs.Reading.{reply_entry}
use Rattle.connection_messages.specs.declared.answer.Answer.{Answer}
use Rattle.connection_messages.specs.declared.cancels.Cancels.{Cancels}
use Rattle.connection_messages.specs.declared.cancels.Cancels.TheVariants.{Lsp, Mcp}
use Rattle.connection_messages.specs.declared.entry.Entry.{Entry}
use Rattle.connection_messages.specs.declared.entry.Entry.TheVariants.{Call, Cancel, Reply, Stray, Invalid}
use Rattle.connection_messages.specs.declared.outgoing.Outgoing.{Outgoing}
use Rattle.connection_messages.specs.declared.reply.Reply.{Reply as Replied}
use Rattle.connection_messages.specs.declared.unit.Unit.{Unit}
use Rattle.connection_messages.specs.declared.unit.Unit.TheVariants.{Unreadable, Single, Batch}
use Rattle.connection_history.specs.declared.order.Order.{Order}
use Rattle.connection_history.specs.declared.refused.Refused.TheVariants.{NotWaiting}
use Rattle.connection_history.specs.Items.{answers_at}
use Rattle.connection_history.specs.Refusals.{IsLawful, first_of, has_cancels}
use Rattle.connection_history.specs.Stream.{entries_in, entries_along, calls_in, after_call, cancels, request_id}
use Rattle.connection_history.specs.Told.{IsLeft}
use Rattle.connection_history.specs.Written.{places_in}
use Rattle.connection_history.specs.History.{Happening, came, called, called_all, noticed, withdrew, answered, ended, History, units_of, stream, is_waiting, is_withdrawn}
use Rattle.connection.specs.BackToBack.{Message, call, calls, notice, withdrawal, answer, answers, as_read, said_at, answer_in, answers_in, in_one, answer_of, answers_along, answer_at, messages_at, messages_of}
use Rattle.call_laws.specs.Endings.{given_up, IsEnded}
use Rattle.call_laws.specs.Talks.{IsHeard}
use Rattle.call_laws.proofs.Histories.{lawful_before}
use Rattle.call_laws.proofs.Tests.{same, same_test, or_assoc}
use Rattle.call_laws.proofs.Waits.{waits}

or-true : (b : Bool) → (b || true) ≡ true
or-true true = refl
or-true false = refl

or-false : (b : Bool) → (b || false) ≡ b
or-false true = refl
or-false false = refl

either : (a b : Bool) → (a || b) ≡ true → (a ≡ true) ⊎ (b ≡ true)
either true b h = inl refl
either false b h = inr h

-- ---- a cancel behind a call is one of all

behind : (id : Option Id) (b : Bool) (es rest : List Entry) → (cancels id rest ≡ true → cancels id es ≡ true) → cancels id (cond b es rest) ≡ true → cancels id es ≡ true
behind id true es rest before h = h
behind id false es rest before h = before h

any_cancel : (id : Option Id) (n : ℕ) (es : List Entry) → cancels id (after_call n es) ≡ true → cancels id es ≡ true
any_cancel id n [] h = h
any_cancel id n (Call c ∷ es) h = behind id (n == 1) es (after_call (n - 1) es) (any_cancel id (n - 1) es) h
any_cancel id n (Cancel target ∷ es) h = ap (λ b. has_id target id || b) (any_cancel id n es h) ∙ or-true (has_id target id)
any_cancel id n (Reply k r ∷ es) h = any_cancel id n es h
any_cancel id n (Stray ∷ es) h = any_cancel id n es h
any_cancel id n (Invalid ∷ es) h = any_cancel id n es h

cancels-append : (id : Option Id) (es fs : List Entry) → cancels id (es ++ fs) ≡ (cancels id es || cancels id fs)
cancels-append id [] fs = refl
cancels-append id (Call c ∷ es) fs = cancels-append id es fs
cancels-append id (Cancel target ∷ es) fs = ap (λ b. has_id target id || b) (cancels-append id es fs) ∙ sym (or_assoc (has_id target id) (cancels id es) (cancels id fs))
cancels-append id (Reply k r ∷ es) fs = cancels-append id es fs
cancels-append id (Stray ∷ es) fs = cancels-append id es fs
cancels-append id (Invalid ∷ es) fs = cancels-append id es fs

-- ---- it is a withdrawal

abbrev takes : ℕ → Message → Bool
takes key (call k o) = false
takes key (calls k os) = false
takes key (notice o) = false
takes key (withdrawal by k) = key == k
takes key (answer id a) = false
takes key (answers all) = false

abbrev any_takes : ℕ → List Message → Bool
any_takes key [] = false
any_takes key (m ∷ ms) = takes key m || any_takes key ms

takes-append : (key : ℕ) (ms more : List Message) → any_takes key (ms ++ more) ≡ (any_takes key ms || any_takes key more)
takes-append key [] more = refl
takes-append key (m ∷ ms) more = ap (λ b. takes key m || b) (takes-append key ms more) ∙ sym (or_assoc (takes key m) (any_takes key ms) (any_takes key more))

batch_cancels : (id : Option Id) (k : ℕ) (os : List Outgoing) → cancels id (calls_as_read k os) ≡ false
batch_cancels id k [] = refl
batch_cancels id k (o ∷ os) = batch_cancels id (k + 1) os

reply_cancels : (id : Option Id) (o : Option ℕ) (r : Replied) (es : List Entry) → cancels id (reply_entry o r ∷ es) ≡ cancels id es
reply_cancels id None r es = refl
reply_cancels id (Some k) r es = refl

answers_cancel : (id : Option Id) (all : List (Id × Answer)) → cancels id (answers_as_read all) ≡ false
answers_cancel id [] = refl
answers_cancel id (a ∷ all) = reply_cancels id (own_id a.0) (reply_as_read a.1) (answers_as_read all) ∙ answers_cancel id all

message_cancels : (key : ℕ) (m : Message) → cancels (Some (Unsigned key)) (entries_in (as_read m)) ≡ takes key m
message_cancels key (call k o) = refl
message_cancels key (calls k os) = batch_cancels (Some (Unsigned key)) k os
message_cancels key (notice o) = refl
message_cancels key (withdrawal by k) = or-false (key == k)
message_cancels key (answer id a) = reply_cancels (Some (Unsigned key)) (own_id id) (reply_as_read a) []
message_cancels key (answers all) = answers_cancel (Some (Unsigned key)) all

messages_cancel : (key : ℕ) (ms : List Message) → cancels (Some (Unsigned key)) (entries_along (map as_read ms)) ≡ any_takes key ms
messages_cancel key [] = refl
messages_cancel key (m ∷ ms) =
    cancels-append (Some (Unsigned key)) (entries_in (as_read m)) (entries_along (map as_read ms)) ∙ (λ i. message_cancels key m i || messages_cancel key ms i)

-- ---- no answer is one

each_takes : (key : ℕ) (xs : List (Id × Answer)) → any_takes key (map (λ a. answer a.0 a.1) xs) ≡ false
each_takes key [] = refl
each_takes key (x ∷ xs) = each_takes key xs

one_takes : (key : ℕ) (xs : List (Id × Answer)) → any_takes key (in_one xs) ≡ false
one_takes key [] = refl
one_takes key (x ∷ xs) = refl

unit_takes : (key : ℕ) (history : History) (n : ℕ) (u : Unit) → any_takes key (answer_of history n u) ≡ false
unit_takes key history n Unreadable = refl
unit_takes key history n (Single e) = each_takes key (answer_in history n e)
unit_takes key history n (Batch es) = one_takes key (answers_in history n es)

along_takes : (key : ℕ) (history : History) (n : ℕ) (us : List Unit) (place : ℕ) → any_takes key (get_or (answers_along history n us) place []) ≡ false
along_takes key history n [] place = refl
along_takes key history n (u ∷ us) zero = unit_takes key history n u
along_takes key history n (u ∷ us) (suc place) = along_takes key history (n + length (calls_in (entries_in u))) us place

places_take : (key : ℕ) (history : History) (places : List ℕ) → any_takes key (flat_map (answer_at history) places) ≡ false
places_take key history [] = refl
places_take key history (place ∷ places) =
    takes-append key (answer_at history place) (flat_map (answer_at history) places) ∙ (λ i. along_takes key history 1 (units_of history) place i || places_take key history places i)

-- The host has withdrawn the request.
pub record Withdraws (key : ℕ) (history : History) : Type 0 where
  pub more : List Happening
  pub by : Cancels
  pub past : History
  pub whole : history ≡ more ++ withdrew by key ∷ past

withdraws_now : (key : ℕ) (past : History) (h : Happening) → any_takes key (said_at past h) ≡ true → Withdraws key (h ∷ past)
withdraws_now key past (came o u) is = absurd (cc)
withdraws_now key past (called n o) is = absurd (cc)
withdraws_now key past (called_all n os) is = absurd (cc)
withdraws_now key past (noticed o) is = absurd (cc)
withdraws_now key past (withdrew by k) is =
    let it : key ≡ k = same key k (sym (or-false (key == k)) ∙ is) in
    record { more = []; by = by; past = past; whole = ap (λ j. withdrew by j ∷ past) (sym it) }
withdraws_now key past (answered n a) is = absurd (cc)
withdraws_now key past (ended close) is = absurd (cc)

withdraws : (key : ℕ) (order : Order) (history : History) → any_takes key (messages_of order history) ≡ true → Withdraws key history
withdraws key order [] is = absurd (cc)
withdraws key order (h ∷ past) is = from (withdraws key order past) (either (any_takes key (messages_of order past)) (any_takes key (messages_at order past h)) (sym (takes-append key (messages_of order past) (messages_at order past h)) ∙ is))
  where
    said : any_takes key (messages_at order past h) ≡ any_takes key (said_at past h)
    said =
        takes-append key (said_at past h) (flat_map (answer_at (h ∷ past)) (places_in (answers_at order past h)))
        ∙ ap (λ b. any_takes key (said_at past h) || b) (places_take key (h ∷ past) (places_in (answers_at order past h))) ∙ or-false (any_takes key (said_at past h))

    from : (any_takes key (messages_of order past) ≡ true → Withdraws key past) → (any_takes key (messages_of order past) ≡ true) ⊎ (any_takes key (messages_at order past h) ≡ true) → Withdraws key (h ∷ past)
    from before (inl was) = let it = before was in record { more = h ∷ it.more; by = it.by; past = it.past; whole = ap (λ all. h ∷ all) it.whole }
    from before (inr now) = withdraws_now key past h (sym said ∙ now)

-- ---- and by MCP's it was given up

only_mcp : (by : Cancels) → has_cancels by (Some Mcp) ≡ true → by ≡ Mcp
only_mcp Lsp h = absurd (cc)
only_mcp Mcp h = refl

waiting_then : (a b c : Bool) → first_of ((not (a && b && c), NotWaiting) ∷ []) ≡ None → (a ≡ true) × (b ≡ true)
waiting_then true true c h = (refl, refl)
waiting_then true false c h = absurd (cc)
waiting_then false b c h = absurd (cc)

given_up_by : (key : ℕ) (history : History) → IsLawful (Some Mcp) history → Withdraws key history → IsEnded key history given_up
given_up_by key history lawful it =
    let then = lawful_before (Some Mcp) it.more (withdrew it.by key ∷ it.past) (subst (IsLawful (Some Mcp)) it.whole lawful) in
    let parts = waiting_then (has_cancels it.by (Some Mcp)) (is_waiting key it.past) (not (is_withdrawn key it.past)) then.0 in
    let mcp = only_mcp it.by parts.0 in
    let w = waits key it.past parts.1 in
    record {
      more = it.more;
      happening = withdrew Mcp key;
      past = it.past;
      whole = it.whole ∙ ap (λ by. it.more ++ withdrew by key ∷ it.past) mcp;
      waited = parts.1;
      caller = w.number;
      made = w.caller;
      is = ap (λ b. cond b (Some given_up) None) (same_test key key refl);
    }

-- a request that the other host has left without an answer was given up
pub left_given_up : (conversation : Option Cancels) (order : Order) (ours theirs : History) (key number : ℕ) → IsLawful conversation ours → IsHeard (messages_of order ours) theirs → request_id number (stream theirs) ≡ Some (Unsigned key)
    → IsLeft conversation number theirs → IsEnded key ours given_up
left_given_up conversation order ours theirs key number lawful heard request left =
    let all : cancels (Some (Unsigned key)) (stream theirs) ≡ true = any_cancel (Some (Unsigned key)) number (stream theirs) (ap (λ id. cancels id (after_call number (stream theirs))) (sym request) ∙ left.cancelled) in
    let front : any_takes key heard.front ≡ true = sym (messages_cancel key heard.front) ∙ ap (λ us. cancels (Some (Unsigned key)) (entries_along us)) (sym heard.heard) ∙ all in
    let whole : any_takes key (messages_of order ours) ≡ true = ap (any_takes key) heard.whole ∙ takes-append key heard.front heard.rest ∙ ap (λ b. b || any_takes key heard.rest) front in
    given_up_by key ours (subst (λ c. IsLawful c ours) left.cancels lawful) (withdraws key order ours whole)
