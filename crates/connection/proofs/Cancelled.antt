-- To cancel a call is to withdraw the calls of ours that were made on its behalf, and then to answer it.
use Rattle.std.proofs.Common.{◌≡◌, ℕ, ◌+◌, ◌<◌, ◌≤◌, ◌==◌, ◌&&◌, ◌||◌, not, Bool, true, false, cond, if◌then◌else◌, List, [], ◌∷◌, ◌++◌, map, length, Option, Some, None, refl, ap, sym, subst, ◌∙◌, arith}
use Rattle.std.proofs.lemmas.List.{append_assoc, append-nil}
use Rattle.std.specs.Prelude.{⊤, filter, is_some, unwrap_or}
use Rattle.std.specs.Option.{option_map_or}
use Rattle.message_ids.specs.declared.standard.Standard.TheVariants.{Cancelled}
use Rattle.connection_messages.specs.Texts.{withdrawal_text}
use Rattle.connection_messages.specs.declared.answer.Answer.{Answer}
use Rattle.connection_messages.specs.declared.answer.Answer.TheVariants.{Standard}
use Rattle.connection_messages.specs.declared.cancels.Cancels.{Cancels}
use Rattle.connection_messages.specs.declared.cancels.Cancels.TheVariants.{Lsp, Mcp}
use Rattle.connection_history.specs.declared.event.Event.{Event}
use Rattle.connection_history.specs.declared.refused.Refused.TheVariants.{NotOpen, NotWaiting, Empty}
use Rattle.connection_history.specs.Stream.{entries_along, calls_in, is_cancelled}
use Rattle.connection_history.specs.History.{Happening, withdrew, answered, History, units_of, origins_of, stream, ends_wait, close_of as close_in, is_open, key_count, caller_of, is_waiting, is_withdrawn, numbers_to}
use Rattle.connection_history.specs.Refusals.{first_of, by_of, has_cancels, is_left, may_be_left, refusal, IsLawful, after, is_withdrawable, withdrawable, withdrawals, cancel_answer, cancel_of}
use Rattle.connection_history.proofs.Numbers.{numbers_to-rise}
use Rattle.connection_history.proofs.OpenCalls.{open-withdrew}
use Rattle.connection_history.proofs.OurCalls.{key_count-other, caller_of-other}
use Rattle.connection_history.proofs.Rise.{Rise}
use Rattle.connection_history.proofs.Tests.{same, same_test, apart, or_else-none, different, and-left, and-right, not-true}
use Rattle.connection_history.proofs.Waiting.{and-true, and-false, waiting-withdrew}
use Rattle.open_calls.specs.declared.own_call.OwnCall.{OwnCall}
use Rattle.open_calls.specs.declared.their_call.TheirCall.{TheirCall}
use Rattle.open_calls.specs.Numbered.{at}
use Rattle.open_calls.specs.Own.{without_caller}
use Rattle.connection_steps.specs.States.{State, own_call, own_of, theirs_of}
use Rattle.connection_steps.proofs.OwnFound.{withdrawable_found}
use Rattle.connection_steps.proofs.OwnPicked.{picked, picked-agree, filter-picked}
use Rattle.connection_steps.specs.Steps.{withdrawn_by}
use Rattle.connection_steps.proofs.TheirFound.{cancelled_found}
use Rattle.connection_desk.specs.Desks.{Desk, answer_refused, wanted_keys, may_leave, withdrawals_in, is_cancelled as is_cancelled_call, after_saying, after_withdrawal, after_answer, after_cancel}
use Rattle.connection.specs.Settings.{Chosen}
use Rattle.connection.specs.Connections.{Connection, IsGiven, AreTyped, IsDeskOf, StandsAfter}
use Rattle.connection.proofs.Moves.{desk_withdrew, desk_answered}
use Rattle.connection.proofs.Stands.{full_more, closed_is, no_more, ended_still}

abbrev cancel : Answer
cancel = Standard Cancelled

-- ---- whether a call can be answered

-- what a desk refuses is what the history does
cancel_passes : (b : Bool) → (is_left (if b then None else Some cancel) && not b) ≡ false
cancel_passes true = refl
cancel_passes false = refl

pub cancel_refused : (settings : Chosen) (history : History) (told : List Event) (n : ℕ) (d : Desk) → IsDeskOf settings history told d
    → answer_refused n d.state ≡ refusal settings.cancels history (answered n (cancel_answer settings.cancels n history))
cancel_refused settings history told n d is =
    ap (answer_refused n) is.state ∙ ap (λ b. first_of ((b, NotOpen) ∷ [])) (closed_is settings.order history n) ∙ no_more ((n == 0) || not (is_open n history))
    ∙ ap (λ b. first_of (((n == 0) || not (is_open n history), NotOpen) ∷ (b, Empty) ∷ [])) (sym (cancel_passes (may_be_left settings.cancels n history)))

-- ---- the calls that can be withdrawn

-- Calls can be withdrawn, and so can these of n. Their keys go up, from the lowest on.
abbrev pub AreWanted : Option Cancels → ℕ → History → ℕ → List ℕ → Type 0
AreWanted cancels n history lowest [] = ⊤
AreWanted cancels n history lowest (k ∷ ks) =
    (has_cancels (by_of cancels) cancels ≡ true) × (is_withdrawable n history k ≡ true) × (lowest ≤ k) × AreWanted cancels n history (k + 1) ks

wanted-from : (cancels : Option Cancels) (n : ℕ) (history : History) (lower lowest : ℕ) (ks : List ℕ) → lower ≤ lowest
    → AreWanted cancels n history lowest ks → AreWanted cancels n history lower ks
wanted-from cancels n history lower lowest [] h are = tt
wanted-from cancels n history lower lowest (k ∷ ks) h are = let first : lowest ≤ k = are.2 in (are.0, are.1, omega arith, are.3)

module _ (cancels : Option Cancels) (on : has_cancels (by_of cancels) cancels ≡ true) where
  one_wanted : (n : ℕ) (history : History) (lowest k : ℕ) (ks : List ℕ) (b : Bool) → is_withdrawable n history k ≡ b → lowest ≤ k
      → AreWanted cancels n history (k + 1) ks → AreWanted cancels n history lowest (cond b (k ∷ ks) ks)
  one_wanted n history lowest k ks true is within are = (on, is, within, are)
  one_wanted n history lowest k ks false is within are = wanted-from cancels n history lowest (k + 1) ks (omega arith) are

  passing_wanted : (n : ℕ) (history : History) (lowest end : ℕ) (ks : List ℕ) → Rise lowest end ks → AreWanted cancels n history lowest (filter (is_withdrawable n history) ks)
  passing_wanted n history lowest end [] up = tt
  passing_wanted n history lowest end (k ∷ ks) up =
      one_wanted n history lowest k (filter (is_withdrawable n history) ks) (is_withdrawable n history k) refl up.0 (passing_wanted n history (k + 1) end ks up.1)

-- the keys of those that are withdrawn where n is cancelled: without cancels there are none
abbrev pub withdrawn_keys : Option Cancels → ℕ → History → List ℕ
withdrawn_keys cancels n history = if is_some cancels then withdrawable n history else []

its_own : (by : Cancels) → has_cancels by (Some by) ≡ true
its_own Lsp = refl
its_own Mcp = refl

all_wanted : (cancels : Option Cancels) (n : ℕ) (history : History) → AreWanted cancels n history 1 (withdrawn_keys cancels n history)
all_wanted (Some by) n history = passing_wanted (Some by) (its_own by) n history 1 (key_count history + 1) (numbers_to (key_count history)) (numbers_to-rise (key_count history))
all_wanted None n history = tt

-- ---- one of them is withdrawn

waits_wanted : (cancels by waits kept : Bool) → cancels ≡ true → (by && waits && kept) ≡ true → first_of ((not (cancels && waits && kept), NotWaiting) ∷ []) ≡ None
waits_wanted cancels by waits kept on is =
    let waiting_now : waits ≡ true = and-right by waits (and-left (by && waits) kept is) in
    let wanted_still : kept ≡ true = and-right (by && waits) kept is in
    λ i. first_of ((not (on i && waiting_now i && wanted_still i), NotWaiting) ∷ [])

-- it can be
withdraw_allowed : (cancels : Option Cancels) (n : ℕ) (past : History) (k : ℕ) → has_cancels (by_of cancels) cancels ≡ true → is_withdrawable n past k ≡ true
    → refusal cancels past (withdrew (by_of cancels) k) ≡ None
withdraw_allowed cancels n past k on is =
    waits_wanted (has_cancels (by_of cancels) cancels) (option_map_or (λ m. m == n) (caller_of k past) false) (is_waiting k past) (not (is_withdrawn k past)) on is

called_by : (o : Option ℕ) (n : ℕ) → option_map_or (λ m. m == n) o false ≡ true → o ≡ Some n
called_by None n h = absurd (cc)
called_by (Some m) n h = ap Some (same m n h)

-- it was made on behalf of n
caller_is : (n : ℕ) (past : History) (k : ℕ) → is_withdrawable n past k ≡ true → caller_of k past ≡ Some n
caller_is n past k is =
    let by = option_map_or (λ m. m == n) (caller_of k past) false in
    called_by (caller_of k past) n (and-left by (is_waiting k past) (and-left (by && is_waiting k past) (not (is_withdrawn k past)) is))

-- the others wait as before
waiting_other : (k : ℕ) (past : History) (by : Cancels) (j : ℕ) → (j == k) ≡ false → is_waiting k (withdrew by j ∷ past) ≡ is_waiting k past
waiting_other k past by j other =
    waiting-withdrew k past by j ∙ ap (λ b. is_waiting k past && not b) (ap (λ b. ends_wait by && b) other ∙ and-false (ends_wait by)) ∙ and-true (is_waiting k past)

-- and can be withdrawn as before
withdrawable-other : (n : ℕ) (past : History) (by : Cancels) (j k : ℕ) → (j == k) ≡ false → is_withdrawable n (withdrew by j ∷ past) k ≡ is_withdrawable n past k
withdrawable-other n past by j k other =
    λ i. option_map_or (λ m. m == n) (caller_of-other k past (withdrew by j) refl i) false && waiting_other k past by j other i && not (other i || is_withdrawn k past)

wanted-after : (cancels : Option Cancels) (n : ℕ) (past : History) (by : Cancels) (j lowest : ℕ) (ks : List ℕ) → j < lowest
    → AreWanted cancels n past lowest ks → AreWanted cancels n (withdrew by j ∷ past) lowest ks
wanted-after cancels n past by j lowest [] h are = tt
wanted-after cancels n past by j lowest (k ∷ ks) h are =
    let first : lowest ≤ k = are.2 in
    (are.0, withdrawable-other n past by j k (different j k (λ e. omega arith)) ∙ are.1, are.2, wanted-after cancels n past by j (k + 1) ks (omega arith) are.3)

own_call-other : (past : History) (by : Cancels) (j k : ℕ) → (j == k) ≡ false → own_call k (withdrew by j ∷ past) ≡ own_call k past
own_call-other past by j k other =
    λ i. record { caller = unwrap_or (caller_of-other k past (withdrew by j) refl i) 0; is_withdrawn = other i || is_withdrawn k past }

-- a call of another caller is another call
of_another : (n : ℕ) (past : History) (j k : ℕ) → caller_of j past ≡ Some n → (is_waiting k past && not (unwrap_or (caller_of k past) 0 == n)) ≡ true → (j == k) ≡ false
of_another n past j k made passes =
    let no : (unwrap_or (caller_of k past) 0 == n) ≡ false = not-true (unwrap_or (caller_of k past) 0 == n) (and-right (is_waiting k past) (not (unwrap_or (caller_of k past) 0 == n)) passes) in
    different j k (λ e. apart (unwrap_or (caller_of k past) 0) n no (ap (λ l. unwrap_or (caller_of l past) 0) (sym e) ∙ ap (λ o. unwrap_or o 0) made))

-- whether a call is one of the others that wait is as before
kept_test : (n : ℕ) (past : History) (by : Cancels) (j k : ℕ) (b : Bool) → caller_of j past ≡ Some n → (j == k) ≡ b
    → (is_waiting k (withdrew by j ∷ past) && not (unwrap_or (caller_of k (withdrew by j ∷ past)) 0 == n)) ≡ (is_waiting k past && not (unwrap_or (caller_of k past) 0 == n))
kept_test n past by j k false made other =
    λ i. waiting_other k past by j other i && not (unwrap_or (caller_of-other k past (withdrew by j) refl i) 0 == n)
kept_test n past by j k true made is =
    let its : caller_of k past ≡ Some n = ap (λ l. caller_of l past) (sym (same j k is)) ∙ made in
    let own : (unwrap_or (caller_of k past) 0 == n) ≡ true = ap (λ o. unwrap_or o 0 == n) its ∙ same_test n n refl in
    let now = is_waiting k (withdrew by j ∷ past) in
    ap (λ o. now && not (unwrap_or o 0 == n)) (caller_of-other k past (withdrew by j) refl)
    ∙ ap (λ b. now && not b) own ∙ and-false now ∙ sym (ap (λ b. is_waiting k past && not b) own ∙ and-false (is_waiting k past))

-- a withdrawal of a call of n leaves the calls of all others as they are
others_kept : (n : ℕ) (past : History) (by : Cancels) (j : ℕ) → caller_of j past ≡ Some n
    → without_caller n (own_of (withdrew by j ∷ past)).waiting ≡ without_caller n (own_of past).waiting
others_kept n past by j made =
    let now = withdrew by j ∷ past in
    filter-picked (λ e. not (e.1.caller == n)) (λ k. is_waiting k now) (λ k. own_call k now) (key_count now)
    ∙ ap (picked (λ k. is_waiting k now && not ((own_call k now).caller == n)) (λ k. own_call k now)) (key_count-other past (withdrew by j) refl)
    ∙ picked-agree (λ k. is_waiting k now && not ((own_call k now).caller == n)) (λ k. is_waiting k past && not ((own_call k past).caller == n))
    (λ k. own_call k now) (λ k. own_call k past) (key_count past)
    (λ k some within. kept_test n past by j k (j == k) made refl)
    (λ k some within passes. own_call-other past by j k (of_another n past j k made passes))
    ∙ sym (filter-picked (λ e. not (e.1.caller == n)) (λ k. is_waiting k past) (λ k. own_call k past) (key_count past))

-- ---- all of them are

-- Calls of n were withdrawn since, and nothing else happened.
pub record OnlyWithdrew (cancels : Option Cancels) (n : ℕ) (past now : History) : Type 0 where
  pub lawful : IsLawful cancels now
  pub units : units_of now ≡ units_of past
  pub origins : origins_of now ≡ origins_of past
  pub closes : close_in now ≡ close_in past
  pub opened : is_open n now ≡ is_open n past
  pub others : without_caller n (own_of now).waiting ≡ without_caller n (own_of past).waiting

withdrew_all : (cancels : Option Cancels) (n : ℕ) (past : History) (lowest : ℕ) (ks : List ℕ) → IsLawful cancels past → AreWanted cancels n past lowest ks
    → OnlyWithdrew cancels n past (after past (map (withdrew (by_of cancels)) ks))
withdrew_all cancels n past lowest [] lawful are = record { lawful = lawful; units = refl; origins = refl; closes = refl; opened = refl; others = refl }
withdrew_all cancels n past lowest (k ∷ ks) lawful are =
    let by = by_of cancels in
    let rest = withdrew_all cancels n (withdrew by k ∷ past) (k + 1) ks (withdraw_allowed cancels n past k are.0 are.1, lawful) (wanted-after cancels n past by k (k + 1) ks (omega arith) are.3) in
    record {
      lawful = rest.lawful;
      units = rest.units ∙ append-nil (units_of past);
      origins = rest.origins ∙ append-nil (origins_of past);
      closes = rest.closes ∙ or_else-none (close_in past);
      opened = rest.opened ∙ open-withdrew n past by k;
      others = rest.others ∙ others_kept n past by k (caller_is n past k are.1);
    }

-- what is said is such as its types hold: of withdrawals that is nothing
typed_still : (by : Cancels) (past : History) (ks : List ℕ) → AreTyped past → AreTyped (after past (map (withdrew by) ks))
typed_still by past [] typed = typed
typed_still by past (k ∷ ks) typed = typed_still by (withdrew by k ∷ past) ks (tt, typed)

cancel_typed : (b : Bool) → IsGiven (if b then None else Some cancel)
cancel_typed true = tt
cancel_typed false = tt

-- the calls with these keys are withdrawn
abbrev pub all_withdrawn : Cancels → List ℕ → List (ℕ × OwnCall) → List (ℕ × OwnCall)
all_withdrawn by [] waiting = waiting
all_withdrawn by (k ∷ ks) waiting = all_withdrawn by ks (withdrawn_by by k waiting)

-- a desk with other calls of ours, and with texts after its own
abbrev pub with_waiting : List (ℕ × OwnCall) → Desk → Desk
with_waiting waiting d = record {
  cancels = d.cancels;
  order = d.order;
  state = record { own = record { made = d.state.own.made; waiting = waiting }; theirs = d.state.theirs; owed = d.state.owed; is_over = d.state.is_over };
  untold = d.untold;
  out = d.out;
  tally = d.tally;
}

abbrev pub with_written : List (List ℕ) → Desk → Desk
with_written written d = record {
  cancels = d.cancels;
  order = d.order;
  state = d.state;
  untold = d.untold;
  out = record { framing = d.out.framing; written = written; taken = d.out.taken };
  tally = d.tally;
}

abbrev pub after_withdrawals : List ℕ → Desk → Desk
after_withdrawals ks d =
    with_waiting (all_withdrawn (by_of d.cancels) ks d.state.own.waiting) (with_written (d.out.written ++ map (withdrawal_text (by_of d.cancels)) ks) d)

desk_withdrew_all : (settings : Chosen) (n : ℕ) (past : History) (told : List Event) (lowest : ℕ) (ks : List ℕ) (d : Desk) → IsDeskOf settings past told d
    → AreWanted settings.cancels n past lowest ks → IsDeskOf settings (after past (map (withdrew (by_of settings.cancels)) ks)) told (after_withdrawals ks d)
desk_withdrew_all settings n past told lowest [] d is are =
    subst (IsDeskOf settings past told) (ap (λ ts. with_written ts d) (sym (append-nil d.out.written))) is
desk_withdrew_all settings n past told lowest (k ∷ ks) d is are =
    let by = by_of settings.cancels in
    let named = by_of d.cancels in
    let rest = desk_withdrew_all settings n (withdrew by k ∷ past) told (k + 1) ks (after_withdrawal k d) (desk_withdrew settings past told k d is)
    (wanted-after settings.cancels n past by k (k + 1) ks (omega arith) are.3) in
    subst (IsDeskOf settings (after (withdrew by k ∷ past) (map (withdrew by) ks)) told)
    (ap (λ ts. with_waiting (all_withdrawn named (k ∷ ks) d.state.own.waiting) (with_written ts d)) (append_assoc d.out.written (withdrawal_text named k ∷ []) (map (withdrawal_text named) ks)))
    rest

-- ---- and the call is answered, or closed without an answer

after-append : (history : History) (hs more : List Happening) → after history (hs ++ more) ≡ after (after history hs) more
after-append history [] more = refl
after-append history (h ∷ hs) more = after-append (h ∷ history) hs more

withdrawals-are : (cancels : Option Cancels) (n : ℕ) (history : History) → withdrawals cancels n history ≡ map (withdrew (by_of cancels)) (withdrawn_keys cancels n history)
withdrawals-are None n history = refl
withdrawals-are (Some by) n history = refl

after-cancel_of : (cancels : Option Cancels) (n : ℕ) (history : History)
    → after history (cancel_of cancels n history) ≡ answered n (cancel_answer cancels n history) ∷ after history (map (withdrew (by_of cancels)) (withdrawn_keys cancels n history))
after-cancel_of cancels n history =
    after-append history (withdrawals cancels n history) (answered n (cancel_answer cancels n history) ∷ [])
    ∙ ap (λ hs. answered n (cancel_answer cancels n history) ∷ after history hs) (withdrawals-are cancels n history)

-- what a desk says where it cancels n
texts_as : (cancels : Option Cancels) (n : ℕ) (s : State) → withdrawals_in cancels n s ≡ map (withdrawal_text (by_of cancels)) (if is_some cancels then wanted_keys n s else [])
texts_as None n s = refl
texts_as (Some by) n s = refl

texts_said : (settings : Chosen) (history : History) (told : List Event) (n : ℕ) (d : Desk) → IsDeskOf settings history told d
    → withdrawals_in d.cancels n d.state ≡ map (withdrawal_text (by_of d.cancels)) (withdrawn_keys settings.cancels n history)
texts_said settings history told n d is =
    let texts = map (withdrawal_text (by_of d.cancels)) in
    texts_as d.cancels n d.state
    ∙ ap (λ c. texts (if is_some c then wanted_keys n d.state else [])) is.cancels
    ∙ ap (λ s. texts (if is_some settings.cancels then wanted_keys n s else [])) is.state
    ∙ ap (λ ks. texts (if is_some settings.cancels then ks else [])) (sym (withdrawable_found history n))

-- whether it needs no answer
leaves_if : (o : Option TheirCall) (hit : Bool) → is_some o ≡ true → ((call : TheirCall) → o ≡ Some call → call.is_cancelled ≡ hit) → is_cancelled_call o ≡ hit
leaves_if None hit is same = absurd (cc)
leaves_if (Some call) hit is same = same call refl

open_there : (b : Bool) → first_of ((not b, NotOpen) ∷ []) ≡ None → b ≡ true
open_there true h = refl
open_there false h = absurd (cc)

leaves_alike : (settings : Chosen) (history : History) (told : List Event) (n : ℕ) (d : Desk) → IsDeskOf settings history told d → answer_refused n d.state ≡ None
    → may_leave d.cancels n d.state ≡ may_be_left settings.cancels n history
leaves_alike settings history told n d is allowed =
    let there : is_some (at n (theirs_of history).calls) ≡ true = open_there (is_some (at n (theirs_of history).calls)) (sym (ap (answer_refused n) is.state) ∙ allowed) in
    ap (λ c. may_leave c n d.state) is.cancels ∙ ap (may_leave settings.cancels n) is.state
    ∙ ap (λ b. has_cancels Mcp settings.cancels && b) (leaves_if (at n (theirs_of history).calls) (is_cancelled n (stream history)) there (cancelled_found history n))

-- once n is answered, none of its calls is left, withdrawn or not
answered_same : (n : ℕ) (a : Option Answer) (ks : List ℕ) (d : Desk) → without_caller n (all_withdrawn (by_of d.cancels) ks d.state.own.waiting) ≡ without_caller n d.state.own.waiting
    → after_answer n a (after_withdrawals ks d) ≡ after_answer n a (after_saying (map (withdrawal_text (by_of d.cancels)) ks) d)
answered_same n a ks d others = ap (λ waiting. with_waiting waiting (after_answer n a (after_saying (map (withdrawal_text (by_of d.cancels)) ks) d))) others

allowed_still : (cancels : Option Cancels) (n : ℕ) (a : Option Answer) (past now : History) → OnlyWithdrew cancels n past now → refusal cancels past (answered n a) ≡ None
    → IsLawful cancels (answered n a ∷ now)
allowed_still cancels n a past now only allowed = (
  (λ i. first_of (
      (n == 0 || not (only.opened i), NotOpen) ∷ (is_left a && not (has_cancels Mcp cancels && is_cancelled n (entries_along (only.units i))), Empty) ∷ []
      )) ∙ allowed,
  only.lawful,
)

desk_cancelled : (settings : Chosen) (history : History) (told : List Event) (n : ℕ) (d : Desk) → IsDeskOf settings history told d
    → IsLawful settings.cancels history → refusal settings.cancels history (answered n (cancel_answer settings.cancels n history)) ≡ None
    → IsDeskOf settings (answered n (cancel_answer settings.cancels n history) ∷ after history (map (withdrew (by_of settings.cancels)) (withdrawn_keys settings.cancels n history))) told
    (after_answer n (cancel_answer settings.cancels n history) (after_saying (withdrawals_in d.cancels n d.state) d))
desk_cancelled settings history told n d is lawful allowed =
    let cancels = settings.cancels in
    let a = cancel_answer cancels n history in
    let ks = withdrawn_keys cancels n history in
    let now = after history (map (withdrew (by_of cancels)) ks) in
    let wanted = all_wanted cancels n history in
    let only = withdrew_all cancels n history 1 ks lawful wanted in
    let marked = desk_withdrew_all settings n history told 1 ks d is wanted in
    let others : without_caller n (all_withdrawn (by_of d.cancels) ks d.state.own.waiting) ≡ without_caller n d.state.own.waiting =
    ap (λ (s : State). without_caller n s.own.waiting) marked.state ∙ only.others ∙ sym (ap (λ (s : State). without_caller n s.own.waiting) is.state) in
    subst (IsDeskOf settings (answered n a ∷ now) told)
    (answered_same n a ks d others ∙ ap (λ ts. after_answer n a (after_saying ts d)) (sym (texts_said settings history told n d is)))
    (desk_answered cancels settings now told n a (after_withdrawals ks d) marked (allowed_still cancels n a history now only allowed))

-- the connection stands after the withdrawals and the answer
stands_cancelled : (c : Connection) (history : History) (told : List Event) (n : ℕ) → StandsAfter c history told
    → refusal c.settings.cancels history (answered n (cancel_answer c.settings.cancels n history)) ≡ None
    → StandsAfter (record { settings = c.settings; stream = c.stream; desk = after_answer n (cancel_answer c.settings.cancels n history) (after_saying (withdrawals_in c.desk.cancels n c.desk.state) c.desk) })
    (answered n (cancel_answer c.settings.cancels n history) ∷ after history (map (withdrew (by_of c.settings.cancels)) (withdrawn_keys c.settings.cancels n history))) told
stands_cancelled c history told n stands allowed =
    let cancels = c.settings.cancels in
    let a = cancel_answer cancels n history in
    let ks = withdrawn_keys cancels n history in
    let now = after history (map (withdrew (by_of cancels)) ks) in
    let only = withdrew_all cancels n history 1 ks stands.lawful (all_wanted cancels n history) in
    let units : units_of (answered n a ∷ now) ≡ units_of history = append-nil (units_of now) ∙ only.units in
    let said = after_saying (withdrawals_in c.desk.cancels n c.desk.state) c.desk in
    record {
      lawful = allowed_still cancels n a history now only allowed;
      typed = (cancel_typed (may_be_left cancels n history), typed_still (by_of cancels) history ks stands.typed);
      calls = subst (λ m. m ≤ c.settings.calls) (sym (ap (λ us. length (calls_in (entries_along us))) units)) stands.calls;
      stream = record {
        framing = stands.stream.framing;
        limit = stands.stream.limit;
        taken = stands.stream.taken ∙ ap length (sym units);
        came = units ∙ stands.stream.came;
        origins = append-nil (origins_of now) ∙ only.origins ∙ stands.stream.origins;
      };
      ended = ended_still c.settings c.stream history (answered n a ∷ now) units (or_else-none (close_in now) ∙ only.closes) stands.ended;
      desk = desk_cancelled c.settings history told n c.desk stands.desk stands.lawful allowed;
      taken = full_more c.desk.out.framing said.out.written _ c.desk.out.taken (full_more c.desk.out.framing c.desk.out.written _ c.desk.out.taken stands.taken);
    }

-- where the desk cancels n, nothing is refused, and the connection stands after what a cancel is
pub cancelled : (c : Connection) (history : History) (told : List Event) (n : ℕ) (e : Desk) → StandsAfter c history told
    → (answer_refused n c.desk.state ≡ None) × (e ≡ after_cancel n c.desk)
    → (refusal c.settings.cancels history (answered n (cancel_answer c.settings.cancels n history)) ≡ None)
    × StandsAfter (record { settings = c.settings; stream = c.stream; desk = e }) (after history (cancel_of c.settings.cancels n history)) told
cancelled c history told n e stands done =
    let cancels = c.settings.cancels in
    let allowed : refusal cancels history (answered n (cancel_answer cancels n history)) ≡ None = sym (cancel_refused c.settings history told n c.desk stands.desk) ∙ done.0 in
    let stood = stands_cancelled c history told n stands allowed in
    let desk : after_answer n (cancel_answer cancels n history) (after_saying (withdrawals_in c.desk.cancels n c.desk.state) c.desk) ≡ e =
    ap (λ b. after_answer n (if b then None else Some cancel) (after_saying (withdrawals_in c.desk.cancels n c.desk.state) c.desk)) (sym (leaves_alike c.settings history told n c.desk stands.desk done.0)) ∙ sym done.1 in (
      allowed,
      subst (λ d. StandsAfter (record { settings = c.settings; stream = c.stream; desk = d }) (after history (cancel_of cancels n history)) told) desk
          (subst (λ h. StandsAfter (record { settings = c.settings; stream = c.stream; desk = after_answer n (cancel_answer cancels n history) (after_saying (withdrawals_in c.desk.cancels n c.desk.state) c.desk) }) h told)
          (sym (after-cancel_of cancels n history)) stood),
    )
