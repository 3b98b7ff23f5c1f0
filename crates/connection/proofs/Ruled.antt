-- A host that keeps the rules is refused only where it can't know better.
use Rattle.std.proofs.Common.{◌≡◌, ℕ, zero, suc, ◌+◌, ◌<◌, ◌==◌, ◌&&◌, ◌||◌, not, nat_lt, Bool, true, false, List, [], ◌∷◌, length, Option, Some, None, refl, sym, ap, subst, ◌∙◌, arith}
use Rattle.std.proofs.lemmas.Bool.Decides.{nat_tests}
use Rattle.std.specs.Prelude.{is_some}
use Rattle.std.specs.Option.{option_map_or, is_none}
use Rattle.message_ids.specs.declared.standard.Standard.TheVariants.{Cancelled}
use Rattle.connection_messages.specs.declared.answer.Answer.{Answer}
use Rattle.connection_messages.specs.declared.answer.Answer.TheVariants.{Standard}
use Rattle.connection_messages.specs.declared.call.Call.{Call}
use Rattle.connection_messages.specs.declared.cancels.Cancels.{Cancels}
use Rattle.connection_messages.specs.declared.cancels.Cancels.TheVariants.{Lsp, Mcp}
use Rattle.connection_messages.specs.declared.reply.Reply.{Reply}
use Rattle.connection_history.specs.declared.event.Event.{Event}
use Rattle.connection_history.specs.declared.refused.Refused.{Refused}
use Rattle.connection_history.specs.declared.refused.Refused.TheVariants.{Memory, NotOpen, NotWaiting, Over, Empty, Full}
use Rattle.connection_history.specs.History.{Happening, came, called, called_all, noticed, withdrew, answered, ended, History, answer_to, caller_of, reply_to, ends_wait, gives_up, is_given_up, is_open, is_over, withdraws, is_withdrawn, key_count}
use Rattle.connection_history.specs.Refusals.{first_of, most_keys, has_cancels, may_be_left, call_refusal, refusal}
use Rattle.connection_history.specs.Told.{IsTold}
use Rattle.connection.specs.Connections.{IsRefusal}
use Rattle.connection.specs.Rules.{IsFor, IsAwaited, KeepsRules, IsExcused, memory, over, all_over, waits_no_more, replied, full, all_full}

-- What the laws of histories say: a call that was told and isn't answered is open, and an answer to it isn't refused.
pub record RuleLaws : Type 0 where
  pub told_open : (history : History) (told : List Event) (number : ℕ) (call : Call) → IsTold history told number call → answer_to number history ≡ None → is_open number history ≡ true
  pub answer_allowed : (cancels : Option Cancels) (history : History) (told : List Event) (number : ℕ) (call : Call) (given : Answer) → IsTold history told number call → answer_to number history ≡ None
      → refusal cancels history (answered number (Some given)) ≡ None

-- ---- a call that is held is open

for_open : RuleLaws → (history : History) (told : List Event) (n : ℕ) → IsFor history told n → is_open n history ≡ true
for_open laws history told zero held = refl
for_open laws history told (suc n) held = laws.told_open history told (suc n) held.call held.is_told held.unanswered

-- ---- what isn't withdrawn isn't given up

no_more : (ends it : Bool) → it ≡ false → (ends && it) ≡ false
no_more true it is = is
no_more false it is = refl

left_false : (a b : Bool) → (a || b) ≡ false → a ≡ false
left_false true b h = absurd (cc)
left_false false b h = refl

right_false : (a b : Bool) → (a || b) ≡ false → b ≡ false
right_false true b h = absurd (cc)
right_false false b h = h

wanted_here : (k : ℕ) (h : Happening) → withdraws k h ≡ false → gives_up k h ≡ false
wanted_here k (came o u) is = refl
wanted_here k (called n o) is = refl
wanted_here k (called_all n os) is = refl
wanted_here k (noticed o) is = refl
wanted_here k (withdrew by j) is = no_more (ends_wait by) (j == k) is
wanted_here k (answered n a) is = refl
wanted_here k (ended close) is = refl

still_wanted : (k : ℕ) (history : History) → is_withdrawn k history ≡ false → is_given_up k history ≡ false
still_wanted k [] is = refl
still_wanted k (h ∷ past) is =
    let here = wanted_here k h (left_false (withdraws k h) (is_withdrawn k past) is) in
    let before = still_wanted k past (right_false (withdraws k h) (is_withdrawn k past) is) in
    λ i. (here i && is_some (caller_of k past)) || before i

-- ---- refusals of calls

abbrev Calls : History → ℕ → (Refused → Type 0) → Type 0
Calls history count P = (is_over history ≡ true → P Over) × (most_keys < key_count history + count → P Full)

refused_by : (opened stopped empty many : Bool) (why : Refused) (P : Refused → Type 0) → opened ≡ true → empty ≡ false → (stopped ≡ true → P Over) → (many ≡ true → P Full)
    → first_of ((not opened, NotOpen) ∷ (stopped, Over) ∷ (empty, Empty) ∷ (many, Full) ∷ []) ≡ Some why → P why
refused_by false stopped empty many why P opened some at_end at_most is = absurd (cc)
refused_by true true empty many why P opened some at_end at_most is = let same : Over ≡ why = cc in subst P same (at_end refl)
refused_by true false true many why P opened some at_end at_most is = absurd (cc)
refused_by true false false true why P opened some at_end at_most is = let same : Full ≡ why = cc in subst P same (at_most refl)
refused_by true false false false why P opened some at_end at_most is = absurd (cc)

call_excused : (history : History) (n count : ℕ) (why : Refused) (P : Refused → Type 0) → is_open n history ≡ true → 0 < count → (is_over history ≡ true → P Over) → (most_keys < key_count history + count → P Full)
    → call_refusal history n count ≡ Some why → P why
call_excused history n count why P opened some at_end at_most is =
    let one : (count == 0) ≡ false = grind (arith, nat_tests) in
    refused_by (is_open n history) (is_over history) (count == 0) (nat_lt most_keys (key_count history + count)) why P opened one at_end
    (λ many. at_most (grind (arith, nat_tests))) is

-- ---- refusals of withdrawals

own : (cancels : Option Cancels) (by : Cancels) → cancels ≡ Some by → has_cancels by cancels ≡ true
own cancels Lsp is = ap (has_cancels Lsp) is
own cancels Mcp is = ap (has_cancels Mcp) is

waits_unless : (caller : Option ℕ) (number : ℕ) (opened : ℕ → Bool) (reply : Option Reply) (stopped given withdrawn had : Bool) (why : Refused) (P : Refused → Type 0)
    → caller ≡ Some number → opened number ≡ true → given ≡ false → withdrawn ≡ false → had ≡ true → ((r : Reply) → reply ≡ Some r → P NotWaiting) → (stopped ≡ true → P NotWaiting)
    → first_of ((not (had && (option_map_or opened caller false && is_none reply && not stopped && not given) && not withdrawn), NotWaiting) ∷ []) ≡ Some why → P why
waits_unless None number opened reply stopped given withdrawn had why P made open_still kept wanted has came_reply at_end is = absurd (cc)
waits_unless (Some m) number opened reply stopped true withdrawn had why P made open_still kept wanted has came_reply at_end is = absurd (cc)
waits_unless (Some m) number opened reply stopped false true had why P made open_still kept wanted has came_reply at_end is = absurd (cc)
waits_unless (Some m) number opened reply stopped false false false why P made open_still kept wanted has came_reply at_end is = absurd (cc)
waits_unless (Some m) number opened (Some r) stopped false false true why P made open_still kept wanted has came_reply at_end is = go (opened m) is
  where
    go : (b : Bool) → first_of ((not (true && (b && false && not stopped && true) && true), NotWaiting) ∷ []) ≡ Some why → P why
    go true same = let it : NotWaiting ≡ why = cc in subst P it (came_reply r refl)
    go false same = let it : NotWaiting ≡ why = cc in subst P it (came_reply r refl)
waits_unless (Some m) number opened None true false false true why P made open_still kept wanted has came_reply at_end is = go (opened m) is
  where
    go : (b : Bool) → first_of ((not (true && (b && true && false && true) && true), NotWaiting) ∷ []) ≡ Some why → P why
    go true same = let it : NotWaiting ≡ why = cc in subst P it (at_end refl)
    go false same = let it : NotWaiting ≡ why = cc in subst P it (at_end refl)
waits_unless (Some m) number opened None false false false true why P made open_still kept wanted has came_reply at_end is =
    let same : m ≡ number = cc in
    let still : opened m ≡ true = ap opened same ∙ open_still in
    let no : None ≡ Some why = ap (λ b. first_of ((not (true && (b && true && true && true) && true), NotWaiting) ∷ [])) (sym still) ∙ is in
    absurd (cc)

withdrawal_excused : RuleLaws → (cancels : Option Cancels) (history : History) (told : List Event) (by : Cancels) (k : ℕ) (why : Refused) → cancels ≡ Some by → IsAwaited history told k
    → refusal cancels history (withdrew by k) ≡ Some why → IsExcused history (withdrew by k) why
withdrawal_excused laws cancels history told by k why has awaited is =
    waits_unless (caller_of k history) awaited.number (λ n. is_open n history) (reply_to k history) (is_over history) (is_given_up k history) (is_withdrawn k history) (has_cancels by cancels) why (IsExcused history (withdrew by k))
    awaited.made (for_open laws history told awaited.number awaited.held) (still_wanted k history awaited.wanted) awaited.wanted (own cancels by has) (λ r came_reply. replied by k r came_reply) (λ at_end. waits_no_more by k at_end) is

-- ---- refusals of answers

left_allowed : (opened host left : Bool) → first_of ((host || not opened, NotOpen) ∷ (false, Empty) ∷ []) ≡ None → left ≡ true → first_of ((host || not opened, NotOpen) ∷ (true && not left, Empty) ∷ []) ≡ None
left_allowed opened host true allowed is = allowed
left_allowed opened host false allowed is = absurd (cc)

none_refused : {P : Type 0} (o : Option Refused) (why : Refused) → o ≡ None → o ≡ Some why → P
none_refused o why none some = absurd (let no : None ≡ Some why = sym none ∙ some in cc)

excused_by : RuleLaws → (cancels : Option Cancels) (history : History) (told : List Event) (h : Happening) (why : Refused) → KeepsRules cancels history told h → refusal cancels history h ≡ Some why → IsExcused history h why
excused_by laws cancels history told (came o u) why keeps is = absurd keeps
excused_by laws cancels history told (called n o) why keeps is =
    call_excused history n 1 why (IsExcused history (called n o)) (for_open laws history told n keeps.0) (omega arith) (over n o) (full n o) is
excused_by laws cancels history told (called_all n os) why keeps is =
    call_excused history n (length os) why (IsExcused history (called_all n os)) (for_open laws history told n keeps.0) keeps.2 (all_over n os) (all_full n os) is
excused_by laws cancels history told (noticed o) why keeps is = absurd (cc)
excused_by laws cancels history told (withdrew by k) why keeps is = withdrawal_excused laws cancels history told by k why keeps.0 keeps.1 is
excused_by laws cancels history told (answered n (Some a)) why keeps is =
    none_refused (refusal cancels history (answered n (Some a))) why (laws.answer_allowed cancels history told n keeps.call a keeps.is_told keeps.unanswered) is
excused_by laws cancels history told (answered n None) why keeps is =
    none_refused (refusal cancels history (answered n None)) why
    (left_allowed (is_open n history) (n == 0) (may_be_left cancels n history) (laws.answer_allowed cancels history told n keeps.0.call (Standard Cancelled) keeps.0.is_told keeps.0.unanswered) keeps.1) is
excused_by laws cancels history told (ended close) why keeps is = absurd keeps

-- a refusal is for memory only where no rule refuses
by_rule_or_memory : (rule : Option Refused) (why : Refused) (P : Refused → Type 0) → IsRefusal why rule → P Memory → (rule ≡ Some why → P why) → P why
by_rule_or_memory None why P is at_memory by_rule = subst P (sym is) at_memory
by_rule_or_memory (Some r) why P is at_memory by_rule = by_rule (ap Some (sym is))

pub excused : RuleLaws → (cancels : Option Cancels) (history : History) (told : List Event) (h : Happening) (why : Refused) → KeepsRules cancels history told h → IsRefusal why (refusal cancels history h) → IsExcused history h why
excused laws cancels history told h why keeps is =
    by_rule_or_memory (refusal cancels history h) why (IsExcused history h) is (memory h) (excused_by laws cancels history told h why keeps)
