-- Worked rows: what isn't an output of contents.
use Rattle.std.proofs.Common.{◌≡◌, ℕ, zero, suc, ◌<◌, ◌≤◌, List, [], ◌∷◌, length, codes, Bool, true, false, not, ◌&&◌, Some, ◌⊎◌, inl, inr, refl, sym, ap, ◌∙◌, arith}
use Rattle.std.proofs.lemmas.Bool.{cases_lt}
use Rattle.std.proofs.lemmas.List.Elements.{All-head}
use Rattle.std.specs.Fmt.{digits}
use Rattle.std.specs.Str.{is_utf8, chars}
use Rattle.serde_json.proofs.OnLiterals.{serde_json_on_literals}
use Rattle.rpc_messages.specs.Dues.{Due}
use Rattle.rpc_messages.specs.Entry.{SeenEntry}
use Rattle.rpc_messages.specs.Numbering.{numbers_in}
use Rattle.rpc_messages.specs.Replies.{entries_along}
use Rattle.rpc_messages.specs.Unit.{SeenUnit, unit_of}
use Rattle.method_steps.specs.Steps.{MethodTable}
use Rattle.handler_future.specs.declared.message.Message.{Message}
use Rattle.handler_future.specs.declared.message.Message.TheVariants as messages
use Rattle.peer_output.specs.Course.{Sending, Course, course, message, withdrawal}
use Rattle.peer_output.specs.Cancelled.{is_cancelled, IsCancelledCourse}
use Rattle.peer_output.specs.Items.{Item, sent, sent_by, answers_in}
use Rattle.peer_output.specs.Output.{IsOutput, due_answers}
use Rattle.peer_output.proofs.Laws.{the_answers, the_sendings}
use Rattle.peer_output.proofs.Streams.{cancelled-known}
use Rattle.peer_output.proofs.Rows.Shown.{contents}
use Rattle.peer_output.proofs.Rows.Table.{row_table, opening_table, one, confirm, plainly, called, withdrawn, answers}
use Rattle.peer_output.proofs.Rows.Texts.{ask, add, yes, no, cancel, cancel_text, said_yes, said_no, no_reply, cancelled, sum_told}

-- ---- where no cancel reaches anything, by computation

abbrev none_reached : List SeenEntry → ℕ → Bool
none_reached entries zero = not (is_cancelled entries zero)
none_reached entries (suc n) = not (is_cancelled entries (suc n)) && none_reached entries n

not_both : (a b : Bool) → (not a && b) ≡ true → a ≡ true → ⊥
not_both true b h k = cc
not_both false b h k = cc

not_true : (a : Bool) → not a ≡ true → a ≡ true → ⊥
not_true true h k = cc
not_true false h k = cc

behind : (a b : Bool) → (not a && b) ≡ true → b ≡ true
behind true b h = cc
behind false b h = h

reached_by : (entries : List SeenEntry) (bound n : ℕ) → none_reached entries (suc bound) ≡ true → (n ≤ bound → is_cancelled entries n ≡ true → ⊥)
    → n ≤ suc bound → (n < suc bound) ⊎ (suc bound ≤ n) → is_cancelled entries n ≡ true → ⊥
reached_by entries bound n h below le (inl lt) is = below (omega arith) is
reached_by entries bound n h below le (inr ge) is =
    let same : n ≡ suc bound = omega arith in
    not_both (is_cancelled entries (suc bound)) (none_reached entries bound) h (ap (is_cancelled entries) (sym same) ∙ is)

not_reached : (entries : List SeenEntry) (bound n : ℕ) → none_reached entries bound ≡ true → n ≤ bound → is_cancelled entries n ≡ true → ⊥
not_reached entries zero zero h le is = not_true (is_cancelled entries zero) h is
not_reached entries zero (suc n) h le is = absurd (omega arith)
not_reached entries (suc bound) n h le is =
    reached_by entries bound n h (not_reached entries bound n (behind (is_cancelled entries (suc bound)) (none_reached entries bound) h)) le (cases_lt n (suc bound)) is

module _ (table : MethodTable) (units : List SeenUnit) (none : none_reached (entries_along units) (numbers_in (entries_along units)) ≡ true) where
  none_cancelled : (n : ℕ) (c : Course) → IsCancelledCourse table (entries_along units) n c → ⊥
  none_cancelled n c h = not_reached (entries_along units) (numbers_in (entries_along units)) n none (cancelled-known (entries_along units) n h.reached) h.reached

  its_answers : (items : List Item) → IsOutput table units items → answers_in items ≡ due_answers (course table (entries_along units)) units
  its_answers = the_answers table units none_cancelled

  its_sendings : (items : List Item) → IsOutput table units items → (n : ℕ) → sent_by n items ≡ (course table (entries_along units) n).sends
  its_sendings = the_sendings table units none_cancelled

-- ---- what tells two outputs apart

abbrev Equal : ℕ → ℕ → Type 0
Equal a b = a ≡ b

abbrev first_length : List Due → ℕ
first_length [] = 0
first_length (due ∷ dues) = length due.text

abbrev first_request : List ℕ → ℕ
first_request [] = 0
first_request (n ∷ ns) = n

abbrev first_due : List Due → ℕ
first_due [] = 0
first_due (due ∷ dues) = first_request due.requests

abbrev message_turn : Message → ℕ
message_turn (messages.Call t outgoing) = t
message_turn (messages.Calls t outgoings) = t
message_turn (messages.Notice outgoing) = 0

abbrev turn_of : Sending → ℕ
turn_of (message m) = message_turn m
turn_of (withdrawal t) = t

abbrev first_turn : List Sending → ℕ
first_turn [] = 0
first_turn (s ∷ sendings) = turn_of s

abbrev log : Item
log = sent 1 (message (messages.Notice (record { method = codes "log"; params = Some (one (codes "x")) })))

abbrev note_in : List (List ℕ)
note_in = codes "{\"jsonrpc\":\"2.0\",\"method\":\"note\",\"params\":[\"x\"]}" ∷ []

abbrev notifications_in : List (List ℕ)
notifications_in = codes "[{\"jsonrpc\":\"2.0\",\"method\":\"add\",\"params\":[1,2]},{\"jsonrpc\":\"2.0\",\"method\":\"nope\"}]" ∷ []

-- ---- answers

-- answers in the order in which requests end
answers_as_they_finish : IsOutput row_table (contents (ask ∷ add ∷ yes ∷ [])) (called 1 1 confirm ∷ answers (2 ∷ []) sum_told ∷ answers (1 ∷ []) said_yes ∷ []) → ⊥
unfolding unit_of is_utf8 chars digits serde_json_on_literals
answers_as_they_finish h =
    let turned : Equal 2 1 = ap first_due (its_answers row_table (contents (ask ∷ add ∷ yes ∷ [])) refl (called 1 1 confirm ∷ answers (2 ∷ []) sum_told ∷ answers (1 ∷ []) said_yes ∷ []) h) in
    omega arith

-- an answer before a message of its request
answer_before_a_message : (units : List SeenUnit) → IsOutput row_table units (answers (1 ∷ []) said_yes ∷ called 1 1 confirm ∷ []) → ⊥
answer_before_a_message units h =
    let before : [] ≡ (h.choice 1).sends = All-head (λ n. sent_by n [] ≡ (h.choice n).sends) 1 [] (h.output.order [] (called 1 1 confirm ∷ []) (record { requests = 1 ∷ []; text = said_yes }) refl) in
    let whole : message (messages.Call 1 confirm) ∷ [] ≡ (h.choice 1).sends = h.output.sendings 1 in
    cc

notification_answered : IsOutput row_table (contents note_in) (log ∷ answers (1 ∷ []) said_yes ∷ []) → ⊥
unfolding unit_of is_utf8 chars digits serde_json_on_literals
notification_answered h =
    let some : Equal 1 0 = ap length (its_answers row_table (contents note_in) refl (log ∷ answers (1 ∷ []) said_yes ∷ []) h) in
    omega arith

empty_array_for_notifications : IsOutput row_table (contents notifications_in) (answers [] (codes "[]") ∷ []) → ⊥
unfolding unit_of is_utf8 chars digits serde_json_on_literals
empty_array_for_notifications h =
    let some : Equal 1 0 = ap length (its_answers row_table (contents notifications_in) refl (answers [] (codes "[]") ∷ []) h) in
    omega arith

opening_answered : IsOutput opening_table [] (called 0 1 (plainly (codes "hello")) ∷ answers (0 ∷ []) said_yes ∷ []) → ⊥
unfolding digits serde_json_on_literals
opening_answered h =
    let some : Equal 1 0 = ap length (its_answers opening_table [] refl (called 0 1 (plainly (codes "hello")) ∷ answers (0 ∷ []) said_yes ∷ []) h) in
    omega arith

-- ---- replies

early_reply_taken : IsOutput row_table (contents (yes ∷ ask ∷ [])) (called 1 1 confirm ∷ answers (1 ∷ []) said_yes ∷ []) → ⊥
unfolding unit_of is_utf8 chars digits serde_json_on_literals
early_reply_taken h =
    let long : Equal 38 69 = ap first_length (its_answers row_table (contents (yes ∷ ask ∷ [])) refl (called 1 1 confirm ∷ answers (1 ∷ []) said_yes ∷ []) h) in
    omega arith

reply_dropped : IsOutput row_table (contents (ask ∷ yes ∷ [])) (called 1 1 confirm ∷ answers (1 ∷ []) no_reply ∷ []) → ⊥
unfolding unit_of is_utf8 chars digits serde_json_on_literals
reply_dropped h =
    let long : Equal 69 38 = ap first_length (its_answers row_table (contents (ask ∷ yes ∷ [])) refl (called 1 1 confirm ∷ answers (1 ∷ []) no_reply ∷ []) h) in
    omega arith

second_reply_wins : IsOutput row_table (contents (ask ∷ yes ∷ no ∷ [])) (called 1 1 confirm ∷ answers (1 ∷ []) said_no ∷ []) → ⊥
unfolding unit_of is_utf8 chars digits serde_json_on_literals
second_reply_wins h =
    let long : Equal 39 38 = ap first_length (its_answers row_table (contents (ask ∷ yes ∷ no ∷ [])) refl (called 1 1 confirm ∷ answers (1 ∷ []) said_no ∷ []) h) in
    omega arith

-- ---- messages

notification_messages_dropped : IsOutput row_table (contents note_in) [] → ⊥
unfolding unit_of is_utf8 chars digits serde_json_on_literals
notification_messages_dropped h =
    let none : Equal 0 1 = ap length (its_sendings row_table (contents note_in) refl [] h 1) in
    omega arith

-- one counter for the calls of all numbers
shared_call_counter : IsOutput row_table (contents (ask ∷ ask ∷ [])) (called 1 1 confirm ∷ called 2 2 confirm ∷ answers (1 ∷ []) no_reply ∷ answers (2 ∷ []) no_reply ∷ []) → ⊥
unfolding unit_of is_utf8 chars digits serde_json_on_literals
shared_call_counter h =
    let turn : Equal 2 1 = ap first_turn (its_sendings row_table (contents (ask ∷ ask ∷ [])) refl (called 1 1 confirm ∷ called 2 2 confirm ∷ answers (1 ∷ []) no_reply ∷ answers (2 ∷ []) no_reply ∷ []) h 2) in
    omega arith

-- ---- cancels

cancelled_without_cancel : IsOutput row_table (contents (ask ∷ [])) (called 1 1 confirm ∷ withdrawn 1 1 ∷ answers (1 ∷ []) cancelled ∷ []) → ⊥
unfolding unit_of is_utf8 chars digits serde_json_on_literals
cancelled_without_cancel h =
    let long : Equal 78 69 = ap first_length (its_answers row_table (contents (ask ∷ [])) refl (called 1 1 confirm ∷ withdrawn 1 1 ∷ answers (1 ∷ []) cancelled ∷ []) h) in
    omega arith

cancelled_by_another_id : IsOutput row_table (contents (ask ∷ cancel_text ∷ [])) (answers (1 ∷ []) cancelled ∷ []) → ⊥
unfolding unit_of is_utf8 chars digits serde_json_on_literals
cancelled_by_another_id h =
    let long : Equal 78 69 = ap first_length (its_answers row_table (contents (ask ∷ cancel_text ∷ [])) refl (answers (1 ∷ []) cancelled ∷ []) h) in
    omega arith

cancelled_by_an_earlier_cancel : IsOutput row_table (contents (cancel ∷ ask ∷ [])) (answers (2 ∷ []) cancelled ∷ []) → ⊥
unfolding unit_of is_utf8 chars digits serde_json_on_literals
cancelled_by_an_earlier_cancel h =
    let long : Equal 78 69 = ap first_length (its_answers row_table (contents (cancel ∷ ask ∷ [])) refl (answers (2 ∷ []) cancelled ∷ []) h) in
    omega arith

withdrawn_without_cancel : IsOutput row_table (contents (ask ∷ yes ∷ [])) (called 1 1 confirm ∷ withdrawn 1 1 ∷ answers (1 ∷ []) said_yes ∷ []) → ⊥
unfolding unit_of is_utf8 chars digits serde_json_on_literals
withdrawn_without_cancel h =
    let more : Equal 2 1 = ap length (its_sendings row_table (contents (ask ∷ yes ∷ [])) refl (called 1 1 confirm ∷ withdrawn 1 1 ∷ answers (1 ∷ []) said_yes ∷ []) h 1) in
    omega arith

withdrawn_behind_the_answer : (units : List SeenUnit) → IsOutput row_table units (called 1 1 confirm ∷ answers (1 ∷ []) cancelled ∷ withdrawn 1 1 ∷ []) → ⊥
withdrawn_behind_the_answer units h =
    let before : message (messages.Call 1 confirm) ∷ [] ≡ (h.choice 1).sends =
    All-head (λ n. sent_by n (called 1 1 confirm ∷ []) ≡ (h.choice n).sends) 1 [] (h.output.order (called 1 1 confirm ∷ []) (withdrawn 1 1 ∷ []) (record { requests = 1 ∷ []; text = cancelled }) refl) in
    let whole : message (messages.Call 1 confirm) ∷ withdrawal 1 ∷ [] ≡ (h.choice 1).sends = h.output.sendings 1 in
    let same : message (messages.Call 1 confirm) ∷ [] ≡ message (messages.Call 1 confirm) ∷ withdrawal 1 ∷ [] = before ∙ sym whole in
    let more : Equal 1 2 = ap length same in
    omega (arith, more)
