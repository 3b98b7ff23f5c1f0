-- The laws of lower crates that the laws of a session stand on: each is a clause of a function that does nothing.
use Rattle.std.specs.Prelude.{◌≡◌, ◌≢◌, ℕ, ◌+◌, ◌-◌, ◌<◌, ◌≤◌, ◌||◌, List, [], ◌∷◌, ◌++◌, map, length, slice_set, filter, All, Bool, true, false, Option, Some, None}
use Rattle.std.specs.List.{filter_map}
use Rattle.std.specs.Option.{option_map, option_map_or}
use Rattle.rpc_messages.specs.declared.reply.Reply.{Reply}
use Rattle.rpc_messages.specs.declared.reply.Reply.TheVariants.{Standard as Fixed}
use Rattle.message_ids.specs.declared.standard.Standard.{Standard}
use Rattle.message_ids.specs.declared.standard.Standard.TheVariants.{Cancelled}
use Rattle.rpc_messages.specs.Dues.{Due}
use Rattle.rpc_messages.specs.Entry.{SeenEntry}
use Rattle.rpc_messages.specs.Numbering.{numbers_in, unit_numbers, units_numbers}
use Rattle.rpc_messages.specs.Replies.{reply_to, replies}
use Rattle.rpc_messages.specs.Unit.{SeenUnit}
use Rattle.method_steps.specs.Steps.{MethodTable}
use Rattle.handler_future.specs.declared.message.Message.{Message}
use Rattle.handler_future.specs.Evaluation.{Program}
use Rattle.handler_future.specs.Front.{Heard, last_turns}
use Rattle.handler_future.specs.State.{HandlerState, IsWaiting, HasEnded, HasFailed}
use Rattle.open_numbers.specs.declared.open_call.OpenCall.{OpenCall}
use Rattle.open_numbers.specs.declared.replies.Put.TheVariants.{Kept}
use Rattle.open_numbers.specs.declared.replies.Slot.TheVariants.{Held, Given}
use Rattle.answer_desk.specs.Places.{new_numbers, new_parts}
use Rattle.open_numbers.specs.Replies.{is_kept}
use Rattle.answer_desk.specs.State.{State, number_at, slot_of, put_of, with_reply, reply_of, without_reply, with_reached, with_end}
use Rattle.open_numbers.specs.OpenCalls.{marked}
use Rattle.answer_desk.specs.Waiting.{unit_answered, unit_text, whole_front, behind_front}
use Rattle.peer_output.specs.Work.{nothing, fault, run, work}
use Rattle.peer_output.specs.Course.{Sending, message, withdrawal, Course, silent}
use Rattle.peer_output.specs.Cancelled.{Begins, cancels, is_cancelled, request_id}
use Rattle.peer_output.specs.Events.{no_past, with_at, with_units, with_sends, with_course, with_sent, with_released}
use Rattle.peer_output.specs.Items.{sent_by}
use Rattle.peer_output.specs.Later.{MayBecome, IsUnderWay, IsFinished, IsHeardFrom}
use Rattle.peer_output.specs.Left.{shape_for, unit_left, units_left}
use Rattle.peer_output.specs.Output.{IsOutput, IsPartialOutput}
use Rattle.peer_output.specs.Past.{Past, past_units, past_entries, requests_of, IsAllSent, dues_of, IsPast}

pub record Known : Type 0 where
  -- ---- more entries
  pub work_stays : (table : MethodTable) (entries later : List SeenEntry) (n : ℕ) → n ≤ numbers_in entries → Begins entries later →
      work table later n ≡ work table entries n
  pub cancel_stays : (entries later : List SeenEntry) (n : ℕ) → Begins entries later →
      is_cancelled entries n ≡ true → is_cancelled later n ≡ true
  pub cancel_reaches : (entries : List SeenEntry) (entry : SeenEntry) (n : ℕ) → n ≤ numbers_in entries →
      is_cancelled (entries ++ entry ∷ []) n
      ≡ (is_cancelled entries n || option_map_or (λ id. cancels id entry) (request_id entries n) false)
  pub cancel_passes : (entries : List SeenEntry) (entry : SeenEntry) (n : ℕ) → numbers_in entries < n →
      is_cancelled (entries ++ entry ∷ []) n ≡ false
  pub heard_stays : (is_over : Bool) (entries longer : List SeenEntry) (n : ℕ) (heard : Heard) → Begins entries longer →
      IsHeardFrom false entries n heard → IsHeardFrom is_over longer n heard
  -- ---- what a handler may hear
  pub hears_nothing : (is_over : Bool) (entries : List SeenEntry) (n : ℕ) → IsHeardFrom is_over entries n []
  pub hears_reply : (is_over : Bool) (entries : List SeenEntry) (n turn : ℕ) (heard : Heard) (reply : Reply) → n ≤ numbers_in entries →
      IsHeardFrom is_over entries n heard → reply_to n turn entries ≡ Some reply →
      IsHeardFrom is_over entries n (heard ++ (turn, reply) ∷ [])
  pub hears_at_the_end : (entries : List SeenEntry) (n turn : ℕ) (heard : Heard) →
      IsHeardFrom true entries n heard →
      IsHeardFrom true entries n (heard ++ (turn, replies entries n turn) ∷ [])
  -- ---- what handlers send
  pub waiting_sends : (table : MethodTable) (is_over : Bool) (entries : List SeenEntry) (n : ℕ) (s : HandlerState) → n ≤ numbers_in entries →
      work table entries n ≡ run s.program → IsHeardFrom is_over entries n s.heard → IsWaiting s →
      IsUnderWay table is_over entries n (map message s.messages)
  pub failed_sends : (table : MethodTable) (is_over : Bool) (entries : List SeenEntry) (n : ℕ) (s : HandlerState) → n ≤ numbers_in entries →
      work table entries n ≡ run s.program → IsHeardFrom is_over entries n s.heard → HasFailed s →
      IsUnderWay table is_over entries n (map message s.messages)
  pub ended_finishes : (table : MethodTable) (is_over : Bool) (entries : List SeenEntry) (n : ℕ) (s : HandlerState) (answer : Reply) → n ≤ numbers_in entries →
      work table entries n ≡ run s.program → IsHeardFrom is_over entries n s.heard → HasEnded s answer →
      IsFinished table is_over entries n (record { sends = map message s.messages; answer = answer })
  pub fault_finishes : (table : MethodTable) (is_over : Bool) (entries : List SeenEntry) (n : ℕ) (standard : Standard) → n ≤ numbers_in entries →
      work table entries n ≡ fault standard → IsFinished table is_over entries n (silent (Fixed standard))
  pub cancel_finishes : (table : MethodTable) (is_over : Bool) (entries : List SeenEntry) (n : ℕ) (program : Program) (made : List Message) (is_withdrawn : ℕ → Bool) →
      work table entries n ≡ run program → is_cancelled entries n ≡ true → IsUnderWay table is_over entries n (map message made) →
      IsFinished table is_over entries n
      (record { sends = map message made ++ map withdrawal (filter is_withdrawn (last_turns made)); answer = Fixed Cancelled })
  -- ---- pasts
  pub starts : (table : MethodTable) → IsPast table false no_past
  pub units_come : (table : MethodTable) (past : Past) (units : List SeenUnit) → IsPast table false past → IsPast table false (with_units past units)
  pub input_ends : (table : MethodTable) (past : Past) → IsPast table false past → IsPast table true past
  pub sends : (table : MethodTable) (is_over : Bool) (past : Past) (n : ℕ) (sends : List Sending) → IsPast table is_over past →
      n ≤ units_numbers (past_units past) → past.took n ≡ None →
      Begins (past.sends n) sends → IsUnderWay table is_over (past_entries past) n sends →
      IsPast table is_over (with_sends past n sends)
  pub finishes : (table : MethodTable) (is_over : Bool) (past : Past) (n : ℕ) (c : Course) → IsPast table is_over past →
      n ≤ units_numbers (past_units past) → past.took n ≡ None →
      Begins (past.sends n) c.sends → IsFinished table is_over (past_entries past) n c →
      IsPast table is_over (with_course past n c)
  pub is_sent : (table : MethodTable) (is_over : Bool) (past : Past) (n : ℕ) (s : Sending) → IsPast table is_over past →
      Begins (sent_by n past.items ++ s ∷ []) (past.sends n) →
      IsPast table is_over (with_sent past n s)
  pub is_released : (table : MethodTable) (is_over : Bool) (past : Past) (units left : List SeenUnit) → IsPast table is_over past →
      past.left ≡ units ++ left →
      All (IsAllSent past.took past.items) (requests_of (1 + units_numbers past.released) units) →
      IsPast table is_over (with_released past units left)
  pub is_partial : (table : MethodTable) (is_over : Bool) (past : Past) (later : List SeenUnit) → IsPast table is_over past →
      MayBecome is_over (past_units past) later → IsPartialOutput table later past.items
  pub is_output : (table : MethodTable) (past : Past) → IsPast table true past →
      past.left ≡ [] → ((n : ℕ) → sent_by n past.items ≡ past.sends n) →
      ((n : ℕ) → past.took n ≡ None → work table (past_entries past) n ≡ nothing) →
      IsOutput table (past_units past) past.items
  -- ---- units that are left
  pub left_opened : (took : ℕ → Option Course) (most : ℕ → ℕ) (n : ℕ) (unit : SeenUnit) →
      ((k : ℕ) → n ≤ k → took k ≡ None) →
      record { kind = (shape_for most n unit).kind; parts = new_parts n (shape_for most n unit).places } ≡ unit_left took n unit
  pub left_numbers : (most : ℕ → ℕ) (n : ℕ) (unit : SeenUnit) →
      length (new_numbers (shape_for most n unit).places) ≡ unit_numbers unit
  pub left_behind : (took : ℕ → Option Course) (n : ℕ) (units more : List SeenUnit) →
      units_left took n (units ++ more) ≡ units_left took n units ++ units_left took (n + units_numbers units) more
  pub left_answered : (took : ℕ → Option Course) (number n : ℕ) (course : Course) (units : List SeenUnit) →
      map (unit_answered number course.answer) (units_left took n units) ≡ units_left (with_at number (Some course) took) n units
  pub left_front : (took : ℕ → Option Course) (n : ℕ) (units : List SeenUnit) →
      (front : List SeenUnit) × (left : List SeenUnit) × (units ≡ front ++ left)
      × All (λ k. (c : Course) × (took k ≡ Some c)) (requests_of n front)
      × (filter_map unit_text (whole_front (units_left took n units)) ≡ map (λ (due : Due). due.text) (dues_of took n front))
      × (behind_front (units_left took n units) ≡ units_left took (n + units_numbers front) left)
  -- ---- what calls leave of the desk's numbers
  pub reply_here : (s : State) (n turn : ℕ) (reply : Reply) → put_of s n turn ≡ Kept →
      number_at (with_reply s n turn reply) n ≡ option_map (λ (m : OpenCall). record m { replies = slice_set m.replies (turn - 1) (Held reply) }) (number_at s n)
  pub reply_elsewhere : (s : State) (n turn k : ℕ) (reply : Reply) → k ≢ n → number_at (with_reply s n turn reply) k ≡ number_at s k
  pub reply_refused : (s : State) (n turn : ℕ) (reply : Reply) → is_kept (put_of s n turn) ≡ false → with_reply s n turn reply ≡ s
  pub reply_slot : (s : State) (n turn : ℕ) (reply : Reply) → put_of s n turn ≡ Kept → slot_of (with_reply s n turn reply) n turn ≡ Some (Held reply)
  pub reply_other_slot : (s : State) (n turn t : ℕ) (reply : Reply) → t ≢ turn → slot_of (with_reply s n turn reply) n t ≡ slot_of s n t
  pub given_slot : (s : State) (n turn : ℕ) (reply : Reply) → reply_of s n turn ≡ Some reply → slot_of (without_reply s n turn) n turn ≡ Some Given
  pub given_other_slot : (s : State) (n turn t : ℕ) → t ≢ turn → slot_of (without_reply s n turn) n t ≡ slot_of s n t
  pub given_elsewhere : (s : State) (n turn k : ℕ) → k ≢ n → number_at (without_reply s n turn) k ≡ number_at s k
  pub given_none : (s : State) (n turn : ℕ) → reply_of s n turn ≡ None → without_reply s n turn ≡ s
  pub reached_here : (s : State) (n : ℕ) → number_at (with_reached s (Some n)) n ≡ option_map marked (number_at s n)
  pub reached_elsewhere : (s : State) (n k : ℕ) → k ≢ n → number_at (with_reached s (Some n)) k ≡ number_at s k
  pub ended_here : (s : State) (n : ℕ) (reply : Reply) → number_at (with_end s n reply) n ≡ None
  pub ended_elsewhere : (s : State) (n k : ℕ) (reply : Reply) → k ≢ n → number_at (with_end s n reply) k ≡ number_at s k
