-- The replies to the calls of one number: a slot for each of its turns, from turn 1.
use Rattle.std.specs.Prelude.{ℕ, ◌-◌, ◌==◌, List, Option, Some, None, Bool, true, false, if◌then◌else◌, slice_get}
use Rattle.rpc_messages.specs.declared.reply.Reply.{Reply}
use Rattle.rpc_messages.specs.declared.reply.Reply.TheVariants.{Standard}
use Rattle.message_ids.specs.declared.standard.Standard.TheVariants.{NoReply}
use Rattle.open_numbers.specs.declared.replies.Put.{Put}
use Rattle.open_numbers.specs.declared.replies.Put.TheVariants.{Unknown, Second, Kept}
use Rattle.open_numbers.specs.declared.replies.Slot.{Slot}
use Rattle.open_numbers.specs.declared.replies.Slot.TheVariants.{Empty, Held, Given}

-- the slot of a turn; there is none for turn 0, nor past the last
abbrev pub slot_at : List Slot → ℕ → Option Slot
slot_at slots turn = if turn == 0 then None else slice_get slots (turn - 1)

-- what a put into a slot answers
abbrev pub put_into : Option Slot → Put
put_into None = Unknown
put_into (Some Empty) = Kept
put_into (Some (Held reply)) = Second
put_into (Some Given) = Second

abbrev pub is_kept : Put → Bool
is_kept Kept = true
is_kept Unknown = false
is_kept Second = false

-- what a slot gives: the reply that it holds, or `No reply` where none came before the board was closed; once
abbrev pub given_by : Bool → Option Slot → Option Reply
given_by closed None = None
given_by closed (Some (Held reply)) = Some reply
given_by true (Some Empty) = Some (Standard NoReply)
given_by false (Some Empty) = None
given_by closed (Some Given) = None
