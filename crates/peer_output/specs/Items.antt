-- What goes out, item by item, and the bytes of it.
use Rattle.std.specs.Prelude.{ℕ, ◌==◌, List, [], ◌∷◌, Bool, true, false, count_by, flat_map, if◌then◌else◌}
use Rattle.lsp_frames.specs.Frames.{written}
use Rattle.rpc_messages.specs.Dues.{Due}
use Rattle.rpc_messages.specs.Texts.{call_text_of, calls_text_of, notice_text_of, withdraw_text_of}
use Rattle.handler_future.specs.declared.message.Message.{Message}
use Rattle.handler_future.specs.declared.message.Message.TheVariants as messages
use Rattle.peer_output.specs.Course.{Sending, message, withdrawal}

-- An item: what a number sent, or an answer that was due.
pub data Item : Type 0 where
  sent : ℕ → Sending → Item
  answered : Due → Item

-- ---- its parts

-- what the number sent, in order
abbrev pub sent_by : ℕ → List Item → List Sending
sent_by n [] = []
sent_by n (sent m s ∷ items) = if m == n then s ∷ sent_by n items else sent_by n items
sent_by n (answered due ∷ items) = sent_by n items

-- the answers, in order
abbrev pub answers_in : List Item → List Due
answers_in [] = []
answers_in (sent m s ∷ items) = answers_in items
answers_in (answered due ∷ items) = due ∷ answers_in items

-- ---- its bytes

-- calls of number n have the ids `n.t`; a batch of calls is one text
abbrev pub message_text : ℕ → Message → List ℕ
message_text n (messages.Call t outgoing) = call_text_of n t outgoing
message_text n (messages.Calls t outgoings) = calls_text_of n t outgoings
message_text n (messages.Notice outgoing) = notice_text_of outgoing

abbrev pub sending_text : ℕ → Sending → List ℕ
sending_text n (message m) = message_text n m
sending_text n (withdrawal t) = withdraw_text_of n t

abbrev pub item_text : Item → List ℕ
item_text (sent n s) = sending_text n s
item_text (answered due) = due.text

-- each text in a frame of its own (LSP 3.17, "Base Protocol")
abbrev pub bytes_of : List Item → List ℕ
bytes_of items = flat_map (λ item. written (item_text item)) items

-- ---- its counts

-- a message that awaits a reply; a batch of calls is one message
abbrev pub awaits : Message → Bool
awaits (messages.Call t outgoing) = true
awaits (messages.Calls t outgoings) = true
awaits (messages.Notice outgoing) = false

abbrev pub is_sending : Item → Bool
is_sending (sent n s) = true
is_sending (answered due) = false

abbrev pub is_call : Item → Bool
is_call (sent n (message m)) = awaits m
is_call (sent n (withdrawal t)) = false
is_call (answered due) = false

-- how many messages and withdrawals, and how many of these await a reply
abbrev pub count_sendings : List Item → ℕ
count_sendings items = count_by is_sending items

abbrev pub count_calls : List Item → ℕ
count_calls items = count_by is_call items
