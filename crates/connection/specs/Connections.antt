-- A connection, and what holds of it after a history: what came, what the host was told, and what is written.
use Rattle.std.specs.Prelude.{◌≡◌, ◌≤◌, ◌<◌, ℕ, zero, suc, ◌+◌, List, [], ◌∷◌, ◌++◌, Bool, true, false, map, length, take, slice_get, Option, Some, None, option_map, is_some, ⊤, if◌then◌else◌}
use Rattle.lsp_frames.specs.declared.frame.Frame.{Frame}
use Rattle.connection_messages.specs.ReadBack.{IsSayable, AreSayable, IsAnswer}
use Rattle.connection_messages.specs.Reading.{unit_of}
use Rattle.connection_messages.specs.declared.answer.Answer.{Answer}
use Rattle.connection_messages.specs.declared.rules.Rules.{Rules}
use Rattle.connection_messages.specs.declared.unit.Unit.{Unit}
use Rattle.connection_history.specs.declared.close.Close.{Close}
use Rattle.connection_history.specs.declared.close.Close.TheVariants as close
use Rattle.connection_history.specs.declared.event.Event.{Event}
use Rattle.connection_history.specs.Stream.{entries_in, calls_in, request_id}
use Rattle.connection_history.specs.History.{Origin, Happening, came, called, called_all, noticed, withdrew, answered, ended, History, stream as stream_of, units_of, origins_of, is_over, is_open, close_of as close_in}
use Rattle.connection_history.specs.Refusals.{IsLawful}
use Rattle.connection_history.specs.Events.{events_of, call_count}
use Rattle.connection_history.specs.Items.{items_of, text_of}
use Rattle.content_streams.specs.declared.ending.StreamEnd.{StreamEnd}
use Rattle.content_streams.specs.declared.ending.StreamEnd.TheVariants as stream
use Rattle.content_streams.specs.Streams as streams
use Rattle.content_streams.specs.Streams.{Stream}
use Rattle.open_calls.specs.Numbered.{at}
use Rattle.outbox.specs.Output.{Output, full_count, IsAllTaken}
use Rattle.connection_steps.specs.States.{state_of}
use Rattle.connection_steps.specs.Tallies.{tally_of}
use Rattle.connection_desk.specs.Desks.{Desk, capped_tally}
pub use Rattle.connection_desk.specs.Desks.{IsRefusal}
use Rattle.connection.specs.Settings.{Chosen, rules_of}

pub record Connection : Type 0 where
  pub settings : Chosen
  -- the pieces that were fed until the input was over, what the host said of their end, and how many contents were taken
  pub stream : Stream
  -- what stands open, what the host hasn't been told yet, and what is written
  pub desk : Desk

-- what is written, and how much of it was taken
abbrev pub output : Connection → Output
output c = c.desk.out

abbrev pub with_output : Connection → Output → Connection
with_output c o = record c { desk = record c.desk { out = o } }

-- whether the open call with this number is a request; none where it isn't open
abbrev pub asked : Connection → ℕ → Option Bool
asked c n = option_map (λ call. is_some call.id) (at n c.desk.state.theirs.calls)

-- the same by the history: the call came, isn't answered, and has an id or none
abbrev pub asked_in : History → ℕ → Option Bool
asked_in history zero = None
asked_in history (suc n) = if is_open (suc n) history then Some (is_some (request_id (suc n) (stream_of history))) else None

-- ---- what comes

-- the contents of the pieces, and how their stream has ended
abbrev pub contents : Connection → List Frame
contents c = streams.contents c.stream

-- each content with the offset of its first byte
abbrev pub placed_contents : Connection → List (ℕ × Frame)
placed_contents c = streams.placed_contents c.stream

abbrev pub stream_end : Connection → Option StreamEnd
stream_end c = streams.close_of c.stream

-- what a content is read as
abbrev pub read : Rules → Frame → Unit
read rules frame = unit_of rules frame.foreign frame.content

-- of a broken content so many bytes are told
abbrev pub most_shown : ℕ
most_shown = 64

-- Where a content stands and with what it begins, where broken input is told.
abbrev pub origin_of : Bool → ℕ × Frame → Option Origin
origin_of false placed = None
origin_of true placed = Some (record { place = streams.capped placed.0; start = take most_shown placed.1.content })

-- what happens when a content comes
abbrev pub content_came : Chosen → ℕ × Frame → Happening
content_came settings placed = came (origin_of settings.tells_broken placed) (read (rules_of settings) placed.1)

-- the next content that hasn't come
abbrev pub next_after : Stream → History → Option Frame
next_after stream history = slice_get (streams.contents stream) (length (units_of history))

abbrev pub next_content : Connection → History → Option Frame
next_content c history = next_after c.stream history

abbrev pub next_placed : Connection → History → Option (ℕ × Frame)
next_placed c history = slice_get (placed_contents c) (length (units_of history))

abbrev pub calls_of : Unit → ℕ
calls_of u = length (calls_in (entries_in u))

abbrev pub close_of : StreamEnd → Close
close_of stream.Clean = close.Clean
close_of (stream.Fault fault) = close.Fault fault
close_of stream.ReadFailed = close.ReadFailed

-- ---- what the types hold of what is said

-- an answer, or none
abbrev pub IsGiven : Option Answer → Type 0
IsGiven None = ⊤
IsGiven (Some a) = IsAnswer a

-- names and messages are UTF-8, params, results and data are JSON texts, and codes have 64 bits
abbrev pub IsTyped : Happening → Type 0
IsTyped (came o u) = ⊤
IsTyped (called n o) = IsSayable o
IsTyped (called_all n os) = AreSayable os
IsTyped (noticed o) = IsSayable o
IsTyped (withdrew by key) = ⊤
IsTyped (answered n a) = IsGiven a
IsTyped (ended close) = ⊤

abbrev pub AreTyped : History → Type 0
AreTyped [] = ⊤
AreTyped (h ∷ past) = IsTyped h × AreTyped past

-- ---- what holds

-- The desk is what the history makes of it. What was told, and then what isn't told yet, are the events of the history. All
-- that was written are the texts of its items, in their order.
pub record IsDeskOf (settings : Chosen) (history : History) (told : List Event) (desk : Desk) : Type 0 where
  pub cancels : desk.cancels ≡ settings.cancels
  pub order : desk.order ≡ settings.order
  pub state : desk.state ≡ state_of settings.order history
  pub events : events_of history ≡ told ++ desk.untold
  pub framing : desk.out.framing ≡ settings.framing
  pub written : desk.out.written ≡ map text_of (items_of settings.order history)
  pub tally : desk.tally ≡ capped_tally (tally_of settings.order history)

-- The units that came are those of the first contents, as many as were taken; and so are their origins.
pub record IsStreamOf (settings : Chosen) (history : History) (stream : Stream) : Type 0 where
  pub framing : stream.framing ≡ settings.framing
  pub limit : stream.limit ≡ settings.content
  pub taken : stream.taken ≡ length (units_of history)
  pub came : units_of history ≡ map (read (rules_of settings)) (take stream.taken (streams.contents stream))
  pub origins : origins_of history ≡ map (origin_of settings.tells_broken) (take stream.taken (streams.placed_contents stream))

-- How the input ended: a content came that would have brought too many calls; or all contents came, and the stream has
-- ended so.
pub data HasEnded (settings : Chosen) (stream : Stream) (history : History) : Close → Type 0 where
  was_full : (frame : Frame) → next_after stream history ≡ Some frame → settings.calls < call_count history + calls_of (read (rules_of settings) frame)
      → HasEnded settings stream history close.Full
  had_ended : (end : StreamEnd) → next_after stream history ≡ None → streams.close_of stream ≡ Some end → HasEnded settings stream history (close_of end)

-- The connection stands after this history, latest first, and its host was told these events.
pub record StandsAfter (c : Connection) (history : History) (told : List Event) : Type 0 where
  -- nothing in the history was refused
  pub lawful : IsLawful c.settings.cancels history
  pub typed : AreTyped history
  -- no more calls came than the settings say
  pub calls : call_count history ≤ c.settings.calls
  pub stream : IsStreamOf c.settings history c.stream
  -- where the input is over, it is so by its stream
  pub ended : (close : Close) → close_in history ≡ Some close → HasEnded c.settings c.stream history close
  pub desk : IsDeskOf c.settings history told c.desk
  -- no more was taken than is written
  pub taken : (output c).taken ≤ full_count (output c).framing (output c).written

-- Nothing was fed between.
pub record SamePieces (before now : Stream) : Type 0 where
  pub framing : now.framing ≡ before.framing
  pub limit : now.limit ≡ before.limit
  pub pieces : now.pieces ≡ before.pieces
  pub ended : now.ended ≡ before.ended

-- ---- what happens when the host asks for an event

-- Once all is told, and while the input isn't over, the next content comes; or it would bring too many calls; or there is
-- none, and the stream has ended.
pub data Step (c : Connection) (told : List Event) (past : History) : History → Type 0 where
  comes : (placed : ℕ × Frame) → events_of past ≡ told → is_over past ≡ false → next_placed c past ≡ Some placed
      → call_count past + calls_of (read (rules_of c.settings) placed.1) ≤ c.settings.calls
      → Step c told past (content_came c.settings placed ∷ past)
  is_full : (frame : Frame) → events_of past ≡ told → is_over past ≡ false → next_content c past ≡ Some frame
      → c.settings.calls < call_count past + calls_of (read (rules_of c.settings) frame)
      → Step c told past (ended close.Full ∷ past)
  ends : (end : StreamEnd) → events_of past ≡ told → is_over past ≡ false → next_content c past ≡ None → stream_end c ≡ Some end
      → Step c told past (ended (close_of end) ∷ past)

-- no step, or several
pub data GoesOn (c : Connection) (told : List Event) (past : History) : History → Type 0 where
  stays : GoesOn c told past past
  goes : (between now : History) → GoesOn c told past between → Step c told between now → GoesOn c told past now

-- Nothing more can happen before the host does something: all is told, and the input is over or its contents have come.
pub data IsStill (c : Connection) (history : History) (told : List Event) : Type 0 where
  over : events_of history ≡ told → is_over history ≡ true → IsStill c history told
  waits : events_of history ≡ told → next_content c history ≡ None → stream_end c ≡ None → IsStill c history told

-- The connection has gone on by one step, or by none or several, and nothing was told.
pub record HasStepped (before now : Connection) (past : History) (told : List Event) : Type 0 where
  pub history : History
  pub step : Step before told past history
  pub stands : StandsAfter now history told
  pub pieces : SamePieces before.stream now.stream
  pub settings : now.settings ≡ before.settings

-- It has gone on by no step or several, and what came tells nothing that wasn't told.
pub record HasGoneOn (before now : Connection) (past : History) (told : List Event) : Type 0 where
  pub history : History
  pub steps : GoesOn before told past history
  pub stands : StandsAfter now history told
  pub all_told : events_of history ≡ told

-- ---- done

pub record IsDone (c : Connection) (history : History) (told : List Event) : Type 0 where
  pub over : is_over history ≡ true
  pub all_told : events_of history ≡ told
  -- no call is open
  pub answered : (number : ℕ) → 0 < number → is_open number history ≡ false
  pub taken : IsAllTaken (output c)
