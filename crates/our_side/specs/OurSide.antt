-- A side of a conversation that is a connection of this library, whatever its host does.
use Rattle.std.specs.Prelude.{◌≡◌, ◌≢◌, ◌⊎◌, ◌≤◌, nat_lt, ℕ, List, [], ◌∷◌, ◌++◌, map, take, length, true, false, Some, IsSomeAnd, ⊤}
use Rattle.connection_history.specs.History.{Happening, History, units_of}
use Rattle.connection_history.specs.declared.event.Event.{Event}
use Rattle.connection.specs.BackToBack.{AllFit, AreFirst, IsEndedWhole}
use Rattle.connection.specs.Connections.{Connection, StandsAfter, output, read}
use Rattle.connection.specs.Settings.{Chosen, rules_of}
use Rattle.content_streams.specs.Streams.{Stream, contents}
use Rattle.content_streams.specs.declared.framing.Framing.{Framing}
use Rattle.connection_messages.specs.Reading.{are_too_many}
use Rattle.connection_messages.specs.declared.cancels.Cancels.TheVariants.{Mcp}
use Rattle.conversation_reading.specs.Strictly.{reading_of}
use Rattle.conversation_reading.specs.declared.reading.Reading.{Reading}
use Rattle.conversation_reading.specs.declared.reading.Reading.TheVariants.{Array}
use Rattle.conversation_reading.specs.declared.reading.TheConstants.{MOST_ENTRIES_IN}
use Rattle.conversation_rules.specs.Judging.{Seen, state_of, stream_of}
use Rattle.conversation_rules.specs.Protocols.{is_mcp}
use Rattle.conversation_rules.specs.declared.finding.Limits.{Limits}
use Rattle.conversation_rules.specs.declared.protocol.Protocol.{Protocol}
use Rattle.conversation_rules.specs.declared.side.Side.{Side}
use Rattle.conversation_rules.specs.declared.side.Side.TheVariants.{Client, Server}
use Rattle.lsp_frames.specs.declared.frame.Frame.{Frame}

abbrev pub other : Side → Side
other Client = Server
other Server = Client

-- what was seen of a side's stream
abbrev pub seen_of : Protocol → Framing → Limits → List Seen → Side → Stream
seen_of protocol framing limits seen side = stream_of side (state_of protocol framing limits seen)

-- What was seen of the side is what a connection wrote: the first n bytes, or in Contents the first n texts.
pub record IsWritten (protocol : Protocol) (framing : Framing) (limits : Limits) (seen : List Seen) (side : Side) (connection : Connection) (history : History) (told : List Event) (n : ℕ) : Type 0 where
  -- the connection has come this far, by any calls of its host and any bytes that came
  pub stands : StandsAfter connection history told
  -- the judge cuts the stream as the connection writes it
  pub framing_is : connection.settings.framing ≡ framing
  -- each text is within the judge's limit: beyond it nothing of the side is judged
  pub fits : AllFit limits.content (output connection).written
  -- no more was seen than was taken
  pub taken : n ≤ (output connection).taken
  pub first : AreFirst framing n (output connection).written (seen_of protocol framing limits seen side).pieces
  -- Its stream wasn't closed inside a text: to close it there is its host's, by the rule `cut-off`.
  pub closed : IsEndedWhole framing n (output connection).written (seen_of protocol framing limits seen side).ended

-- At a moment of the conversation, when so much had been seen: the connection as it stood then, after a part of the history.
pub record IsInTime (protocol : Protocol) (framing : Framing) (limits : Limits) (side : Side) (connection : Connection) (history : History) (before : List Seen) : Type 0 where
  pub past : History
  pub more : List Happening
  pub whole : history ≡ more ++ past
  pub earlier : Connection
  pub settings : earlier.settings ≡ connection.settings
  pub told : List Event
  -- what was seen of the side by then had been written
  pub count : ℕ
  pub written : IsWritten protocol framing limits before side earlier past told count
  -- What had come to it by then had been seen of the other side: the units are those of the first contents that were seen.
  -- So the judge reads all that the connection reads.
  pub came : units_of past ≡ map (read (rules_of connection.settings)) (take (length (units_of past)) (contents (seen_of protocol framing limits before (other side))))

-- The side is a connection: beside this, each byte and each end was seen before it was fed or told.
pub record IsOurSide (protocol : Protocol) (framing : Framing) (limits : Limits) (seen : List Seen) (side : Side) (connection : Connection) (history : History) (told : List Event) (n : ℕ) : Type 0 where
  pub written : IsWritten protocol framing limits seen side connection history told n
  pub in_time : (before after : List Seen) → seen ≡ before ++ after → IsInTime protocol framing limits side connection history before

-- With the cancels of MCP, by which a request may be left, it is judged by MCP's rules.
abbrev pub AreItsCancels : Protocol → Chosen → Type 0
AreItsCancels protocol settings = (settings.cancels ≢ Some Mcp) ⊎ (is_mcp protocol ≡ true)

-- A connection with these settings refuses an array, since it has more entries than the connection takes. Or it answers it by
-- one array, and the judge takes as many entries.
abbrev pub IsTaken : Protocol → Chosen → Reading → Type 0
IsTaken protocol settings (Array (entry ∷ entries)) =
    (are_too_many settings.most_entries (length (entry ∷ entries)) ≡ true) ⊎ (AreItsCancels protocol settings × (nat_lt MOST_ENTRIES_IN (length (entry ∷ entries)) ≡ false))
IsTaken protocol settings _ = ⊤

abbrev pub AllTaken : Protocol → Chosen → List (ℕ × Frame) → Type 0
AllTaken protocol settings [] = ⊤
AllTaken protocol settings (placed ∷ contents) = IsTaken protocol settings (reading_of placed.1.foreign placed.1.content) × AllTaken protocol settings contents

-- whatever comes
abbrev pub TakesAll : Protocol → Chosen → Type 0
TakesAll protocol settings = IsSomeAnd settings.most_entries (λ most. most ≤ MOST_ENTRIES_IN) × AreItsCancels protocol settings
