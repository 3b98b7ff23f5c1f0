-- Two sides that talk: what comes to each is what the other has said before.
use Rattle.std.specs.Prelude.{◌≡◌, ◌≢◌, ◌⊎◌, ℕ, List, [], ◌∷◌, ◌++◌, map}
use Rattle.connection_history.specs.History.{Happening, History, units_of}
use Rattle.connection_history.specs.declared.event.Event.{Event}
use Rattle.connection_history.specs.declared.order.Order.{Order}
use Rattle.connection.specs.BackToBack.{Message, as_read, messages_of, NoCancelNoticed, AllFit, AllWithin, AreFirst, IsEndedWhole}
use Rattle.connection.specs.Connections.{Connection, StandsAfter, output}
use Rattle.content_streams.specs.declared.framing.Framing.TheVariants.{Lines}

-- What came are the first of the messages that were said, in their order, each as it is read.
pub record IsHeard (said : List Message) (history : History) : Type 0 where
  pub front : List Message
  pub rest : List Message
  pub whole : said ≡ front ++ rest
  pub heard : units_of history ≡ map as_read front

-- Two histories that grew together, by one thing at a time that happened to the first side or to the second. What
-- came to a side by then is what the other had said by then.
pub data Talk (first second : Order) : History → History → Type 0 where
  begin : Talk first second [] []
  at_first : (happening : Happening) (ours theirs : History) → Talk first second ours theirs → IsHeard (messages_of second theirs) (happening ∷ ours) → Talk first second (happening ∷ ours) theirs
  at_second : (happening : Happening) (ours theirs : History) → Talk first second ours theirs → IsHeard (messages_of first ours) (happening ∷ theirs) → Talk first second ours (happening ∷ theirs)

-- all that was said has come
abbrev pub HasHeardAll : List Message → History → Type 0
HasHeardAll said history = units_of history ≡ map as_read said

-- ---- connections

-- So much of what the writer wrote is what the reader was fed, wherever it is cut, and however its host said that it
-- ended. But in Lines it wasn't closed before all had come: the last line needs no LF then, so that the start of a text
-- would be one.
pub record IsFed (n : ℕ) (writer reader : Connection) : Type 0 where
  pub framing : reader.settings.framing ≡ writer.settings.framing
  pub cancels : reader.settings.cancels ≡ writer.settings.cancels
  pub fed : AreFirst writer.settings.framing n (output writer).written reader.stream.pieces
  pub fits : AllFit reader.settings.content (output writer).written
  pub ended : (writer.settings.framing ≢ Lines) ⊎ IsEndedWhole writer.settings.framing n (output writer).written reader.stream.ended

-- Two connections at one moment, joined both ways: of what each wrote, so many bytes are what the other was fed.
-- No host notifies by the name of a cancel, and no batch is larger than the other side takes.
pub record IsMoment (first second : Connection) (ours theirs : History) : Type 0 where
  pub told : List Event
  pub stands : StandsAfter first ours told
  pub notices_no_cancel : NoCancelNoticed first.settings.cancels ours
  pub within : AllWithin second.settings.most_entries (messages_of first.settings.order ours)
  pub count : ℕ
  pub fed : IsFed count first second
  pub other_told : List Event
  pub other_stands : StandsAfter second theirs other_told
  pub other_notices_no_cancel : NoCancelNoticed second.settings.cancels theirs
  pub other_within : AllWithin first.settings.most_entries (messages_of second.settings.order theirs)
  pub other_count : ℕ
  pub other_fed : IsFed other_count second first

-- Two connections that talk, from their beginning: at each moment one of them has gone on, by one or more things
-- that happened to it, and both are joined.
pub data AreTalking : Connection → Connection → History → History → Type 0 where
  begin : (first second : Connection) → AreTalking first second [] []
  at_first : (before now other : Connection) (more : List Happening) (ours theirs : History) → AreTalking before other ours theirs → now.settings ≡ before.settings
      → IsMoment now other (more ++ ours) theirs → AreTalking now other (more ++ ours) theirs
  at_second : (other before now : Connection) (more : List Happening) (ours theirs : History) → AreTalking other before ours theirs → now.settings ≡ before.settings
      → IsMoment other now ours (more ++ theirs) → AreTalking other now ours (more ++ theirs)
