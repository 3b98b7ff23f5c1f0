-- What going on does to a connection, whatever its history.
use Rattle.std.specs.Prelude.{◌≡◌, ◌<◌, ℕ, ◌+◌, ◌-◌, List, [], ◌∷◌, length, Option, Some, option_to_list, if◌then◌else◌}
use Rattle.lsp_frames.specs.declared.frame.Frame.{Frame}
use Rattle.connection_messages.specs.declared.call.Call as calls
use Rattle.connection_messages.specs.declared.entry.Entry.TheVariants.{Call}
use Rattle.connection_messages.specs.declared.unit.Unit.{Unit}
use Rattle.connection_messages.specs.declared.unit.Unit.TheVariants.{Single}
use Rattle.connection_history.specs.declared.event.Event.{Event}
use Rattle.connection_history.specs.History.{History}
use Rattle.connection_history.specs.declared.broken.Broken.{Broken}
use Rattle.connection_history.specs.Events.{broken_in, events_of}
use Rattle.content_streams.specs.Streams as streams
use Rattle.connection.specs.Settings.{rules_of}
use Rattle.connection.specs.declared.asking.Step.{Step}
use Rattle.connection.specs.declared.asking.Step.TheVariants.{Stayed, Moved, Told}
use Rattle.connection.specs.Connections.{Connection, contents, read, origin_of, GoesOn, StandsAfter, IsStill, HasStepped, SamePieces, output}

-- how often the connection can go on before more is fed: each content that wasn't taken, and the end
abbrev pub left : Connection → ℕ
left c = (length (contents c) - c.stream.taken) + (if c.desk.state.is_over then 0 else 1)

-- The unit is what the next content is read as, and this is what is broken of it, where that is told.
pub record IsNext (c : Connection) (u : Unit) (broken : Option Broken) : Type 0 where
  pub placed : ℕ × Frame
  pub next : streams.next_placed c.stream ≡ Some placed
  pub read : u ≡ read (rules_of c.settings) placed.1
  pub defect : option_to_list broken ≡ broken_in (origin_of c.settings.tells_broken placed) u

-- the connection has gone on by a step, where all was told
pub record HasMoved (before now : Connection) : Type 0 where
  pub stepped : (history : History) (told : List Event) → StandsAfter before history told → events_of history ≡ told → HasStepped before now history told
  pub fewer : left now < left before
  pub pieces : SamePieces before.stream now.stream
  pub settings : now.settings ≡ before.settings
  pub taken : (output now).taken ≡ (output before).taken

-- it can't go on
pub record HasStayed (before now : Connection) : Type 0 where
  pub same : now ≡ before
  pub still : (history : History) (told : List Event) → StandsAfter before history told → events_of history ≡ told → IsStill before history told

-- a call that comes by itself
abbrev pub lone : calls.Call → Unit
lone call = Single (Call call)

-- the same connection, where just this isn't told yet
abbrev pub with_untold : Event → Connection → Connection
with_untold event c = record c { desk = record c.desk { untold = event ∷ [] } }

-- the connection has gone on by a step, of which this is all that is told
pub record HasTold (event : Event) (before now : Connection) : Type 0 where
  pub moved : HasMoved before (with_untold event now)
  pub none : now.desk.untold ≡ []

abbrev pub HasDone : Step → Connection → Connection → Type 0
HasDone Stayed before now = HasStayed before now
HasDone Moved before now = HasMoved before now
HasDone (Told event) before now = HasTold event before now

-- so far, where the last step may have brought what isn't told yet
pub record HasCome (before now : Connection) (past : History) (told : List Event) : Type 0 where
  pub history : History
  pub steps : GoesOn before told past history
  pub stands : StandsAfter now history told

-- it has gone on since, by no step or several, and nothing was told
pub record HasGone (before now : Connection) : Type 0 where
  pub gone : (history : History) (told : List Event) → StandsAfter before history told → HasCome before now history told
  pub pieces : SamePieces before.stream now.stream
  pub settings : now.settings ≡ before.settings
  pub taken : (output now).taken ≡ (output before).taken
