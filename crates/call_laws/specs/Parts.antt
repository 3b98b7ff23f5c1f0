-- What a host does until its connection is done.
use Rattle.std.specs.Prelude.{◌≢◌, ℕ, List, None}
use Rattle.connection.specs.Connections.{Connection, IsStill, output}
use Rattle.connection_history.specs.History.{History, answer_to}
use Rattle.connection_history.specs.Told.{IsTold}
use Rattle.connection_history.specs.declared.event.Event.{Event}
use Rattle.connection_messages.specs.declared.call.Call.{Call}
use Rattle.outbox.specs.Output.{IsAllTaken}

pub record HasDoneItsPart (connection : Connection) (history : History) (told : List Event) : Type 0 where
  -- it has said how the input ended
  pub ended : connection.stream.ended ≢ None
  -- it has asked for events until there was none
  pub asked : IsStill connection history told
  -- it has closed each call that it was told
  pub closed : (number : ℕ) (call : Call) → IsTold history told number call → answer_to number history ≢ None
  -- and has taken all bytes
  pub taken : IsAllTaken (output connection)
