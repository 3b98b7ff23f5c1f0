-- A whole conversation, from the bytes that came to those that went out.
use Rattle.std.specs.Prelude.{◌≡◌, ◌<◌, ◌≤◌, ℕ, List, ◌++◌, false, length, map, take, Some}
use Rattle.connection_history.specs.declared.close.Close.{Close}
use Rattle.connection_history.specs.declared.event.Event.{Event}
use Rattle.connection_history.specs.Events.{events_of}
use Rattle.connection_history.specs.History.{History, units_of, origins_of, is_open, close_of as close_in}
use Rattle.connection_history.specs.Items.{items_of, bytes_of}
use Rattle.connection_history.specs.Refusals.{IsLawful}
use Rattle.content_streams.specs.Streams.{Stream, contents, placed_contents}
use Rattle.outbox.specs.Output.{Output, framed, all_bytes, full_count, IsAllTaken}
use Rattle.connection.specs.Settings.{Chosen, rules_of}
use Rattle.connection.specs.Connections.{HasEnded, origin_of, read}
use Rattle.connection.specs.declared.report.Report.{Report}
use Rattle.connection.specs.Reports.{report_of}

-- What came and what was written, at any time. The stream has the pieces that were fed and how the host said that they
-- ended, and the output what was written and how much of it was taken.
pub record Converses (settings : Chosen) (stream : Stream) (history : History) (output : Output) (report : Report) : Type 0 where
  -- the host said nothing that was refused
  pub lawful : IsLawful settings.cancels history
  pub framing : stream.framing ≡ settings.framing
  pub limit : stream.limit ≡ settings.content
  -- the units that came are those of the first contents, each read once, in order; and so are their origins
  pub came : units_of history ≡ map (read (rules_of settings)) (take (length (units_of history)) (contents stream))
  pub origins : origins_of history ≡ map (origin_of settings.tells_broken) (take (length (units_of history)) (placed_contents stream))
  -- all bytes that were written are those of the history's items, in their order
  pub bytes : all_bytes output ≡ bytes_of (framed settings.framing) (items_of settings.order history)
  pub counts : report ≡ report_of settings.order history

-- A conversation that is done.
pub record IsConversation (settings : Chosen) (stream : Stream) (history : History) (told : List Event) (output : Output) (report : Report) : Type 0 where
  pub converses : Converses settings stream history output report
  -- The input ended once: all contents came and the stream has ended so; or the next would have brought too many calls.
  pub close : Close
  pub closed : close_in history ≡ Some close
  pub ended : HasEnded settings stream history close
  -- the host was told all, and closed each call
  pub all_told : told ≡ events_of history
  pub answered : (number : ℕ) → 0 < number → is_open number history ≡ false
  -- and all that was written was taken
  pub taken : IsAllTaken output

-- A conversation as far as it has come.
pub record IsConversationCutShort (settings : Chosen) (stream : Stream) (history : History) (told : List Event) (output : Output) (report : Report) : Type 0 where
  pub converses : Converses settings stream history output report
  -- where the input has ended, it has so
  pub ended : (close : Close) → close_in history ≡ Some close → HasEnded settings stream history close
  -- the host was told a front of the events
  pub untold : List Event
  pub so_far : events_of history ≡ told ++ untold
  -- and no more was taken than was written
  pub taken : output.taken ≤ full_count output.framing output.written
