-- What a connection reads of the items that a peer with a table has written, in frames or in lines.
use Rattle.std.specs.Prelude.{◌≡◌, ◌≢◌, ◌≤◌, ◌⊎◌, ℕ, List, [], ◌++◌, All, Some, length, map, false}
use Rattle.lsp_frames.specs.Frames.{HasNoLf}
use Rattle.lsp_frames.specs.declared.limits.TheConstants.{LONGEST_CONTENT}
use Rattle.connection.specs.Connections.{Connection}
use Rattle.connection.specs.Settings.{rules_of}
use Rattle.connection_history.specs.History.{History, units_of}
use Rattle.connection_messages.specs.Reading.{unit_of}
use Rattle.connection_messages.specs.declared.rules.Rules.{Rules}
use Rattle.connection_messages.specs.declared.unit.Unit.{Unit}
use Rattle.content_streams.specs.Streams.{joined}
use Rattle.content_streams.specs.declared.ending.HowEnded.TheVariants.{Closed}
use Rattle.content_streams.specs.declared.framing.Framing.TheVariants.{Frames, Lines}
use Rattle.peer_output.specs.Items.{Item, bytes_of, item_text}
use Rattle.peer_session.specs.Framings.{bytes_in}
use Rattle.stream_framing.specs.declared.framing.Framing.TheVariants as written
use Rattle.across_wings.specs.Enclosed.{IsEnclosed}

-- an item, as a connection reads its text
abbrev pub item_as_read : Rules → Item → Unit
item_as_read rules item = unit_of rules false (item_text item)

-- A connection was fed the bytes of these items in frames, or a front of them, wherever they were cut. None is too large for it.
pub record IsFedItems (connection : Connection) (items : List Item) : Type 0 where
  pub framing : connection.settings.framing ≡ Frames
  pub rest : List ℕ
  pub fed : joined connection.stream.pieces ++ rest ≡ bytes_of items
  pub possible : connection.settings.content ≤ LONGEST_CONTENT
  pub fits : All (λ item. length (item_text item) ≤ connection.settings.content) items

-- An item's text is a line as it stands: no LF cuts it, it isn't blank, and no CR at its end is dropped.
pub record IsInOneLine (item : Item) : Type 0 where
  pub one : HasNoLf (item_text item)
  pub enclosed : IsEnclosed (item_text item)

-- The same in lines. The input isn't closed before all bytes have come: the start of a line would count as one.
pub record IsFedLines (connection : Connection) (items : List Item) : Type 0 where
  pub framing : connection.settings.framing ≡ Lines
  pub rest : List ℕ
  pub fed : joined connection.stream.pieces ++ rest ≡ bytes_in written.Lines items
  pub whole : (connection.stream.ended ≢ Some Closed) ⊎ (rest ≡ [])
  pub lines : All IsInOneLine items
  pub fits : All (λ item. length (item_text item) ≤ connection.settings.content) items

-- What came to it are the first of the items, in their order, each read by itself.
pub record HasReadItems (connection : Connection) (history : History) (items : List Item) : Type 0 where
  pub front : List Item
  pub rest : List Item
  pub whole : items ≡ front ++ rest
  pub read : units_of history ≡ map (item_as_read (rules_of connection.settings)) front
