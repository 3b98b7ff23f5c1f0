-- The events of all that a connection was fed, and a host that asks for them.
use Rattle.std.specs.Prelude.{◌≡◌, ℕ, ◌+◌, nat_lt, List, [], ◌∷◌, ◌++◌, drop, length, Bool, Option, Some, None, if◌then◌else◌}
use Rattle.lsp_frames.specs.declared.frame.Frame.{Frame}
use Rattle.connection.specs.Connections.{Connection, GoesOn, SamePieces, StandsAfter, calls_of, close_of, content_came, placed_contents, read, stream_end}
use Rattle.connection.specs.Settings.{Chosen, rules_of}
use Rattle.connection_history.specs.Events.{call_count, events_of}
use Rattle.connection_history.specs.History.{History, ended, is_over, units_of}
use Rattle.connection_history.specs.declared.close.Close.TheVariants.{Full}
use Rattle.connection_history.specs.declared.event.Event.{Event}
use Rattle.content_streams.specs.declared.ending.StreamEnd.{StreamEnd}

-- ---- what happens while nothing is fed and the host says nothing

-- the input ends, where its stream has
abbrev pub end_behind : Option StreamEnd → History → History
end_behind None past = past
end_behind (Some end) past = ended (close_of end) ∷ past

-- whether a content would bring too many calls
abbrev pub is_too_much : Chosen → ℕ × Frame → History → Bool
is_too_much settings placed past = nat_lt settings.calls (call_count past + calls_of (read (rules_of settings) placed.1))

-- Each of these contents comes, until one would bring too many calls; and behind the last of them the input ends.
abbrev pub all_behind : Chosen → List (ℕ × Frame) → Option StreamEnd → History → History
all_behind settings [] end past = if is_over past then past else end_behind end past
all_behind settings (placed ∷ later) end past =
    if is_over past then past else if is_too_much settings placed past then ended Full ∷ past else all_behind settings later end (content_came settings placed ∷ past)

-- the contents that haven't come
abbrev pub contents_left : Connection → History → List (ℕ × Frame)
contents_left c history = drop (length (units_of history)) (placed_contents c)

-- The events of all that it was fed: those that the host was told, and those that are left.
abbrev pub all_events : Connection → History → List Event
all_events c history = events_of (all_behind c.settings (contents_left c history) (stream_end c) history)

-- ---- a host that asks

-- What a call of `next_event` says, where these events were told before and those since: what has come since came of what was fed.
pub record HasAsked (before after : Connection) (past now : History) (told since : List Event) : Type 0 where
  pub goes_on : GoesOn before told past now
  pub stands : StandsAfter after now since
  pub pieces : SamePieces before.stream after.stream
  pub settings : after.settings ≡ before.settings

-- A host that asks again and again, and does nothing else: a call tells an event, or tells none, as where there is none or it is refused.
pub data Asks (first : Connection) (past : History) (told : List Event) : Connection → History → List Event → Type 0 where
  begin : Asks first past told first past told
  is_told : (before after : Connection) (history now : History) (heard : List Event) (event : Event) → Asks first past told before history heard
      → HasAsked before after history now heard (heard ++ event ∷ []) → Asks first past told after now (heard ++ event ∷ [])
  is_not_told : (before after : Connection) (history now : History) (heard : List Event) → Asks first past told before history heard
      → HasAsked before after history now heard heard → Asks first past told after now heard
