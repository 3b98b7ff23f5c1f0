-- The event that is told next.
use Rattle.std.specs.Prelude.{◌≡◌, ◌⊎◌, List, [], ◌∷◌, ◌++◌, Option, Some, None}
use Rattle.connection_history.specs.declared.event.Event.{Event}
use Rattle.connection_history.specs.History.{History}
use Rattle.connection.specs.Connections.{Connection, StandsAfter, GoesOn, IsStill, HasGoneOn}
use Rattle.host_calls.specs.Retaining.{RetainsPieces}
use Rattle.host_calls.specs.declared.outlet.Outlet.{Outlet}

-- From c to d the connection goes on, and tells this.
abbrev pub Tells : Connection → Connection → Option Event → Type 0
Tells c d None = (history : History) (told : List Event) → StandsAfter c history told →
    (now : History) × GoesOn c told history now × StandsAfter d now told × IsStill d now told
Tells c d (Some e) = (history : History) (told : List Event) → StandsAfter c history told →
    (now : History) × GoesOn c told history now × StandsAfter d now (told ++ e ∷ [])

-- b is a with its next event at hand, where there is one
abbrev pub At : Option Event → Outlet → Outlet → Type 0
At (Some e) a b = b ≡ a
At None a b = RetainsPieces a.connection b.connection × Tells a.connection b.connection b.next

abbrev pub Fetched : Outlet → Outlet → Type 0
Fetched a b = At a.next a b

-- Memory was refused before an event was at hand: the connection may have gone on, and nothing was told.
abbrev pub Failed : Outlet → Outlet → Type 0
Failed a b = (a.next ≡ None) × (b.next ≡ None) × RetainsPieces a.connection b.connection ×
    ((history : History) (told : List Event) → StandsAfter a.connection history told → HasGoneOn a.connection b.connection history told)

-- Memory was refused, and the event, if it is at hand, waits.
abbrev pub Kept : Outlet → Outlet → Type 0
Kept a b = Failed a b ⊎ Fetched a b
