-- What a connection told is at hand.
use Rattle.std.proofs.Common.{◌≡◌, List, [], ◌∷◌, ◌++◌, Option, Some, None, Result, Ok, Err, IfOk, OnErr, IfSome, refl, sym, subst, is_some, false}
use Rattle.std.proofs.lemmas.Bool.{true≢false}
use Rattle.std.specs.declared.alloc.AllocError.{AllocError}
use Rattle.connection_history.specs.declared.event.Event.{Event}
use Rattle.connection_history.specs.History.{History}
use Rattle.connection.specs.Connections.{Connection, StandsAfter, GoesOn, IsStill, HasGoneOn}
use Rattle.host_calls.specs.declared.outlet.Outlet.{Outlet}
use Rattle.host_calls.specs.Retaining.{RetainsPieces}
use Rattle.host_calls.specs.Outlets.{Tells, At, Fetched, Failed}

abbrev pub Asked : Type 0
Asked = Result (Option Event) AllocError

-- what `next_event` says of an event, and of none
abbrev pub SaysTold : Connection → Connection → Asked → Type 0
SaysTold c d r = (history : History) (told : List Event) → StandsAfter c history told →
    IfOk r (λ next. IfSome next (λ event. (now : History) × GoesOn c told history now × StandsAfter d now (told ++ event ∷ [])))

abbrev pub SaysNone : Connection → Connection → Asked → Type 0
SaysNone c d r = (history : History) (told : List Event) → StandsAfter c history told →
    IfOk r (λ next. next ≡ None → (now : History) × GoesOn c told history now × StandsAfter d now told × IsStill d now told)

of_ok : (c d : Connection) (next : Option Event) → SaysTold c d (Ok next) → SaysNone c d (Ok next) → Tells c d next
of_ok c d None f g = λ history told stands. g history told stands refl
of_ok c d (Some e) f g = f

-- no event waits where that is seen
pub none_waits : (next : Option Event) → is_some next ≡ false → next ≡ None
none_waits None none = refl
none_waits (Some e) none = absurd (true≢false none)

-- else it is the connection's
pub asked : (a : Outlet) (d : Connection) (r : Asked) → a.next ≡ None → RetainsPieces a.connection d → SaysTold a.connection d r → SaysNone a.connection d r
    → IfOk r (λ next. Fetched a (record a { connection = d; next = next }))
asked a d (Ok next) h kept f g =
    let P : Option Event → Type 0 = λ n. At n a (record a { connection = d; next = next }) in
    subst P (sym h) (kept, of_ok a.connection d next f g)
asked a d (Err e) h kept f g = tt

pub failed : (a : Outlet) (d : Connection) (left : Option Event) (r : Asked) → a.next ≡ None → left ≡ None → RetainsPieces a.connection d
    → ((history : History) (told : List Event) → StandsAfter a.connection history told → OnErr r (HasGoneOn a.connection d history told))
    → OnErr r (Failed a (record a { connection = d; next = left }))
failed a d left (Ok next) h e kept f = tt
failed a d left (Err it) h e kept f = (h, e, kept, f)
