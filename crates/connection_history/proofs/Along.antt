-- An array of entries as far as it has come, and what is told along it.
use Rattle.std.proofs.Common.{◌≡◌, List, [], ◌∷◌, ◌++◌, sym, ap, ◌∙◌, append_assoc, append-nil, None}
use Rattle.connection_messages.specs.declared.entry.Entry.{Entry}
use Rattle.connection_messages.specs.declared.unit.Unit.TheVariants.{Batch}
use Rattle.connection_history.specs.Events.{events_of_entry, events_along}
use Rattle.connection_history.specs.History.{came, History}

-- an array of entries as far as it has come
abbrev pub so_far : History → List Entry → History
so_far past front = came None (Batch front) ∷ past

-- what is told of entries, and then of more
pub events_along-append : (past : History) (front es more : List Entry) → events_along past front (es ++ more) ≡ events_along past front es ++ events_along past (front ++ es) more
events_along-append past front [] more = ap (λ l. events_along past l more) (sym (append-nil front))
events_along-append past front (e ∷ es) more =
    ap (λ l. events_of_entry (so_far past front) e ++ l)
    (events_along-append past (front ++ e ∷ []) es more ∙ ap (λ l. events_along past (front ++ e ∷ []) es ++ events_along past l more) (append_assoc front (e ∷ []) es))
    ∙ sym (append_assoc (events_of_entry (so_far past front) e) (events_along past (front ++ e ∷ []) es) (events_along past (front ++ e ∷ es) more))
