-- What was told and what was written stays.
use Rattle.std.proofs.Common.{◌≡◌, List, [], ◌∷◌, ◌++◌, sym, ap, ◌∙◌, append_assoc, append-nil}
use Rattle.connection_history.specs.declared.event.Event.{Event}
use Rattle.connection_history.specs.declared.order.Order.{Order}
use Rattle.connection_history.specs.Events.{events_at, events_of}
use Rattle.connection_history.specs.History.{Happening, History}
use Rattle.connection_history.specs.Items.{Item, items_at, items_of}

-- more that happens tells more after what was told
pub told_grows : (more : List Happening) (past : History) → (events : List Event) × (events_of (more ++ past) ≡ events_of past ++ events)
told_grows [] past = ([], sym (append-nil (events_of past)))
told_grows (h ∷ more) past =
    let before = told_grows more past in
    let here = events_at (more ++ past) h in
    (before.0 ++ here, ap (λ events. events ++ here) before.1 ∙ append_assoc (events_of past) before.0 here)

-- more that happens writes more after what was written
pub written_grows : (order : Order) (more : List Happening) (past : History) → (items : List Item) × (items_of order (more ++ past) ≡ items_of order past ++ items)
written_grows order [] past = ([], sym (append-nil (items_of order past)))
written_grows order (h ∷ more) past =
    let before = written_grows order more past in
    let here = items_at order (more ++ past) h in
    (before.0 ++ here, ap (λ items. items ++ here) before.1 ∙ append_assoc (items_of order past) before.0 here)
