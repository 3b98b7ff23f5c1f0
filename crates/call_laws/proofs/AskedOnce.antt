-- What `next_event` says of itself is what the laws on events ask for.
use Rattle.std.proofs.Common.{◌≡◌, List, [], ◌∷◌, ◌++◌, Option, Some, None, Result, Ok, Err, IfOk, IfSome, OnErr, option_to_list, refl, sym, subst, append-nil}
use Rattle.connection.specs.Connections.{Connection, GoesOn, HasGoneOn, IsStill, SamePieces, StandsAfter}
use Rattle.connection_history.specs.History.{History}
use Rattle.connection_history.specs.declared.event.Event.{Event}
use Rattle.call_laws.specs.Asking.{HasAsked}

module _ (before after : Connection) (history : History) (told : List Event) (pieces : SamePieces before.stream after.stream) (settings : after.settings ≡ before.settings) where
  abbrev TellsNone : Option Event → Type 0
  TellsNone next = next ≡ None → (now : History) × GoesOn before told history now × StandsAfter after now told × IsStill after now told

  pub asked-ok : {E : Type 0} (r : Result (Option Event) E) → IfOk r (λ next. IfSome next (λ event. (now : History) × GoesOn before told history now × StandsAfter after now (told ++ event ∷ [])))
      → IfOk r TellsNone → IfOk r (λ next. (now : History) × HasAsked before after history now told (told ++ option_to_list next))
  asked-ok (Ok (Some event)) tells none = (tells.0, record { goes_on = tells.1; stands = tells.2; pieces = pieces; settings = settings })
  asked-ok (Ok None) tells none =
      let it = none refl in
      (it.0, record { goes_on = it.1; stands = subst (StandsAfter after it.0) (sym (append-nil told)) it.2; pieces = pieces; settings = settings })
  asked-ok (Err fault) tells none = tt

  pub asked-none : {E : Type 0} (r : Result (Option Event) E) → IfOk r TellsNone
      → IfOk r (λ next. next ≡ None → (now : History) × HasAsked before after history now told told × IsStill after now told)
  asked-none (Ok next) none = λ is. let it = none is in (it.0, record { goes_on = it.1; stands = it.2; pieces = pieces; settings = settings }, it.3)
  asked-none (Err fault) none = tt

  pub asked-refused : {E : Type 0} (r : Result (Option Event) E) → OnErr r (HasGoneOn before after history told) → OnErr r ((now : History) × HasAsked before after history now told told)
  asked-refused (Ok next) gone = tt
  asked-refused (Err fault) gone = (gone.history, record { goes_on = gone.steps; stands = gone.stands; pieces = pieces; settings = settings })
