-- A desk is its parts.
use Rattle.std.proofs.Common.{◌≡◌, List, Bool, Option, ap, ◌∙◌}
use Rattle.connection_messages.specs.declared.cancels.Cancels.{Cancels}
use Rattle.connection_history.specs.declared.event.Event.{Event}
use Rattle.connection_history.specs.declared.order.Order.{Order}
use Rattle.open_calls.specs.Own.{OwnState}
use Rattle.open_calls.specs.Theirs.{TheirState}
use Rattle.owed_answers.specs.Owed.{OwedState}
use Rattle.outbox.specs.Output.{Output}
use Rattle.connection_steps.specs.States.{State}
use Rattle.connection_desk.specs.Desks.{Desk}
use Rattle.connection_desk.specs.declared.tally.Tally.{Tally}

abbrev pub state : OwnState → TheirState → OwedState → Bool → State
state own theirs owed is_over = record { own = own; theirs = theirs; owed = owed; is_over = is_over }

abbrev pub desk_of : Option Cancels → Order → Bool → OwnState → TheirState → OwedState → List Event → Output → Tally → Desk
desk_of cancels order is_over own theirs owed untold out tally = record {
  cancels = cancels;
  order = order;
  state = record { own = own; theirs = theirs; owed = owed; is_over = is_over };
  untold = untold;
  out = out;
  tally = tally;
}

pub same-desk : (cancels : Option Cancels) (order : Order) (is_over : Bool) (own1 own2 : OwnState) (theirs1 theirs2 : TheirState) (owed1 owed2 : OwedState) (untold1 untold2 : List Event) (out1 out2 : Output) (tally1 tally2 : Tally)
    → own1 ≡ own2 → theirs1 ≡ theirs2 → owed1 ≡ owed2 → untold1 ≡ untold2 → out1 ≡ out2 → tally1 ≡ tally2
    → desk_of cancels order is_over own1 theirs1 owed1 untold1 out1 tally1 ≡ desk_of cancels order is_over own2 theirs2 owed2 untold2 out2 tally2
same-desk cancels order is_over own1 own2 theirs1 theirs2 owed1 owed2 untold1 untold2 out1 out2 tally1 tally2 a b d e f g =
    ap (λ x. desk_of cancels order is_over x theirs1 owed1 untold1 out1 tally1) a
    ∙ ap (λ x. desk_of cancels order is_over own2 x owed1 untold1 out1 tally1) b
    ∙ ap (λ x. desk_of cancels order is_over own2 theirs2 x untold1 out1 tally1) d
    ∙ ap (λ x. desk_of cancels order is_over own2 theirs2 owed2 x out1 tally1) e
    ∙ ap (λ x. desk_of cancels order is_over own2 theirs2 owed2 untold2 x tally1) f
    ∙ ap (λ x. desk_of cancels order is_over own2 theirs2 owed2 untold2 out2 x) g
