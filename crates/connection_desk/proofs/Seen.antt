-- What is seen of a desk's parts.
use Rattle.std.proofs.Common.{Bool, Option}
use Rattle.connection_messages.specs.declared.cancels.Cancels.{Cancels}
use Rattle.connection_history.specs.declared.order.Order.{Order}
use Rattle.open_calls.specs.Own.{OwnState}
use Rattle.open_calls.specs.Theirs.{TheirState}
use Rattle.owed_answers.specs.Owed.{OwedState}
use Rattle.outbox.specs.Output.{Output}
use Rattle.connection_desk.specs.declared.events.Events.{Events}
use Rattle.connection_desk.specs.declared.tally.Tally.{Tally}
use Rattle.connection_desk.specs.Desks.{Desk}
use Rattle.connection_desk.specs.Inner.{untold_of}

abbrev pub desk_of : Option Cancels → Order → OwnState → TheirState → OwedState → Bool → Events → Output → Tally → Desk
desk_of cancels order own theirs owed is_over events out tally = record {
  cancels = cancels;
  order = order;
  state = record { own = own; theirs = theirs; owed = owed; is_over = is_over };
  untold = untold_of events;
  out = out;
  tally = tally;
}
