-- What a session has taken and written so far, without its past.
use Rattle.std.specs.Prelude.{◌≡◌, ℕ, List, Bool, Option}
use Rattle.rpc_messages.specs.Unit.{SeenUnit}
use Rattle.method_steps.specs.Steps.{MethodTable}
use Rattle.handler_future.specs.State.{HandlerState}
use Rattle.peer_output.specs.Items.{Item}
use Rattle.peer_output.specs.Past.{Past, past_units}
use Rattle.peer_events.specs.Core.{Core}
use Rattle.peer_events.specs.Fits.{AtRest}

-- The session stands after these units, whose input is over or goes on, with these items written and these jobs out: some past fits it.
pub record StandsAfter (table : MethodTable) (is_over : Bool) (s : Core) (jobs : ℕ → Option HandlerState) (units : List SeenUnit) (items : List Item) :
    Type 0 where
  pub past : Past
  pub rests : AtRest table is_over s past jobs
  pub units_are : past_units past ≡ units
  pub items_are : past.items ≡ items
