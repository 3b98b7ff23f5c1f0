-- What a unit is for whoever doesn't look at the params of a call that came alone.
use Rattle.rpc_messages.specs.Entry.{SeenEntry, call, reply, stray, invalid}
use Rattle.rpc_messages.specs.Unit.{SeenUnit, unreadable, single, batch}
use Rattle.rpc_messages.specs.declared.call.Call.{Call}
use Rattle.rpc_messages.specs.declared.params.Params.TheVariants.{Omitted}

abbrev pub without_params : Call → Call
without_params c = record { id = c.id; method = c.method; params = Omitted; target = c.target }

abbrev pub outline_entry : SeenEntry → SeenEntry
outline_entry (call c) = call (without_params c)
outline_entry (reply n t r) = reply n t r
outline_entry stray = stray
outline_entry invalid = invalid

-- a batch is shown whole
abbrev pub outline : SeenUnit → SeenUnit
outline unreadable = unreadable
outline (single e) = single (outline_entry e)
outline (batch es) = batch es
