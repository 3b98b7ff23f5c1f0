-- What lies behind a handle, as the logic has it.
use denote.RattleType.{RattleType}
use Rattle.host_calls.specs.contracts.hosted.HostedConnection.{the_row}

abbrev pub held_row : RattleType
held_row = the_row

abbrev pub Held : Type 0
Held = held_row.Denot
