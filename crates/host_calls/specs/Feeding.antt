-- What goes in.
use Rattle.std.specs.Prelude.{◌≡◌, ◌≢◌, ◌⊎◌, ℕ, List, [], ◌∷◌, ◌++◌, Bool, None, Ok, Err, is_some, if◌then◌else◌}
use Rattle.std.specs.Option.{option_map_or}
use Rattle.connection_history.specs.declared.refused.Refused.TheVariants.{Over}
use Rattle.connection_history.specs.declared.refused.Refused.TheVariants as refused
use Rattle.content_streams.specs.Streams.{capped, fault_place}
use Rattle.connection.specs.Connections.{Connection}
use Rattle.host_calls.specs.declared.code.Why.TheVariants.{Refused}
use Rattle.host_calls.specs.declared.outlet.Outlet.{Outlet}
use Rattle.host_calls.specs.Codes.{Said}

-- with this piece behind what was fed before; once the input is over it is ignored
abbrev pub fed : Connection → List ℕ → Connection
fed c bytes = if c.desk.state.is_over then c else record c { stream = record c.stream { pieces = c.stream.pieces ++ bytes ∷ [] } }

abbrev pub HasFed : Outlet → Outlet → List ℕ → Said → Type 0
HasFed a b bytes (Ok _) = (a.connection.stream.ended ≡ None) × (b ≡ record a { connection = fed a.connection bytes })
HasFed a b bytes (Err why) = (b ≡ a) × ((why ≡ Refused refused.Memory) ⊎ ((why ≡ Refused Over) × (a.connection.stream.ended ≢ None)))

-- Where the bytes that were fed are at fault, its place is written, and else nothing is.
abbrev pub HasFaultAt : Outlet → ℕ → ℕ → Bool → Type 0
HasFaultAt a old new at_fault = (at_fault ≡ is_some (fault_place a.connection.stream)) × (new ≡ option_map_or capped (fault_place a.connection.stream) old)
