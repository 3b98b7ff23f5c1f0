-- What lies behind a handle.
use Rattle.host_calls.specs.declared.hosted.HostedConnection.{HostedConnection}
use Rattle.bullmyrtle.specs.declared.handle.Handle.{Handle}

-- the value behind the handle's pointer
abbrev pub value_of : Handle → HostedConnection
value_of h = h.value
