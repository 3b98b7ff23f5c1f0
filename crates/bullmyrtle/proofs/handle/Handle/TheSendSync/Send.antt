-- A handle may go to another thread, since its value may.
use mir.Raw.{raw}
use denote.Memory.{lone}
use denote.Param.Send.{IsSend, AllSend, owning_send, struct_send, sendable}
use denote.Struct.Struct.{exits_of}
use denote.Struct.Owning.{shape, fields, to}
use Rattle.std.proofs.Crossing as heap
use Rattle.std.proofs.alloc.Global.TheSendSync as global
use Rattle.std_alloc.proofs.SendSync.{lies, quiet}
use Rattle.bullmyrtle.specs.Held.{held_row as C}
use Rattle.host_calls.proofs.hosted.HostedConnection.TheSendSync.{the_send as value}
use Rattle.bullmyrtle.specs.contracts.handle.Handle.{the_row, the_type}

pub send : IsSend the_row
send =
    let all : AllSend (fields the_type) = (search sendable, (global.the_field_send, tt)) in
    owning_send the_type all (λ h. (lies C value h.at h.value, heap.frees.frees h.alloc (raw (lone C.mir)) h.at))
    (λ k. quiet (to the_type) (exits_of k (fields the_type)) ((struct_send (shape the_type) all).leaving k))
