use Rattle.std.proofs.Common.{◌≡◌, ◌++◌, map, take}
use Rattle.peer_output.specs.Course.{message}
use Rattle.peer_output.specs.Items.{sent}
use Rattle.peer_session.specs.Framings.{bytes_in}
use Rattle.peer_session.specs.Inner.Writing.{Counts}
use Rattle.peer_session.proofs.writing.put_messages.Given as goal

abbrev pub invariant-loop-message : goal.invariant-loop-message
invariant-loop-message l =
    let items = map (sent l.number) (map message (take l.message-index l.messages)) in
    record {
      bytes : l.bytes.items ≡ l.initial.bytes.items ++ bytes_in l.framing items;
      counts : Counts l.written items;
    }
